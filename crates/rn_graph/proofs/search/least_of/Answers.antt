use Rattle.std.proofs.Common.{◌≤◌, ℕ, inl, inr, arith, get_or, subst, below_more}
use Rattle.std.specs.Prelude.{Contains}
use Rattle.std.proofs.lemmas.Bool.{cases_lt}
use Rattle.std.proofs.lemmas.List.Elements.{Contains-get_or}
use Rattle.rn_graph.proofs.Graphs.Searches.Rising.{stands}
use Rattle.rn_graph.proofs.search.least_of.Goals as goal

pub loop-node-preserved : goal.loop-node-preserved
loop-node-preserved c =
    let xs = c.args.nodes.now in
    let i = c.loop-node.node-index in
    let m = c.loop-node.least in
    record {
      among = elim (cases_lt m (get_or xs i 0)) [
        | inl lt ↦ subst (λ (z : ℕ). Contains xs z) (omega (arith, c.min-least.ensures, lt)) c.loop-node.invariant.among
        | inr ge ↦ subst (λ (z : ℕ). Contains xs z) (omega (arith, c.min-least.ensures, ge)) (Contains-get_or xs i 0 c.loop-node-test.true)
      ];
      below = below_more (λ (k : ℕ). c.min-least.result ≤ get_or xs k 0) i (λ k h. omega (arith, c.min-least.ensures, c.loop-node.invariant.below k h)) (omega (arith, c.min-least.ensures));
    }

pub returns-clause-least : goal.returns-clause-least
returns-clause-least c = λ x k.
    let s = stands c.args.nodes.now x k in
    omega (arith, c.loop-node.invariant.below s.0 (omega (arith, s.1, c.loop-node-test.false)), s.2)
