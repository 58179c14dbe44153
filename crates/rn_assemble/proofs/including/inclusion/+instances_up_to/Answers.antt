use Rattle.std.proofs.Common.{arith, ℕ, List, subst, ap, length, get_or}
use Rattle.std.specs.Prelude.{Contains}
use Rattle.std.proofs.lemmas.List.Elements.{Contains-get_or}
use Rattle.rn_graph.specs.Graph.{rows_of}
use Rattle.rn_assemble.proofs.Expansion.CountedInstances.{CountsTo, counts_more, counts_all}
use Rattle.rn_assemble.proofs.including.inclusion.+instances_up_to.Goals as goal

pub instances_up_to-count-requires : goal.instances_up_to-count-requires
instances_up_to-count-requires t c =
    let at = Contains-get_or c.row-inner-items.result.now c.loop-inner.inner-index 0 c.loop-inner-test.true in
    let below = c.requires.graph c.args.«module».0 _ (subst (λ (l : List ℕ). Contains l (get_or c.row-inner-items.result.now c.loop-inner.inner-index 0)) c.row-inner-items.ensures at) in
    (omega (arith, c.decreases, c.loop-inner.invariant.some, c.if-most-eq0.false), (c.requires.graph, below))

pub loop-inner-preserved : goal.loop-inner-preserved
loop-inner-preserved t c =
    counts_more (rows_of c.args.edges.now) c.args.most c.loop-inner.count c.loop-inner.inner-index c.instances_up_to-count.result c.row-inner-items.result.now c.loop-inner-test.true c.loop-inner.invariant c.instances_up_to-count.ensures.up_to c.instances_up_to-count.ensures.counted

pub returns-clause-counted : goal.returns-clause-counted
returns-clause-counted t c =
    counts_all (rows_of c.args.edges.now) c.args.most c.loop-inner.count c.loop-inner.inner-index c.args.«module».0
    (omega (arith, c.loop-inner-test.false, ap (λ (l : List ℕ). length l) c.row-inner-items.ensures)) (omega (arith, c.if-most-eq0.false))
    (subst (λ (l : List ℕ). CountsTo (rows_of c.args.edges.now) c.args.most c.loop-inner.count c.loop-inner.inner-index l) c.row-inner-items.ensures c.loop-inner.invariant)
