use Rattle.std.proofs.Common.{◌≡◌, ℕ, List, length, get_or, set, sym, ap, ◌∙◌, subst, arith}
use Rattle.std.proofs.lemmas.List.{take_all}
use Rattle.std.proofs.lemmas.List.Elements.{Contains-get_or}
use Rattle.rn_pattern.specs.Tree.{Tree}
use Rattle.rn_text.specs.Texts.{Text}
use Rattle.rn_pattern.specs.Canonical.{canonical}
use Rattle.rn_assemble.specs.GrammarView.{definitions_view, grammar_view}
use Rattle.rn_simplify.specs.inside.DefinitionNumbers.{AreSettled}
use Rattle.rn_simplify.specs.inside.FormKinds.{becomes_by, kind_of}
use Rattle.rn_simplify.proofs.Simplified.DefinitionNumbers.{size_of_view}
use Rattle.rn_simplify.proofs.Simplified.FormKinds.{settled_canonical}
use Rattle.rn_simplify.proofs.Simplified.FormedGrammar.{settling_is}
use Rattle.rn_simplify.proofs.Simplified.ReferenceGraph.{nothing}
use Rattle.rn_simplify.proofs.Simplified.SettledMore.{settled_more, settled_none}
use Rattle.rn_simplify.proofs.Simplified.SettlingOrder.{all_below, in_order, rank}
use Rattle.rn_simplify.proofs.evaluation.settle_all.Goals as goal

pub settle_definition-requires-clause-within : goal.settle_definition-requires-clause-within
settle_definition-requires-clause-within c =
    let G = grammar_view c.args.grammar.now in
    let order = c.settling_order-order.result.now in
    let i = c.loop-index.index-index in
    omega (arith, all_below G order c.settling_order-order.ensures (get_or order i 0) (Contains-get_or order i 0 c.loop-index-test.true), ap length c.loop-index.invariant.definitions, size_of_view c.loop-index.settled.definitions.now.entries)

pub settle_definition-requires-clause-of : goal.settle_definition-requires-clause-of
settle_definition-requires-clause-of c = c.loop-index.invariant.definitions

pub loop-index-init : goal.loop-index-init
loop-index-init c =
    let G = grammar_view c.args.grammar.now in
    record {
      definitions = ap definitions_view c.in_ok-settled.ensures.definitions ∙ c.defs.ensures;
      settled = settled_none G.definitions c.settling_order-order.result.now _;
    }

pub loop-index-preserved : goal.loop-index-preserved
loop-index-preserved c =
    let inv = c.loop-index.invariant in
    let G = grammar_view c.args.grammar.now in
    let ds = G.definitions in
    let order = c.settling_order-order.result.now in
    let i = c.loop-index.index-index in
    let n = get_or order i 0 in
    let kinds = c.loop-index.settled.kinds.items in
    let kinds' = c.settle_definition.new.settled.kinds.items in
    let size : length kinds ≡ length ds = omega (arith, c.loop-index.settled.sized, ap length inv.definitions, size_of_view c.loop-index.settled.definitions.now.entries) in
    let one : kinds' ≡ set kinds n (kind_of (canonical (becomes_by ds kinds) (get_or ds n nothing).1)) =
    subst (λ es. kinds' ≡ set kinds n (kind_of (canonical (becomes_by es kinds) (get_or es n nothing).1))) inv.definitions (c.in_ok-settle_definition.ensures.settled nothing) in
    record {
      definitions = ap definitions_view c.settle_definition.ensures.definitions ∙ inv.definitions;
      settled = settled_more ds order kinds kinds' (in_order G order c.settling_order-order.ensures) size i c.loop-index-test.true one inv.settled;
    }

pub returns-clause-definitions : goal.returns-clause-definitions
returns-clause-definitions c = c.loop-index.invariant.definitions

pub returns-clause-exact : goal.returns-clause-exact
returns-clause-exact c =
    let G = grammar_view c.args.grammar.now in
    let order = c.settling_order-order.result.now in
    let o = c.settling_order-order.ensures in
    let es = definitions_view c.loop-index.settled.definitions.now.entries in
    let kinds = c.loop-index.settled.kinds.items in
    let all : AreSettled G.definitions order (becomes_by G.definitions kinds) =
    subst (λ (ns : List ℕ). AreSettled G.definitions ns (becomes_by G.definitions kinds)) (take_all c.loop-index.index-index order (omega arith)) c.loop-index.invariant.settled in
    let here : AreSettled G.definitions order (becomes_by es kinds) = subst (λ (fs : List (Text × Tree)). AreSettled G.definitions order (becomes_by fs kinds)) (sym c.loop-index.invariant.definitions) all in
    (rank G order o, settling_is G (becomes_by es kinds) order c.args.grammar.now.well_formed o (settled_canonical es kinds) here)
