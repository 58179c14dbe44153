use Rattle.std.proofs.Common.{◌≡◌, ◌<◌, ℕ, List, get_or, length, refl, sym, ap, ◌∙◌, subst, arith}
use Rattle.std.specs.Prelude.{bytes_eq, string_bytes}
use Rattle.std.specs.List.{IsDistinct}
use Rattle.std.proofs.lemmas.List.{take_all}
use Rattle.std.proofs.lemmas.List.Elements.{Contains-get_or}
use Rattle.rn_assemble.specs.Firsts.{AreFirsts, joined_members}
use Rattle.rn_assemble.specs.GrammarView.{definitions_view, grammar_view}
use Rattle.rn_pattern.specs.View.{pattern_view}
use Rattle.rn_simplify.specs.inside.FormKinds.{becomes, settled_form}
use Rattle.rn_simplify.proofs.Simplified.StoreIds.{keeps_then}
use Rattle.rn_simplify.proofs.Simplified.DefinitionForms.{AreFormed, entry_put, formed_next, have_forms, names_stay, none_formed, same_size}
use Rattle.rn_simplify.proofs.Simplified.DefinitionNumbers.{size_of_view}
use Rattle.rn_simplify.proofs.Simplified.ReferenceGraph.{nothing}
use Rattle.rn_simplify.proofs.Simplified.SettlingOrder.{all_below}
use Rattle.rn_simplify.proofs.normalising.definition_forms.Goals as goal

pub body_of-body-requires : goal.body_of-body-requires
body_of-body-requires g c =
    let order = c.settling_order-order.result.now in
    let i = c.loop-index.index-index in
    omega (arith, all_below (grammar_view c.args.grammar.now) order c.settling_order-order.ensures (get_or order i 0) (Contains-get_or order i 0 c.loop-index-test.true), ap length c.requires, size_of_view c.args.settled.now.definitions.now.entries)

pub body_form-requires : goal.body_form-requires
body_form-requires g c =
    let order = c.settling_order-order.result.now in
    let i = c.loop-index.index-index in
    let n = get_or order i 0 in
    let G = grammar_view c.args.grammar.now in
    subst (λ p. AreFirsts c.firsts.result.now (joined_members p)) (sym (c.body_of-body.ensures nothing ∙ ap (λ ds. (get_or ds n nothing).1) c.requires))
    (c.firsts.ensures nothing (all_below G order c.settling_order-order.ensures n (Contains-get_or order i 0 c.loop-index-test.true)))

pub loop-index-init : goal.loop-index-init
loop-index-init g c = record {
  kept = λ i h. (h, refl);
  named = c.in_ok-forms.ensures.named;
  made = none_formed (settled_form c.args.settled.now) (definitions_view c.args.settled.now.definitions.now.entries) c.settling_order-order.result.now (definitions_view c.in_ok-forms.forms.items);
}

pub loop-index-preserved : goal.loop-index-preserved
loop-index-preserved g c =
    let k = g.P.Patterns.knows in
    let r = g.P.Patterns.tree_of in
    let init = c.args.store.now in
    let old = c.loop-index.store in
    let new = c.body_form.new.store in
    let inv = c.loop-index.invariant in
    let G = grammar_view c.args.grammar.now in
    let ds = definitions_view c.args.settled.now.definitions.now.entries in
    let form = settled_form c.args.settled.now in
    let order = c.settling_order-order.result.now in
    let i = c.loop-index.index-index in
    let n = get_or order i 0 in
    let es = c.loop-index.forms.items in
    let e = c.index_mut.result.now in
    let q = c.in_ok-form.form in
    let below : n < length G.definitions = all_below G order c.settling_order-order.ensures n (Contains-get_or order i 0 c.loop-index-test.true) in
    let size : length (definitions_view es) ≡ length ds = same_size (definitions_view es) ds inv.named in
    let within : n < length (definitions_view es) = omega (arith, below, size, ap length c.requires) in
    let made : pattern_view q ≡ form (get_or ds n nothing).1 = c.in_ok-form.ensures.made ∙ ap form (c.body_of-body.ensures nothing) in
    record {
      kept = keeps_then (k init) (k old) (k new) (r init) (r old) (r new) inv.kept c.body_form.ensures.kept;
      named = names_stay es n e q (omega (arith, within, size_of_view es)) c.index_mut.ensures.value ∙ inv.named;
      made = formed_next form ds (definitions_view es) _ order i (string_bytes e.0, pattern_view q) c.loop-index-test.true within (entry_put es n e q) made inv.made;
    }

pub returns-clause-distinct : goal.returns-clause-distinct
returns-clause-distinct g c = subst (IsDistinct bytes_eq) (sym (c.loop-index.invariant.named ∙ sym c.in_ok-forms.ensures.named)) c.in_ok-forms.ensures.distinct

pub returns-clause-made : goal.returns-clause-made
returns-clause-made g c =
    let G = grammar_view c.args.grammar.now in
    let order = c.settling_order-order.result.now in
    let ds = definitions_view c.args.settled.now.definitions.now.entries in
    let fs = definitions_view c.loop-index.forms.items in
    let inv = c.loop-index.invariant in
    have_forms G (becomes c.args.settled.now) order c.settling_order-order.ensures ds fs c.requires inv.named
    (subst (λ (ns : List ℕ). AreFormed (settled_form c.args.settled.now) ds ns fs) (take_all c.loop-index.index-index order (omega arith)) inv.made)
