-- The row of a key by the references so far, and one reference more.
use Rattle.std.proofs.Common.{ℕ, ◌+◌, List, Option, [], ◌∷◌, ◌++◌, Some, length, map, option_map, take, get_or, sym, ap, ◌∙◌, subst, arith}
use Rattle.std.specs.Borrow.{Bor}
use Rattle.std.proofs.lemmas.Bool.{false≢true}
use Rattle.std.proofs.lemmas.List.{take_all}
use Rattle.rn_graph.proofs.Graphs.BuiltRows.{none_below}
use Rattle.rn_graph.specs.Graph.{AllBelow}
use Rattle.rn_assemble.specs.inside.Referred.{AreNumbers, KeepsLeast, names_within, reference_view, within}
use Rattle.rn_assemble.specs.inside.Views.{names_of}
use Rattle.rn_pattern.specs.declared.references.Reach.{Reach}
use Rattle.rn_pattern.specs.declared.references.Reach.TheVariants.{Everywhere, OutsideElements}
use Rattle.rn_assemble.proofs.Referring.LeastUndefined.{below_within, keeps_marked, keeps_none, keeps_unmarked, marked_name, names_more, no_numbers, no_reference, number_found}
use Rattle.rn_assemble.proofs.by_key.references.row_of.Goals as goal
use Rattle.rn_assemble.proofs.by_key.references.row_of.Goals.{then-not-has_mark, else-not-has_mark}

pub loop-reference-init : goal.loop-reference-init
loop-reference-init c = record {
  everywhere_within = rw c.clear.ensures.everywhere (none_below _);
  everywhere = rw c.clear.ensures.everywhere (no_numbers _);
  outside_within = rw c.clear.ensures.outside (none_below _);
  outside = rw c.clear.ensures.outside (no_numbers _);
  least = keeps_none (names_of c.args.keys.now) c.args.is_defined.now _;
}

pub loop-reference-preserved : goal.loop-reference-preserved
loop-reference-preserved c =
    let names = names_of c.args.keys.now in
    let rs = c.args.references.now in
    let i = c.loop-reference.reference-index in
    let r = get_or rs i no_reference in
    let everywhere = c.loop-reference.row.everywhere.items in
    let outside = c.loop-reference.row.outside.items in
    let o = c.find-key.result in
    let inv = c.loop-reference.invariant in
    let held = option_map (λ t. t.now) c.args.undefined.now in
    let mark = marked_name names c.args.keys.now.in_order c.args.is_defined.now r.name.now o c.find-key.ensures.found in
    let before = λ (meant : Reach). names_within meant (map reference_view (take i rs)) in
    let more = λ (meant : Reach). sym (names_more meant rs i c.loop-reference-test.true) in
    record {
      everywhere_within = subst (AllBelow (length names + 1)) (sym c.in_ok-add_key.ensures.everywhere) (below_within _ everywhere Everywhere r.reach o inv.everywhere_within c.find-key.ensures.within);
      everywhere = subst (λ ts. AreNumbers names ts c.add_key.new.row.everywhere.items) (more Everywhere)
          (subst (AreNumbers names (before Everywhere ++ r.name.now ∷ [])) (sym c.in_ok-add_key.ensures.everywhere) (number_found names _ everywhere r.name.now inv.everywhere Everywhere r.reach o c.find-key.ensures.found));
      outside_within = subst (AllBelow (length names + 1)) (sym c.in_ok-add_key.ensures.outside) (below_within _ outside OutsideElements r.reach o inv.outside_within c.find-key.ensures.within);
      outside = subst (λ ts. AreNumbers names ts c.add_key.new.row.outside.items) (more OutsideElements)
          (subst (AreNumbers names (before OutsideElements ++ within OutsideElements r.reach r.name.now)) (sym c.in_ok-add_key.ensures.outside) (number_found names _ outside r.name.now inv.outside OutsideElements r.reach o c.find-key.ensures.found));
      least = subst (λ ts. KeepsLeast names c.args.is_defined.now ts held (option_map (λ t. t.now) c.if-not-has_mark.undefined)) (more Everywhere) (elim c.if-not-has_mark.branch [
        | then-not-has_mark w ↦ subst (KeepsLeast names c.args.is_defined.now (before Everywhere ++ r.name.now ∷ []) held) (sym (ap (option_map (λ t. t.now)) w.undefined-is ∙ ap Some w.lesser_name.ensures))
            (keeps_unmarked names c.args.is_defined.now (before Everywhere) held _ r.name.now (λ m. false≢true (w.if-not-has_mark.ensures ∙ mark.1 m)) inv.least)
        | else-not-has_mark w ↦ subst (λ u. KeepsLeast names c.args.is_defined.now (before Everywhere ++ r.name.now ∷ []) held (option_map (λ t. t.now) u)) (sym w.undefined-is)
            (keeps_marked names c.args.is_defined.now (before Everywhere) held _ r.name.now (mark.0 (sym w.if-not-has_mark.ensures)) inv.least)
      ]);
    }

pub returns-clause-least : goal.returns-clause-least
returns-clause-least c =
    let held = λ (u : Option (Bor (List ℕ))). option_map (λ t. t.now) u in
    subst (λ rs. KeepsLeast (names_of c.args.keys.now) c.args.is_defined.now (names_within Everywhere (map reference_view rs)) (held c.args.undefined.now) (held c.loop-reference.undefined))
    (take_all c.loop-reference.reference-index c.args.references.now (omega arith)) c.loop-reference.invariant.least
