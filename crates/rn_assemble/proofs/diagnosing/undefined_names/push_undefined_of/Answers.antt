-- The name of one reference more.
use Rattle.std.proofs.Common.{◌≡◌, ◌+◌, ◌<◌, ◌++◌, ◌∷◌, [], List, length, map, take, get_or, refl, sym, ap, ◌∙◌, subst, arith}
use Rattle.std.proofs.lemmas.Bool.{false≢true}
use Rattle.std.specs.Prelude.{option_map, slice_get}
use Rattle.std.proofs.lemmas.List.{get_or_default, take_all}
use Rattle.std.proofs.lemmas.Option.{slice_get-map, slice_get_read}
use Rattle.rn_pattern.proofs.Ordered.InOrder.{contains_front}
use Rattle.rn_syntax.specs.View.{pattern_view}
use Rattle.rn_text.specs.Texts.{Text}
use Rattle.rn_pattern.specs.declared.references.Reach.{Reach}
use Rattle.rn_pattern.specs.declared.references.Reach.TheVariants.{Everywhere, OutsideElements}
use Rattle.rn_assemble.specs.declared.by_key.references.Reference.{Reference}
use Rattle.rn_assemble.specs.declared.diagnosing.undefined_names.UndefinedName.{UndefinedName}
use Rattle.rn_assemble.specs.inside.Diagnosing.{AddsUnmarked}
use Rattle.rn_assemble.specs.inside.Referred.{names_within, reference_view, references}
use Rattle.rn_assemble.specs.inside.Views.{names_of}
use Rattle.rn_assemble.proofs.Diagnoses.UndefinedNames.{unmarked_both, unmarked_met, unmarked_none, unmarked_passed}
use Rattle.rn_assemble.proofs.Referring.LeastUndefined.{marked_name, names_more, no_reference}
use Rattle.rn_assemble.proofs.diagnosing.undefined_names.push_undefined_of.Goals as goal
use Rattle.rn_assemble.proofs.diagnosing.undefined_names.push_undefined_of.Goals.{then-not-has_mark+in_ok-push, else-not-has_mark}

pub loop-number-init : goal.loop-number-init
loop-number-init c = unmarked_none (c.args.component.now ∷ []) (names_of c.args.keys.now) c.args.is_defined.now c.args.found.now.items

pub loop-number-preserved : goal.loop-number-preserved
loop-number-preserved c =
    let v = c.args.component.now in
    let row = v ∷ [] in
    let names = names_of c.args.keys.now in
    let marks = c.args.is_defined.now in
    let rs = c.refer.new.found.items in
    let i = c.loop-number.number in
    let r = c.index.result.now in
    let old = c.args.found.now.items in
    let found = c.loop-number.found.items in
    let l : i < length rs = omega (arith, c.loop-number-test.true, c.len-number-end.ensures, c.refer.new.found.ok.0) in
    let read : get_or rs i no_reference ≡ r = get_or_default rs i no_reference r l ∙ sym c.index.ensures in
    let before = names_within Everywhere (map reference_view (take i rs)) in
    let more = names_more Everywhere rs i l ∙ ap (λ (q : Reference). before ++ q.name.now ∷ []) read in
    let mark = marked_name names c.args.keys.now.in_order marks r.name.now c.find.result c.find.ensures.found in
    subst (λ ts. AddsUnmarked row names marks ts old c.if-not-has_mark.found.items) (sym more)
    (unmarked_both row names marks before (r.name.now ∷ []) old found c.if-not-has_mark.found.items c.loop-number.invariant (elim c.if-not-has_mark.branch [
      | then-not-has_mark+in_ok-push w ↦
          let all = c.in_ok-refer.ensures ∙ (λ j. map reference_view (c.new-references.ensures.items j) ++ references OutsideElements (pattern_view (c.deref.ensures j))) in
          let at = ap (λ qs. slice_get (map (λ (q : Text × Reach). q.0) qs) i) (sym all) ∙ slice_get-map (λ (q : Text × Reach). q.0) (map reference_view rs) i ∙ ap (option_map (λ (q : Text × Reach). q.0)) (slice_get-map reference_view rs i ∙ ap (option_map reference_view) (slice_get_read rs (length rs) i r refl l c.index.ensures)) in
          unmarked_met row names marks r.name.now (λ m. false≢true (w.if-not-has_mark.ensures ∙ mark.1 m)) found c.if-not-has_mark.found.items _ refl (record { component = v; among = contains_front v []; component_is = w.of-component.ensures; at = at }) (ap (λ v. v.items) w.found-is ∙ w.in_ok-push.ensures.items)
      | else-not-has_mark w ↦
          subst (λ (us : List UndefinedName). AddsUnmarked row names marks (r.name.now ∷ []) found us) (sym (ap (λ v. v.items) w.found-is))
          (unmarked_passed row names marks r.name.now (mark.0 (sym w.if-not-has_mark.ensures)) found)
    ]))

pub returns : goal.returns
returns c =
    let rs = c.refer.new.found.items in
    let all = take_all c.loop-number.number rs (omega (arith, c.loop-number-test.false, c.len-number-end.ensures, c.refer.new.found.ok.0)) in
    let are = ap (map reference_view) all ∙ c.in_ok-refer.ensures ∙ (λ j. map reference_view (c.new-references.ensures.items j) ++ references OutsideElements (pattern_view (c.deref.ensures j))) in
    subst (λ qs. AddsUnmarked (c.args.component.now ∷ []) (names_of c.args.keys.now) c.args.is_defined.now (names_within Everywhere qs) c.args.found.now.items c.loop-number.found.items) are c.loop-number.invariant
