-- The names of one key more, and then all in order.
use Rattle.std.proofs.Common.{◌≡◌, ◌≤◌, ◌<◌, List, suc, length, refl, sym, subst, arith}
use Rattle.std.specs.List.{AllByRecursion}
use Rattle.rn_pattern.specs.declared.references.Reach.TheVariants.{Everywhere}
use Rattle.rn_pattern.proofs.Ordered.InOrder.{contained_each, each_contained}
use Rattle.rn_assemble.specs.Diagnosed.{IsReference}
use Rattle.rn_assemble.specs.declared.diagnosing.undefined_names.UndefinedName.{UndefinedName}
use Rattle.rn_assemble.specs.declared.reading.keys.KeyId.{KeyId}
use Rattle.rn_assemble.specs.inside.ReferenceOrder.{AreDefinedKeys}
use Rattle.rn_assemble.specs.declared.including.pieces.Piece.{Piece}
use Rattle.rn_assemble.specs.inside.Diagnosing.{AddsUnmarked, AreReferred}
use Rattle.rn_assemble.specs.inside.Keyed.{key_at}
use Rattle.rn_assemble.specs.inside.Referred.{AreLiveMarks, AreMarksOf, marked_references, names_within}
use Rattle.rn_assemble.specs.inside.Views.{key_numbers, names_of}
use Rattle.rn_assemble.proofs.Diagnoses.KnownSegments.{known_ranges, known_row}
use Rattle.rn_assemble.proofs.Diagnoses.UndefinedNames.{AreUnmarkedBelow, are_undefined, more_below, none_below, referred_more}
use Rattle.rn_assemble.proofs.KeyFaults.KnownRows.{row_of}
use Rattle.rn_assemble.proofs.Referring.FoundReferences.{names_anywhere}
use Rattle.rn_assemble.proofs.diagnosing.undefined_names.undefined_names.Goals as goal

pub live_marks-requires : goal.live_marks-requires
live_marks-requires c =
    let x = c.args.segments.now in
    let row = c.row-row.result.now in
    let known = known_row c.args.rows.now x (names_of c.args.keys.now, c.requires) c.loop-number.number (omega (arith, c.loop-number-test.true, c.len-number-end.ensures)) row c.row-row.ensures in
    subst (AllByRecursion (λ (p : Piece). (p.from ≤ p.to) × (p.to ≤ length row))) (sym c.deref-in-loop-number.ensures.value) (known_ranges row x known c.live_pieces.new.pieces.items c.in_ok-live_pieces.ensures.pieces)

pub loop-number-init : goal.loop-number-init
loop-number-init c = (
  λ modules cs s rows segments. subst (λ (us : List UndefinedName). AreUnmarkedBelow (names_of c.args.keys.now) cs c.in_ok-is_defined.is_defined.items 0 us) (sym c.new-found.ensures.items) (none_below (names_of c.args.keys.now) cs c.in_ok-is_defined.is_defined.items),
  λ modules rows. subst (AreReferred modules) (sym c.new-found.ensures.items) tt,
)

pub loop-number-preserved : goal.loop-number-preserved
loop-number-preserved c = (
  λ modules cs s rows segments.
      let names = names_of c.args.keys.now in
      let marks = c.in_ok-is_defined.is_defined.items in
      let n = c.loop-number.number in
      let key = key_at names n in
      let row = c.row-row.result.now in
      let pieces = c.live_pieces.new.pieces.items in
      let is_live = c.in_ok-is_live.is_live.items in
      let below : n < length c.args.rows.now.rows.items = omega (arith, c.loop-number-test.true, c.len-number-end.ensures) in
      let row_is = row_of modules names c.args.rows.now rows n below row c.row-row.ensures in
      let are = c.in_ok-live_pieces.ensures.pieces modules key cs row_is segments in
      let live = subst (λ (ps : List Piece). AreLiveMarks ps (length row) is_live) c.deref-in-loop-number.ensures.value c.in_ok-is_live.ensures in
      let texts = names_within Everywhere (marked_references is_live row) in
      let adds = subst (λ ms. AddsUnmarked row names ms texts c.loop-number.found.items c.push_undefined.new.found.items) c.deref-in-loop-number-2.ensures.value
      (subst (λ ms. AddsUnmarked row names c.deref-in-loop-number-2.result.now (names_within Everywhere (marked_references ms row)) c.loop-number.found.items c.push_undefined.new.found.items) c.deref-in-loop-number-3.ensures.value c.in_ok-push_undefined.ensures) in
      more_below names cs marks row n c.loop-number.found.items c.push_undefined.new.found.items texts
      (names_anywhere modules c.args.segments.now.list.items key row cs pieces are is_live live (marked_references is_live row) refl)
      adds (c.loop-number.invariant.0 modules cs s rows segments),
  λ modules rows.
      let names = names_of c.args.keys.now in
      let n = c.loop-number.number in
      let row = c.row-row.result.now in
      let row_is = row_of modules names c.args.rows.now rows n (omega (arith, c.loop-number-test.true, c.len-number-end.ensures)) row c.row-row.ensures in
      referred_more modules (key_at names n) row row_is names _ _ c.loop-number.found.items c.push_undefined.new.found.items (c.loop-number.invariant.1 modules rows) c.in_ok-push_undefined.ensures,
)

pub returns-clause-places : goal.returns-clause-places
returns-clause-places c = λ modules rows.
    let old = c.loop-number.found.items in
    let new = c.put_in_order.new.found.items in
    each_contained (λ (u : UndefinedName). IsReference modules u.reference u.name.now) new (λ u there. contained_each (λ (u : UndefinedName). IsReference modules u.reference u.name.now) old (c.loop-number.invariant.1 modules rows) u (c.in_ok-put_in_order.ensures.each u there))

pub returns-clause-names : goal.returns-clause-names
returns-clause-names c = λ modules cs s rows segments.
    let names = names_of c.args.keys.now in
    let marks = c.in_ok-is_defined.is_defined.items in
    let keys = key_numbers c.deref.result.now in
    let size : c.len.result ≡ suc (length names) = omega (arith, c.len.ensures, rows.size) in
    let done : c.loop-number.number ≡ suc (length names) = omega (arith, c.loop-number-test.false, c.loop-number.auto.number-end, c.len-number-end.ensures, rows.size) in
    let defined = subst (λ (ks : List KeyId). AreDefinedKeys names cs (key_numbers ks)) (sym c.deref.ensures.value) (c.in_ok-defined.ensures modules names cs s rows segments) in
    are_undefined names cs marks keys defined (subst (λ n. AreMarksOf keys n marks) size c.in_ok-is_defined.ensures) c.loop-number.number done c.loop-number.found.items c.put_in_order.new.found.items
    (c.loop-number.invariant.0 modules cs s rows segments) c.in_ok-put_in_order.ensures
