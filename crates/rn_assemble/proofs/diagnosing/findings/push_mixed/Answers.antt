-- What one key more has by both methods.
use Rattle.std.proofs.Common.{◌≡◌, ◌+◌, ◌<◌, List, suc, length, refl, sym, ap, ◌∙◌, subst, arith}
use Rattle.rn_syntax.specs.declared.tree.Method.TheVariants as m
use Rattle.std.specs.Prelude.{Some}
use Rattle.rn_assemble.specs.Components.{set_components}
use Rattle.rn_assemble.specs.Diagnosed.{IsDefinition}
use Rattle.rn_assemble.specs.Refusal.{mixed_methods}
use Rattle.rn_assemble.specs.declared.diagnosing.findings.Finding.{Finding}
use Rattle.rn_assemble.specs.inside.Diagnosing.{AddsBelow, meets}
use Rattle.rn_assemble.specs.inside.Keyed.{key_at}
use Rattle.rn_assemble.proofs.Diagnoses.CountedMethods.{counted_live, counted_mixed, mixed_counted}
use Rattle.rn_assemble.proofs.Diagnoses.FoundPlaces.{found_definition}
use Rattle.rn_assemble.proofs.Diagnoses.KeyFindings.{all_keys, found_more, mixed_kind, none_below, none_more}
use Rattle.rn_assemble.proofs.Diagnoses.KnownSegments.{known_slice}
use Rattle.rn_assemble.proofs.Diagnoses.Lacks.{key_is}
use Rattle.rn_assemble.proofs.Diagnoses.Occurrences.{occurs_within}
use Rattle.rn_assemble.proofs.Diagnoses.RefusalOrder.{key_rises}
use Rattle.rn_assemble.proofs.KeyFaults.KnownRows.{row_of}
use Rattle.rn_assemble.proofs.diagnosing.findings.push_mixed.Goals as goal
use Rattle.rn_assemble.proofs.diagnosing.findings.push_mixed.Goals.{then-not-is_empty+then-not-is_empty-2+in_ok-push, else-not-is_empty, else-not-is_empty-via-then-not-is_empty+else-not-is_empty-2, else-not-is_empty-via-else-not-is_empty}

pub first_two-requires-clause-pieces : goal.first_two-requires-clause-pieces
first_two-requires-clause-pieces c = (known_slice c.args.rows.now c.args.segments.now c.requires.known c.loop-number.number (omega (arith, c.loop-number-test.true, c.len-number-end.ensures)) c.row-row.result.now c.row-row.ensures c.deref.result.now c.live_pieces.new.pieces.items c.deref.ensures.value c.in_ok-live_pieces.ensures.pieces (length c.args.depths.now) c.requires.depths).0

pub first_two-requires-clause-depths : goal.first_two-requires-clause-depths
first_two-requires-clause-depths c = (known_slice c.args.rows.now c.args.segments.now c.requires.known c.loop-number.number (omega (arith, c.loop-number-test.true, c.len-number-end.ensures)) c.row-row.result.now c.row-row.ensures c.deref.result.now c.live_pieces.new.pieces.items c.deref.ensures.value c.in_ok-live_pieces.ensures.pieces (length c.args.depths.now) c.requires.depths).1

pub first_two-requires-in-loop-number-clause-pieces : goal.first_two-requires-in-loop-number-clause-pieces
first_two-requires-in-loop-number-clause-pieces c = (known_slice c.args.rows.now c.args.segments.now c.requires.known c.loop-number.number (omega (arith, c.loop-number-test.true, c.len-number-end.ensures)) c.row-row.result.now c.row-row.ensures c.deref-in-loop-number.result.now c.live_pieces.new.pieces.items c.deref-in-loop-number.ensures.value c.in_ok-live_pieces.ensures.pieces (length c.args.depths.now) c.requires.depths).0

pub first_two-requires-in-loop-number-clause-depths : goal.first_two-requires-in-loop-number-clause-depths
first_two-requires-in-loop-number-clause-depths c = (known_slice c.args.rows.now c.args.segments.now c.requires.known c.loop-number.number (omega (arith, c.loop-number-test.true, c.len-number-end.ensures)) c.row-row.result.now c.row-row.ensures c.deref-in-loop-number.result.now c.live_pieces.new.pieces.items c.deref-in-loop-number.ensures.value c.in_ok-live_pieces.ensures.pieces (length c.args.depths.now) c.requires.depths).1

pub bounds-row-index : goal.bounds-row-index
bounds-row-index c =
    let some : 0 < length c.in_ok-choices.choices.items = grind (arith, c.if-not-is_empty.true, c.is_empty.ensures, c.in_ok-choices.choices.ok) in
    occurs_within c.row-row.result.now (meets (Some m.Choice)) c.deref.result.now c.in_ok-choices.choices.items c.in_ok-choices.ensures 0 c.index.result.now some c.index.ensures

pub offset_bounds-row-index : goal.offset_bounds-row-index
offset_bounds-row-index c =
    let some : 0 < length c.in_ok-choices.choices.items = grind (arith, c.if-not-is_empty.true, c.is_empty.ensures, c.in_ok-choices.choices.ok) in
    let within = occurs_within c.row-row.result.now (meets (Some m.Choice)) c.deref.result.now c.in_ok-choices.choices.items c.in_ok-choices.ensures 0 c.index.result.now some c.index.ensures in
    omega (arith, within, c.row-row.type_inv)

pub bounds-row-index-then-not-is_empty-2 : goal.bounds-row-index-then-not-is_empty-2
bounds-row-index-then-not-is_empty-2 c =
    let some : 0 < length c.in_ok-interleaves.interleaves.items = grind (arith, c.if-not-is_empty-2.true, c.is_empty-then-not-is_empty.ensures, c.in_ok-interleaves.interleaves.ok) in
    occurs_within c.row-row.result.now (meets (Some m.Interleave)) c.deref-in-loop-number.result.now c.in_ok-interleaves.interleaves.items c.in_ok-interleaves.ensures 0 c.index-then-not-is_empty-2.result.now some c.index-then-not-is_empty-2.ensures

pub offset_bounds-row-index-then-not-is_empty-2 : goal.offset_bounds-row-index-then-not-is_empty-2
offset_bounds-row-index-then-not-is_empty-2 c =
    let some : 0 < length c.in_ok-interleaves.interleaves.items = grind (arith, c.if-not-is_empty-2.true, c.is_empty-then-not-is_empty.ensures, c.in_ok-interleaves.interleaves.ok) in
    let within = occurs_within c.row-row.result.now (meets (Some m.Interleave)) c.deref-in-loop-number.result.now c.in_ok-interleaves.interleaves.items c.in_ok-interleaves.ensures 0 c.index-then-not-is_empty-2.result.now some c.index-then-not-is_empty-2.ensures in
    omega (arith, within, c.row-row.type_inv)

pub loop-number-init : goal.loop-number-init
loop-number-init c = λ modules names expanded. none_below modules names mixed_methods c.args.found.now.items

pub loop-number-preserved : goal.loop-number-preserved
loop-number-preserved c = λ modules names expanded.
    let n = c.loop-number.number in
    let old = c.args.found.now.items in
    let found = c.loop-number.found.items in
    let inv = c.loop-number.invariant modules names expanded in
    let key = key_at names n in
    let cs = set_components modules in
    let choices = c.in_ok-choices.choices.items in
    let interleaves = c.in_ok-interleaves.interleaves.items in
    let a = counted_live modules names c.args.rows.now c.args.segments.now expanded n (omega (arith, c.loop-number-test.true, c.len-number-end.ensures)) c.row-row.result.now c.row-row.ensures c.deref.result.now c.live_pieces.new.pieces.items c.deref.ensures.value c.in_ok-live_pieces.ensures.pieces (meets (Some m.Choice)) choices c.in_ok-choices.ensures in
    let b = counted_live modules names c.args.rows.now c.args.segments.now expanded n (omega (arith, c.loop-number-test.true, c.len-number-end.ensures)) c.row-row.result.now c.row-row.ensures c.deref-in-loop-number.result.now c.live_pieces.new.pieces.items c.deref-in-loop-number.ensures.value c.in_ok-live_pieces.ensures.pieces (meets (Some m.Interleave)) interleaves c.in_ok-interleaves.ensures in
    elim c.if-not-is_empty.branch [
      | then-not-is_empty+then-not-is_empty-2+in_ok-push w ↦
          let some : 0 < length choices = grind (arith, w.if-not-is_empty.true, c.is_empty.ensures, c.in_ok-choices.choices.ok) in
          let other : 0 < length interleaves = grind (arith, w.if-not-is_empty-2.true, w.is_empty-then-not-is_empty.ensures, c.in_ok-interleaves.interleaves.ok) in
          let row = c.row-row.result.now in
          let row_is = row_of modules names c.args.rows.now expanded.rows_are n (omega (arith, c.loop-number-test.true, c.len-number-end.ensures)) row c.row-row.ensures in
          let choice = found_definition modules key row row_is m.Choice c.deref.result.now choices c.in_ok-choices.ensures 0 w.index.result.now some w.index.ensures w.index-row-index.result w.index-row-index.is w.of.result w.of.ensures in
          let interleave = found_definition modules key row row_is m.Interleave c.deref-in-loop-number.result.now interleaves c.in_ok-interleaves.ensures 0 w.index-then-not-is_empty-2.result.now other w.index-then-not-is_empty-2.ensures w.index-row-index-then-not-is_empty-2.result w.index-row-index-then-not-is_empty-2.is w.of-then-not-is_empty-2.result w.of-then-not-is_empty-2.ensures in
          found_more modules names mixed_methods n old found inv _ (ap mixed_methods (key_is names n)) (mixed_counted key cs (length choices) (length interleaves) a b some other)
          (λ k l. key_rises names expanded.in_order k n l (omega (arith, c.loop-number-test.true, c.len-number-end.ensures, expanded.rows_are.size)))
          (subst (λ k. IsDefinition modules w.of.result k m.Choice × IsDefinition modules w.of-then-not-is_empty-2.result k m.Interleave) (sym (key_is names n)) (choice, interleave)) c.if-not-is_empty.found.items
          (ap (λ v. v.items) w.found-is ∙ w.in_ok-push.ensures.items)
      | else-not-is_empty w ↦
          subst (λ (fs : List Finding). AddsBelow modules names mixed_methods (n + 1) old fs) (sym (ap (λ v. v.items) w.found-is))
          (none_more modules names mixed_methods n old found inv (λ t.
          let (l, k) = counted_mixed key cs (length choices) (length interleaves) a b t in
          elim w.else-not-is_empty.branch [
            | else-not-is_empty-via-then-not-is_empty+else-not-is_empty-2 v ↦ grind (arith, v.if-not-is_empty-2.false, v.is_empty-then-not-is_empty.ensures, c.in_ok-interleaves.interleaves.ok, k)
            | else-not-is_empty-via-else-not-is_empty v ↦ grind (arith, v.if-not-is_empty.false, c.is_empty.ensures, c.in_ok-choices.choices.ok, l)
          ]))
    ]

pub returns : goal.returns
returns c = λ modules names expanded.
    let all : c.loop-number.number ≡ suc (length names) = omega (arith, c.loop-number.auto.number-end, c.loop-number-test.false, c.len-number-end.ensures, expanded.rows_are.size) in
    all_keys modules names mixed_methods 7 (mixed_kind modules names c.args.segments.now expanded.rows_are.names_are expanded.segments_are) (λ k. refl) c.loop-number.number all c.args.found.now.items c.loop-number.found.items (c.loop-number.invariant modules names expanded)
