-- What one key more has by `=` twice.
use Rattle.std.proofs.Common.{◌≡◌, ◌+◌, ◌<◌, List, [], ◌∷◌, suc, length, refl, sym, ap, ◌∙◌, subst, arith}
use Rattle.std.proofs.lemmas.Option.{get_or_from_slice_get}
use Rattle.rn_syntax.specs.declared.tree.Method.TheVariants as m
use Rattle.std.specs.Prelude.{Some}
use Rattle.rn_assemble.specs.Diagnosed.{IsDefinition, IsPlaced}
use Rattle.rn_assemble.specs.Refusal.{plain_twice}
use Rattle.rn_assemble.specs.declared.diagnosing.findings.Finding.{Finding}
use Rattle.rn_assemble.specs.declared.diagnosing.findings.Finding.TheVariants as f
use Rattle.rn_assemble.specs.inside.Diagnosing.{AddsBelow, meets, place_of}
use Rattle.rn_assemble.specs.inside.Keyed.{key_at}
use Rattle.rn_assemble.proofs.Diagnoses.CountedMethods.{counted_live, two_found}
use Rattle.rn_assemble.proofs.Diagnoses.FoundPlaces.{found_definition}
use Rattle.rn_assemble.proofs.Diagnoses.KeyFindings.{all_keys, found_more, plain_kind, none_below, none_more}
use Rattle.rn_assemble.proofs.Diagnoses.KnownSegments.{known_slice}
use Rattle.rn_assemble.proofs.Diagnoses.Lacks.{key_is}
use Rattle.rn_assemble.proofs.Diagnoses.Occurrences.{occurs_within}
use Rattle.rn_assemble.proofs.Diagnoses.RefusalOrder.{key_rises}
use Rattle.rn_assemble.proofs.KeyFaults.KnownRows.{row_of}
use Rattle.rn_assemble.proofs.diagnosing.findings.push_plain_twice.Goals as goal
use Rattle.rn_assemble.proofs.diagnosing.findings.push_plain_twice.Goals.{then-len-gt1+in_ok-push, else-len-gt1}

pub first_two-requires-clause-pieces : goal.first_two-requires-clause-pieces
first_two-requires-clause-pieces c = (known_slice c.args.rows.now c.args.segments.now c.requires.known c.loop-number.number (omega (arith, c.loop-number-test.true, c.len-number-end.ensures)) c.row-row.result.now c.row-row.ensures c.deref.result.now c.live_pieces.new.pieces.items c.deref.ensures.value c.in_ok-live_pieces.ensures.pieces (length c.args.depths.now) c.requires.depths).0

pub first_two-requires-clause-depths : goal.first_two-requires-clause-depths
first_two-requires-clause-depths c = (known_slice c.args.rows.now c.args.segments.now c.requires.known c.loop-number.number (omega (arith, c.loop-number-test.true, c.len-number-end.ensures)) c.row-row.result.now c.row-row.ensures c.deref.result.now c.live_pieces.new.pieces.items c.deref.ensures.value c.in_ok-live_pieces.ensures.pieces (length c.args.depths.now) c.requires.depths).1

pub plain_twice-requires-clause-first : goal.plain_twice-requires-clause-first
plain_twice-requires-clause-first c =
    let some : 0 < length c.in_ok-plain.plain.items = omega (arith, c.if-len-gt1.true, c.len.ensures, c.in_ok-plain.plain.ok.0) in
    occurs_within c.row-row.result.now (meets (Some m.Plain)) c.deref.result.now c.in_ok-plain.plain.items c.in_ok-plain.ensures 0 c.index.result.now some c.index.ensures

pub plain_twice-requires-clause-second : goal.plain_twice-requires-clause-second
plain_twice-requires-clause-second c =
    let some : 1 < length c.in_ok-plain.plain.items = omega (arith, c.if-len-gt1.true, c.len.ensures, c.in_ok-plain.plain.ok.0) in
    occurs_within c.row-row.result.now (meets (Some m.Plain)) c.deref.result.now c.in_ok-plain.plain.items c.in_ok-plain.ensures 1 c.index-then-len-gt1.result.now some c.index-then-len-gt1.ensures

pub loop-number-init : goal.loop-number-init
loop-number-init c = λ modules names expanded. none_below modules names plain_twice c.args.found.now.items

pub loop-number-preserved : goal.loop-number-preserved
loop-number-preserved c = λ modules names expanded.
    let n = c.loop-number.number in
    let old = c.args.found.now.items in
    let found = c.loop-number.found.items in
    let inv = c.loop-number.invariant modules names expanded in
    let a = counted_live modules names c.args.rows.now c.args.segments.now expanded n (omega (arith, c.loop-number-test.true, c.len-number-end.ensures)) c.row-row.result.now c.row-row.ensures c.deref.result.now c.live_pieces.new.pieces.items c.deref.ensures.value c.in_ok-live_pieces.ensures.pieces (meets (Some m.Plain)) c.in_ok-plain.plain.items c.in_ok-plain.ensures in
    elim c.if-len-gt1.branch [
      | then-len-gt1+in_ok-push w ↦
          let row = c.row-row.result.now in
          let row_is = row_of modules names c.args.rows.now expanded.rows_are n (omega (arith, c.loop-number-test.true, c.len-number-end.ensures)) row c.row-row.ensures in
          let is_definition = found_definition modules (key_at names n) row row_is m.Plain c.deref.result.now c.in_ok-plain.plain.items c.in_ok-plain.ensures in
          let says = w.plain_twice.ensures.places in
          let one = is_definition 0 w.index.result.now (omega (arith, w.if-len-gt1.true, c.len.ensures, c.in_ok-plain.plain.ok.0)) w.index.ensures says.one (sym (get_or_from_slice_get row w.index.result.now.index says.one says.one says.one_at)) (place_of says.one) refl in
          let other = is_definition 1 w.index-then-len-gt1.result.now (omega (arith, w.if-len-gt1.true, c.len.ensures, c.in_ok-plain.plain.ok.0)) w.index-then-len-gt1.ensures says.other (sym (get_or_from_slice_get row w.index-then-len-gt1.result.now.index says.other says.other says.other_at)) (place_of says.other) refl in
          let placed : IsPlaced modules ([] ∷ names) (f.PlainTwice (record { 0 = n }) (place_of says.one) (place_of says.other) says.parting) =
          subst (λ k. IsDefinition modules (place_of says.one) k m.Plain × IsDefinition modules (place_of says.other) k m.Plain) (sym (key_is names n)) (one, other) in
          found_more modules names plain_twice n old found inv w.plain_twice.result (w.plain_twice.ensures.refusal modules ([] ∷ names) ∙ ap plain_twice (key_is names n)) (omega (arith, a.0, w.if-len-gt1.true, c.len.ensures, c.in_ok-plain.plain.ok.0))
          (λ k l. key_rises names expanded.in_order k n l (omega (arith, c.loop-number-test.true, c.len-number-end.ensures, expanded.rows_are.size)))
          (subst (IsPlaced modules ([] ∷ names)) (sym says.is) placed) c.if-len-gt1.found.items
          (ap (λ v. v.items) w.found-is ∙ w.in_ok-push.ensures.items)
      | else-len-gt1 w ↦
          subst (λ (fs : List Finding). AddsBelow modules names plain_twice (n + 1) old fs) (sym (ap (λ v. v.items) w.found-is))
          (none_more modules names plain_twice n old found inv (λ t. omega (arith, two_found _ _ a t, w.if-len-gt1.false, c.len.ensures, c.in_ok-plain.plain.ok.0)))
    ]

pub returns : goal.returns
returns c = λ modules names expanded.
    let all : c.loop-number.number ≡ suc (length names) = omega (arith, c.loop-number.auto.number-end, c.loop-number-test.false, c.len-number-end.ensures, expanded.rows_are.size) in
    all_keys modules names plain_twice 6 (plain_kind modules names c.args.segments.now expanded.rows_are.names_are expanded.segments_are) (λ k. refl) c.loop-number.number all c.args.found.now.items c.loop-number.found.items (c.loop-number.invariant modules names expanded)
