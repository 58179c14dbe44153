use Rattle.std.proofs.Common.{◌≤◌, length, sym, subst, arith}
use Rattle.std.specs.List.{AllByRecursion}
use Rattle.rn_assemble.specs.declared.including.pieces.Piece.{Piece}
use Rattle.rn_assemble.proofs.Diagnoses.KnownSegments.{known_ranges, known_row}
use Rattle.rn_assemble.proofs.diagnosing.left_definitions.left_definitions.Goals as goal

pub push_first_occurrences-requires : goal.push_first_occurrences-requires
push_first_occurrences-requires c =
    let x = c.args.segments.now in
    let row = c.row-row.result.now in
    let known = known_row c.args.rows.now x c.requires c.loop-number.number (omega (arith, c.loop-number-test.true, c.len-number-end.ensures)) row c.row-row.ensures in
    subst (AllByRecursion (λ (p : Piece). (p.from ≤ p.to) × (p.to ≤ length row))) (sym c.deref.ensures.value) (known_ranges row x known c.live_pieces.new.pieces.items c.in_ok-live_pieces.ensures.pieces)
