use Rattle.std.proofs.Common.{◌≤◌, length, sym, subst}
use Rattle.std.specs.List.{AllByRecursion}
use Rattle.rn_assemble.specs.declared.including.pieces.Piece.{Piece}
use Rattle.rn_assemble.proofs.Diagnoses.KnownSegments.{known_ranges}
use Rattle.rn_assemble.proofs.diagnosing.loops.first_referring.Goals as goal

pub live_marks-requires : goal.live_marks-requires
live_marks-requires c =
    let row = c.args.row.now in
    subst (AllByRecursion (λ (p : Piece). (p.from ≤ p.to) × (p.to ≤ length row))) (sym c.deref.ensures.value) (known_ranges row c.args.segments.now c.requires c.live_pieces.new.pieces.items c.in_ok-live_pieces.ensures.pieces)
