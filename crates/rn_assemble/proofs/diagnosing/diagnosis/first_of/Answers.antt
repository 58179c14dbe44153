use Rattle.std.proofs.Common.{◌∙◌, length, sym, ap, subst}
use Rattle.rn_assemble.specs.inside.Diagnosing.{AreInList}
use Rattle.rn_assemble.specs.inside.Pieces.{AreSomePieces}
use Rattle.rn_assemble.proofs.Diagnoses.KnownSegments.{has_brought, known_in_list, known_pieces}
use Rattle.rn_assemble.proofs.diagnosing.diagnosis.first_of.Goals as goal

pub depths_of-requires : goal.depths_of-requires
depths_of-requires c = has_brought c.requires.modules c.args.segments.now c.requires.components c.requires.segments_are

pub first_two-requires-clause-pieces : goal.first_two-requires-clause-pieces
first_two-requires-clause-pieces c =
    let row = c.args.row.now in
    subst (AreSomePieces row) (sym c.deref.ensures.value) (known_pieces row c.args.segments.now c.requires c.live_pieces.new.pieces.items c.in_ok-live_pieces.ensures.pieces)

pub first_two-requires-clause-depths : goal.first_two-requires-clause-depths
first_two-requires-clause-depths c =
    let size = ap length c.deref-2.ensures.value ∙ c.in_ok-depths.ensures in
    subst (AreInList (length c.deref-2.result.now)) (sym c.deref.ensures.value) (known_in_list c.args.row.now c.args.segments.now c.requires c.live_pieces.new.pieces.items c.in_ok-live_pieces.ensures.pieces (length c.deref-2.result.now) size)
