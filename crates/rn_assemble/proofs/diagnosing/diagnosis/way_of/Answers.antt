use Rattle.std.proofs.Common.{arith}
use Rattle.rn_assemble.specs.inside.Views.{names_of}
use Rattle.rn_assemble.proofs.Diagnoses.KnownSegments.{known_row}
use Rattle.rn_assemble.proofs.diagnosing.diagnosis.way_of.Goals as goal

pub first_of-requires : goal.first_of-requires
first_of-requires c = known_row c.args.rows.now c.args.segments.now (names_of c.args.keys.now, c.requires) c.number_of.result.0 (omega (arith, c.number_of.ensures, c.requires.rows_are.size)) c.row.result.now c.row.ensures
