-- The components of the pieces so far that pass are found.
use Rattle.std.proofs.Common.{take}
use Rattle.rn_assemble.specs.inside.Diagnosing.{AreFirstTwo, meets}
use Rattle.rn_assemble.proofs.diagnosing.occurrences.first_two.Given as goal

abbrev pub invariant-loop-piece : goal.invariant-loop-piece
invariant-loop-piece l = AreFirstTwo l.row (take l.piece-index l.pieces) (meets l.method) l.found.items
