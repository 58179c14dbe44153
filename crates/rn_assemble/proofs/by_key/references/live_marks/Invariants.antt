-- The marks of the components of the pieces so far.
use Rattle.std.proofs.Common.{take}
use Rattle.rn_assemble.specs.inside.Referred.{AreLiveMarks}
use Rattle.rn_assemble.proofs.by_key.references.live_marks.Given as goal

abbrev pub invariant-loop-piece : goal.invariant-loop-piece
invariant-loop-piece l = AreLiveMarks (take l.piece-index l.pieces) l.fn.count l.marks.items
