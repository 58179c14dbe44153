use Rattle.std.proofs.Common.{◌≡◌, ◌++◌, drop, map, take}
use Rattle.rn_assemble.specs.inside.Runs.{marked}
use Rattle.rn_assemble.proofs.including.pieces.mark.Given as goal

abbrev pub invariant-loop-piece : goal.invariant-loop-piece
invariant-loop-piece l = l.pieces ≡ map marked (take l.piece-index l.fn.pieces) ++ drop l.piece-index l.fn.pieces
