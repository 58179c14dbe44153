use Rattle.std.proofs.Common.{◌≡◌, ◌++◌, map, take}
use Rattle.rn_assemble.specs.inside.Runs.{piece_of}
use Rattle.rn_assemble.proofs.including.segments.Segments.push_run.Given as goal

abbrev pub invariant-loop-place : goal.invariant-loop-place
invariant-loop-place l = l.pieces.items ≡ l.fn.pieces.items ++ map (piece_of l.from l.to) (take l.place-index l.place-items)
