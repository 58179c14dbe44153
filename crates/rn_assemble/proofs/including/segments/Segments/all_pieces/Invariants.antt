use Rattle.std.proofs.Common.{◌≡◌, ◌-◌, ◌≤◌, [], length}
use Rattle.std.specs.List.Sorted.{IsStrictlyIncreasing}
use Rattle.rn_assemble.proofs.KeyPieces.FoundPieces.{ArePiecesBefore, segments_of}
use Rattle.rn_assemble.proofs.including.segments.Segments.all_pieces.Given as goal

abbrev pub invariant-loop-from : goal.invariant-loop-from
invariant-loop-from l = record {
  pieces : ArePiecesBefore l.self l.row l.from l.pieces.items;
  none : l.runs ≡ 0 → l.pieces.items ≡ [];
  rise : l.runs ≤ 1 → IsStrictlyIncreasing (segments_of l.pieces.items);
}

abbrev pub decreases-loop-from : goal.decreases-loop-from
decreases-loop-from l = length l.row - l.from
