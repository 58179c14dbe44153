use Rattle.std.proofs.Common.{◌≡◌, ◌<◌, take}
use Rattle.std.specs.Prelude.{sum_by}
use Rattle.rn_assemble.proofs.KeyFaults.PieceMethods.{plain_in}
use Rattle.rn_assemble.proofs.by_key.checks.is_plain_twice.Given as goal

abbrev pub invariant-loop-piece : goal.invariant-loop-piece
invariant-loop-piece l = record {
  few : l.count < 2 → l.count ≡ sum_by (plain_in l.row) (take l.piece-index l.pieces);
  more : 1 < l.count → 1 < sum_by (plain_in l.row) (take l.piece-index l.pieces);
}
