use Rattle.std.proofs.Common.{◌≡◌, false, take}
use Rattle.std.specs.List.{list_any}
use Rattle.rn_assemble.specs.inside.Methods.{is_method}
use Rattle.rn_assemble.proofs.KeyFaults.PieceMethods.{piece_uses}
use Rattle.rn_assemble.proofs.by_key.checks.uses.Given as goal

abbrev pub invariant-loop-piece : goal.invariant-loop-piece
invariant-loop-piece l = record {
  none : list_any (piece_uses (is_method l.method) l.row) (take l.piece-index l.pieces) ≡ false;
}
