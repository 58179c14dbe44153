use Rattle.std.proofs.Common.{take}
use Rattle.rn_assemble.specs.inside.Runs.{IsLackByPieces}
use Rattle.rn_assemble.proofs.KeyPieces.LackingPieces.{IsLeastOf}
use Rattle.rn_assemble.proofs.including.segments.Segments.least_lacking.Given as goal

abbrev pub invariant-loop-brought : goal.invariant-loop-brought
invariant-loop-brought l = record {
  least : IsLeastOf (IsLackByPieces l.row l.pieces) (take l.brought-index l.brought-items) l.least;
}
