use Rattle.std.proofs.Common.{◌≡◌, length}
use Rattle.rn_files.specs.Escapes.{has_escapes}
use Rattle.rn_files.proofs.references.escapes.has_escapes.Given as goal

-- what is left decides
abbrev pub invariant-loop-rest : goal.invariant-loop-rest
invariant-loop-rest l = has_escapes l.bytes ≡ has_escapes l.rest

abbrev pub decreases-loop-rest : goal.decreases-loop-rest
decreases-loop-rest l = length l.rest
