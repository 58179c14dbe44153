-- The lacks of the includes so far were added.
use Rattle.std.proofs.Common.{take}
use Rattle.rn_assemble.specs.inside.Diagnosing.{AddsLacks}
use Rattle.rn_assemble.specs.inside.Runs.{IsLackByPieces}
use Rattle.rn_assemble.proofs.diagnosing.findings.push_lacks.Given as goal

abbrev pub invariant-loop-include : goal.invariant-loop-include
invariant-loop-include l = AddsLacks (IsLackByPieces l.row l.pieces) l.row l.key.0 (take l.include-index l.include-items) l.fn.found.items l.found.items
