-- The components of the piece so far that pass were added.
use Rattle.rn_assemble.specs.inside.Diagnosing.{meets}
use Rattle.rn_assemble.proofs.Diagnoses.Occurrences.{AddsUpTo}
use Rattle.rn_assemble.proofs.diagnosing.occurrences.push_occurrences.Given as goal

abbrev pub invariant-loop-index : goal.invariant-loop-index
invariant-loop-index l = AddsUpTo l.row (meets l.method) l.piece l.fn.found.items l.index l.found.items
