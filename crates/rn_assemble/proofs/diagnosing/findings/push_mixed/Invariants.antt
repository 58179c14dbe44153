-- The findings of the keys so far were added.
use Rattle.rn_assemble.specs.Refusal.{mixed_methods}
use Rattle.rn_assemble.specs.inside.Diagnosing.{AddsBelow, OfExpanded}
use Rattle.rn_assemble.proofs.diagnosing.findings.push_mixed.Given as goal

abbrev pub invariant-loop-number : goal.invariant-loop-number
invariant-loop-number l = OfExpanded l.rows l.segments (λ modules names. AddsBelow modules names mixed_methods l.number l.fn.found.items l.found.items)
