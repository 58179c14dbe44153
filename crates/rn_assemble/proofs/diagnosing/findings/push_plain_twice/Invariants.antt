-- The findings of the keys so far were added.
use Rattle.rn_assemble.specs.Refusal.{plain_twice}
use Rattle.rn_assemble.specs.inside.Diagnosing.{AddsBelow, OfExpanded}
use Rattle.rn_assemble.proofs.diagnosing.findings.push_plain_twice.Given as goal

abbrev pub invariant-loop-number : goal.invariant-loop-number
invariant-loop-number l = OfExpanded l.rows l.segments (λ modules names. AddsBelow modules names plain_twice l.number l.fn.found.items l.found.items)
