-- The members so far are the patterns so far, resolved.
use Rattle.std.proofs.Common.{◌≡◌, map, take}
use Rattle.rn_pattern.specs.View.{shared_view}
use Rattle.rn_syntax.specs.View.{pattern_view}
use Rattle.rn_assemble.specs.inside.ContextBindings.{InContext}
use Rattle.rn_assemble.specs.Resolve.{resolved_pattern}
use Rattle.rn_assemble.proofs.resolving.resolution.+pattern.Given as goal

abbrev pub invariant-patterns-loop-member : goal.invariant-patterns-loop-member
invariant-patterns-loop-member l = InContext l.context (λ inherited ds. map shared_view l.members.items ≡ map (λ p. resolved_pattern inherited ds (pattern_view p)) (take l.member-index l.written))
