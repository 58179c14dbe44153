-- The tokens so far were read.
use Rattle.std.proofs.Common.{◌≤◌, ◌-◌, length}
use Rattle.rn_outline.proofs.outline.steps.Given as goal

abbrev pub invariant-steps : goal.invariant-steps
invariant-steps l = l.at ≤ length l.tokens

abbrev pub decreases-steps : goal.decreases-steps
decreases-steps l = length l.tokens - l.at
