-- The parameters so far were read.
use Rattle.std.proofs.Common.{◌≤◌, ◌-◌, length}
use Rattle.rn_outline.proofs.skips.params.Given as goal

abbrev pub invariant-params : goal.invariant-params
invariant-params l = record { further : l.fn.at ≤ l.at; inside : l.at ≤ length l.tokens }

abbrev pub decreases-params : goal.decreases-params
decreases-params l = length l.tokens - l.at
