-- The declarations so far were read.
use Rattle.std.proofs.Common.{◌≤◌, ◌-◌, length}
use Rattle.rn_outline.proofs.declarations.declarations.Given as goal

abbrev pub invariant-declarations : goal.invariant-declarations
invariant-declarations l = l.end ≤ length l.tokens

abbrev pub decreases-declarations : goal.decreases-declarations
decreases-declarations l = length l.tokens - l.end
