-- The annotations so far were read.
use Rattle.std.proofs.Common.{◌≤◌, ◌-◌, length}
use Rattle.rn_outline.proofs.outline.only_follows.Given as goal

abbrev pub invariant-follows : goal.invariant-follows
invariant-follows l = l.at ≤ length l.tokens

abbrev pub decreases-follows : goal.decreases-follows
decreases-follows l = length l.tokens - l.at
