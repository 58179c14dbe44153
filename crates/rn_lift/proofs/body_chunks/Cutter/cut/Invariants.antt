-- The tokens so far were cut.
use Rattle.std.proofs.Common.{◌≤◌, ◌-◌, length}
use Rattle.rn_lift.proofs.body_chunks.Cutter.cut.Given as goal

abbrev pub invariant-tokens : goal.invariant-tokens
invariant-tokens l = l.at ≤ length l.tokens

abbrev pub decreases-tokens : goal.decreases-tokens
decreases-tokens l = length l.tokens - l.at
