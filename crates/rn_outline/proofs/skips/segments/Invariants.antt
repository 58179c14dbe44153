-- The segments so far were read.
use Rattle.std.proofs.Common.{◌≤◌, ◌<◌, ◌-◌, length}
use Rattle.rn_outline.proofs.skips.segments.Given as goal

abbrev pub invariant-segments : goal.invariant-segments
invariant-segments l = record { further : l.fn.at < l.end; inside : l.end ≤ length l.tokens }

abbrev pub decreases-segments : goal.decreases-segments
decreases-segments l = length l.tokens - l.end
