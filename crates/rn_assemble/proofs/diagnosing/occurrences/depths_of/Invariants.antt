-- Each segment has a depth.
use Rattle.std.proofs.Common.{◌≡◌, length}
use Rattle.rn_assemble.proofs.diagnosing.occurrences.depths_of.Given as goal

abbrev pub invariant-loop-include : goal.invariant-loop-include
invariant-loop-include l = length l.depths.items ≡ length l.segments.list.items
