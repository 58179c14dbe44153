-- If the parts that are left are in order, all are.
use Rattle.std.proofs.Common.{length}
use Rattle.rn_outline.specs.Spans.{AreInOrder}
use Rattle.rn_outline.proofs.outline.are_in_order.Given as goal

abbrev pub invariant-parts : goal.invariant-parts
invariant-parts l = AreInOrder l.len l.from l.rest → AreInOrder l.len 0 l.parts

abbrev pub decreases-parts : goal.decreases-parts
decreases-parts l = length l.rest
