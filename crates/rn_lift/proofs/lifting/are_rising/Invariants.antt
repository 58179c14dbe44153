-- If the names that are left rise, all do.
use Rattle.std.proofs.Common.{length}
use Rattle.rn_lift.specs.Lifts.{AreRising}
use Rattle.rn_lift.proofs.lifting.are_rising.Given as goal

abbrev pub invariant-modules : goal.invariant-modules
invariant-modules l = AreRising l.rest → AreRising l.modules

abbrev pub decreases-modules : goal.decreases-modules
decreases-modules l = length l.rest
