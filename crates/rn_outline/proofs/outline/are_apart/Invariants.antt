-- If the marks that are left are apart, all are.
use Rattle.std.proofs.Common.{length}
use Rattle.rn_outline.specs.Spans.{AreApart}
use Rattle.rn_outline.proofs.outline.are_apart.Given as goal

abbrev pub invariant-parts : goal.invariant-parts
invariant-parts l = AreApart l.from l.rest → AreApart 0 l.parts

abbrev pub decreases-parts : goal.decreases-parts
decreases-parts l = length l.rest
