-- The number that is left is less.
use Rattle.rn_outline.proofs.grouped.GroupedDisplay.+fmt.Given as goal

abbrev pub decreases-fmt : goal.decreases-fmt
decreases-fmt g l = l.self.now.0
