-- As many parentheses are open as were read at most.
use Rattle.std.proofs.Common.{◌≤◌, ◌-◌, length}
use Rattle.rn_outline.proofs.skips.name_class.Given as goal

abbrev pub invariant-class : goal.invariant-class
invariant-class l = record { further : l.fn.at ≤ l.at; inside : l.at ≤ length l.tokens; small : l.depth ≤ l.at }

abbrev pub decreases-class : goal.decreases-class
decreases-class l = length l.tokens - l.at
