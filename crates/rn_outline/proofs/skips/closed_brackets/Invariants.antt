-- As many brackets are open as were read at most.
use Rattle.std.proofs.Common.{◌≤◌, ◌-◌, length}
use Rattle.rn_outline.proofs.skips.closed_brackets.Given as goal

abbrev pub invariant-closed : goal.invariant-closed
invariant-closed l = record { further : l.fn.at ≤ l.at; inside : l.at ≤ length l.tokens; small : l.depth ≤ l.at }

abbrev pub decreases-closed : goal.decreases-closed
decreases-closed l = length l.tokens - l.at
