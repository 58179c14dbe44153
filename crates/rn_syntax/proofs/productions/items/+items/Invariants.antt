-- The items so far, and what is left.
use Rattle.std.proofs.Common.{ℕ, ◌≤◌, ◌-◌, ◌+◌, ◌*◌, length, map}
use Rattle.rn_syntax.specs.inside.Including.{AreItemsBehind, IsItem}
use Rattle.rn_syntax.specs.inside.Readers.{rest}
use Rattle.rn_syntax.specs.Spelled.{AreSpelled}
use Rattle.rn_syntax.specs.Lent.{AreLent, items_literals}
use Rattle.rn_syntax.specs.View.{item_view}
use Rattle.rn_syntax.proofs.ProductionsRead.Rows.{So_far}
use Rattle.rn_syntax.proofs.productions.items.+items.Given as goal

abbrev pub invariant-items_behind-items : goal.invariant-items_behind-items
invariant-items_behind-items l = record {
  further : l.fn.at ≤ l.end;
  inside : l.end ≤ length l.tokens;
  so_far : AreSpelled l.tokens → So_far (AreItemsBehind (map item_view l.fn.read.items)) IsItem (map item_view l.items.items) (rest l.tokens l.fn.at) (rest l.tokens l.end);
  lent : AreSpelled l.tokens → (from : ℕ) → from ≤ l.fn.at → AreLent l.tokens from l.fn.at (items_literals l.fn.read.items) → AreLent l.tokens from l.end (items_literals l.items.items);
}

abbrev pub decreases-items_behind-items : goal.decreases-items_behind-items
decreases-items_behind-items l = length l.tokens - l.end

abbrev pub decreases-items : goal.decreases-items
decreases-items l = 4 * (length l.tokens.now - l.at) + 3

abbrev pub decreases-items_behind : goal.decreases-items_behind
decreases-items_behind l = 4 * (length l.tokens.now - l.at) + 2

abbrev pub decreases-item : goal.decreases-item
decreases-item l = 4 * (length l.tokens.now - l.at) + 1

abbrev pub decreases-div : goal.decreases-div
decreases-div l = 4 * (length l.tokens.now - l.at) + 4
