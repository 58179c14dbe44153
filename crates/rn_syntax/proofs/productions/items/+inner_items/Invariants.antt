-- The items so far, and what is left.
use Rattle.std.proofs.Common.{◌≡◌, [], ◌≤◌, ◌-◌, ◌+◌, ◌*◌, length, map}
use Rattle.rn_syntax.specs.Grammar.{AreInnerItems}
use Rattle.rn_syntax.specs.inside.Including.{IsInnerItem}
use Rattle.rn_syntax.specs.inside.Readers.{rest}
use Rattle.rn_syntax.specs.Spelled.{AreSpelled}
use Rattle.rn_syntax.specs.Lent.{items_literals}
use Rattle.rn_syntax.specs.View.{item_view}
use Rattle.rn_syntax.proofs.ProductionsRead.Rows.{So_far}
use Rattle.rn_syntax.proofs.productions.items.+inner_items.Given as goal

abbrev pub invariant-inner_items-inner : goal.invariant-inner_items-inner
invariant-inner_items-inner l = record {
  further : l.fn.at ≤ l.end;
  inside : l.end ≤ length l.tokens;
  so_far : AreSpelled l.tokens → So_far AreInnerItems IsInnerItem (map item_view l.items.items) (rest l.tokens l.fn.at) (rest l.tokens l.end);
  no_include : items_literals l.items.items ≡ [];
}

abbrev pub decreases-inner_items-inner : goal.decreases-inner_items-inner
decreases-inner_items-inner l = length l.tokens - l.end

abbrev pub decreases-inner_items : goal.decreases-inner_items
decreases-inner_items l = 3 * (length l.tokens.now - l.at) + 1

abbrev pub decreases-inner_item : goal.decreases-inner_item
decreases-inner_item l = 3 * (length l.tokens.now - l.at)

abbrev pub decreases-inner_div : goal.decreases-inner_div
decreases-inner_div l = 3 * (length l.tokens.now - l.at) + 2
