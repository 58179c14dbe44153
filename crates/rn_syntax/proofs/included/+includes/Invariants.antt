-- What was found, and what is left to find, are what was there and what the items hold.
use Rattle.std.proofs.Common.{◌≡◌, ◌++◌, map, drop}
use Rattle.rn_syntax.specs.Tree as t
use Rattle.rn_syntax.specs.View.{items_view}
use Rattle.rn_syntax.proofs.included.+includes.Given as goal

abbrev pub invariant-push_includes-items : goal.invariant-push_includes-items
invariant-push_includes-items l = record {
  found : map (λ s. s.now) l.found.items ++ t.includes (items_view (drop l.item-index l.items)) ≡ map (λ s. s.now) l.fn.found.items ++ t.includes (items_view l.items);
}
