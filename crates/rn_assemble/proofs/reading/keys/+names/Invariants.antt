-- With the names that are left to add, the list gets those of all items.
use Rattle.std.proofs.Common.{◌≡◌, ◌++◌, drop}
use Rattle.rn_syntax.specs.View.{items_view}
use Rattle.rn_assemble.specs.inside.Keyed.{texts_of, defines}
use Rattle.rn_assemble.proofs.reading.keys.+names.Given as goal

abbrev pub invariant-push_names-items : goal.invariant-push_names-items
invariant-push_names-items l = record {
  so_far : texts_of l.names.items ++ defines (items_view (drop l.item-index l.items)) ≡ texts_of l.fn.names.items ++ defines (items_view l.items);
}
