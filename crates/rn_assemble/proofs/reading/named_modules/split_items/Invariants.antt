-- The modules so far are split, in their order, and the others are still to come.
use Rattle.std.proofs.Common.{◌≡◌, ◌++◌, length}
use Rattle.std.specs.Vec.Iter.{into_iter_items, into_iter_len}
use Rattle.rn_assemble.specs.inside.Views.{module_names, modules_view, with_items}
use Rattle.rn_assemble.proofs.reading.named_modules.split_items.Given as goal

abbrev pub invariant-loop-module : goal.invariant-loop-module
invariant-loop-module l = record {
  items : with_items l.heads.items l.all.items ≡ modules_view l.yielded;
  names : module_names l.heads.items ≡ module_names l.yielded;
  size : length l.all.items ≡ length l.heads.items;
  rest : l.yielded ++ into_iter_items l.module-iterator ≡ l.fn.modules.items;
  count : into_iter_len l.module-iterator ≡ length (into_iter_items l.module-iterator);
}
