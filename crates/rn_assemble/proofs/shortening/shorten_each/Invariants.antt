-- Something stands for each so far, and the others are still to come.
use Rattle.std.proofs.Common.{◌≡◌, ◌++◌, length}
use Rattle.std.specs.List.{AllZip}
use Rattle.std.specs.Vec.Iter.{into_iter_items, into_iter_len}
use Rattle.rn_assemble.specs.ShortTexts.{short_texts}
use Rattle.rn_assemble.proofs.shortening.shorten_each.Given as goal

abbrev pub invariant-loop-item : goal.invariant-loop-item
invariant-loop-item g l = record {
  stand : AllZip (g.T.Shorten.stands_for (short_texts l.uris)) l.yielded l.short.items;
  rest : l.yielded ++ into_iter_items l.item-iterator ≡ l.fn.list.items;
  count : into_iter_len l.item-iterator ≡ length (into_iter_items l.item-iterator);
}
