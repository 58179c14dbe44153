-- The contents of the modules so far, the rows of their components, and the items of the others.
use Rattle.std.proofs.Common.{◌≡◌, ◌++◌, length}
use Rattle.std.specs.Vec.Iter.{into_iter_items, into_iter_len}
use Rattle.std.specs.List.{AllZip}
use Rattle.rn_assemble.specs.inside.ContentsOf.{IsContents}
use Rattle.rn_assemble.specs.inside.Views.{names_of, with_items}
use Rattle.rn_assemble.proofs.Gathering.AddedRows.{AreRowsOf}
use Rattle.rn_assemble.proofs.reading.contents.contents_of.Given as goal

abbrev pub invariant-loop-items : goal.invariant-loop-items
invariant-loop-items l = record {
  are : AllZip (IsContents (with_items l.modules l.fn.items.items)) (with_items l.modules l.yielded) l.all.items;
  rows : AreRowsOf (names_of l.keys) (with_items l.modules l.yielded) l.rows.rows.items;
  size : length l.all.items ≡ length l.yielded;
  rest : l.yielded ++ into_iter_items l.items-iterator ≡ l.fn.items.items;
  count : into_iter_len l.items-iterator ≡ length (into_iter_items l.items-iterator);
}
