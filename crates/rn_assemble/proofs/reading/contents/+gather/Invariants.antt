-- What is left to gather, and what was gathered.
use Rattle.std.proofs.Common.{◌≡◌, ◌+◌, ◌++◌, List, length, map}
use Rattle.std.specs.Vec.Iter.{into_iter_items, into_iter_len}
use Rattle.rn_syntax.specs.View.{items_view}
use Rattle.rn_assemble.specs.Components.{NamedModule}
use Rattle.rn_assemble.specs.inside.Contained.{inclusions, written_components}
use Rattle.rn_assemble.specs.inside.Keyed.{AreAmong, defines}
use Rattle.rn_assemble.specs.inside.Rows.{AddsRows, Placed, placed_from}
use Rattle.rn_assemble.specs.inside.Views.{AreNamed, inclusion_view, names_of}
use Rattle.rn_assemble.proofs.reading.contents.+gather.Given as goal

abbrev pub invariant-gather-items : goal.invariant-gather-items
invariant-gather-items l = record {
  bindings : l.contents.bindings ≡ l.fn.contents.bindings;
  kept : length l.rows.rows.items ≡ length l.fn.rows.rows.items;
  more : l.contents.count + length (written_components (items_view (into_iter_items l.item-iterator))) ≡ l.fn.contents.count + length (written_components (items_view l.fn.items.items));
  rows : AreAmong (names_of l.keys) (defines (items_view l.fn.items.items))
      → (gathered : List Placed) × AreAmong (names_of l.keys) (defines (items_view (into_iter_items l.item-iterator))) × AddsRows (names_of l.keys) l.fn.rows.rows.items l.rows.rows.items gathered
      × (gathered ++ placed_from l.«module».0 l.contents.count (written_components (items_view (into_iter_items l.item-iterator))) ≡ placed_from l.«module».0 l.fn.contents.count (written_components (items_view l.fn.items.items)));
  includes : (ms : List NamedModule) → AreNamed ms l.modules
      → map inclusion_view l.contents.includes.items ++ inclusions ms l.contents.count (items_view (into_iter_items l.item-iterator))
      ≡ map inclusion_view l.fn.contents.includes.items ++ inclusions ms l.fn.contents.count (items_view l.fn.items.items);
  count : into_iter_len l.item-iterator ≡ length (into_iter_items l.item-iterator);
}
