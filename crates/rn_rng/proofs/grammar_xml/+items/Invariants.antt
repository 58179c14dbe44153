use Rattle.std.proofs.Common.{◌≡◌, [], take}
use Rattle.std.specs.Prelude.{flat_map}
use Rattle.rn_syntax.specs.declared.tree.Item.{Item}
use Rattle.rn_syntax.specs.Tree.{includes}
use Rattle.rn_syntax.specs.View.{item_view, items_view}
use Rattle.rn_rng.specs.Layout.{items_text}
use Rattle.rn_rng.specs.Translation.{item_xml}
use Rattle.rn_rng.specs.inside.Views.{given}
use Rattle.rn_rng.specs.inside.Writes.{Writes}
use Rattle.rn_rng.proofs.grammar_xml.+items.Given as goal

abbrev pub invariant-write_items-loop-item : goal.invariant-write_items-loop-item
invariant-write_items-loop-item l = includes (items_view l.items) ≡ [] → Writes (flat_map (λ (x : Item). items_text l.level (item_xml (given l.namespaces) (item_view x))) (take l.item-index l.items)) l.initial.writer l.writer
