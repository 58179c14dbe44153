-- The row has the keys of the references so far.
use Rattle.std.proofs.Common.{◌+◌, length, map, option_map, take}
use Rattle.rn_graph.specs.Graph.{AllBelow}
use Rattle.rn_assemble.specs.inside.Referred.{AreNumbers, KeepsLeast, names_within, reference_view}
use Rattle.rn_assemble.specs.inside.Views.{names_of}
use Rattle.rn_pattern.specs.declared.references.Reach.TheVariants.{Everywhere, OutsideElements}
use Rattle.rn_assemble.proofs.by_key.references.row_of.Given as goal

abbrev pub invariant-loop-reference : goal.invariant-loop-reference
invariant-loop-reference l = record {
  everywhere_within : AllBelow (length (names_of l.keys) + 1) l.row.everywhere.items;
  everywhere : AreNumbers (names_of l.keys) (names_within Everywhere (map reference_view (take l.reference-index l.references))) l.row.everywhere.items;
  outside_within : AllBelow (length (names_of l.keys) + 1) l.row.outside.items;
  outside : AreNumbers (names_of l.keys) (names_within OutsideElements (map reference_view (take l.reference-index l.references))) l.row.outside.items;
  least : KeepsLeast (names_of l.keys) l.is_defined (names_within Everywhere (map reference_view (take l.reference-index l.references))) (option_map (λ s. s.now) l.fn.undefined) (option_map (λ s. s.now) l.undefined);
}
