-- The definitions of the keys before are made or noted, and the rows of the others are what they were.
use Rattle.std.proofs.Common.{List}
use Rattle.std.specs.List.Sorted.{IsStrictlySortedBy}
use Rattle.rn_text.specs.Texts.{text_cmp}
use Rattle.rn_assemble.specs.Components.{Component, NamedModule}
use Rattle.rn_assemble.specs.DefinitionsView.{definitions_view}
use Rattle.rn_assemble.specs.inside.ReferenceOrder.{AreDefinedKeys}
use Rattle.rn_assemble.specs.inside.Rows.{AreNameRows}
use Rattle.rn_assemble.specs.inside.Segments.{AreSegmentsOf}
use Rattle.rn_assemble.specs.inside.Tied.{firsts_of}
use Rattle.rn_assemble.specs.inside.Views.{key_number, key_numbers, names_of}
use Rattle.rn_assemble.proofs.Joining.KeyedDefinitions.{Defining}
use Rattle.rn_assemble.proofs.by_key.combining.definitions.Given as goal

abbrev pub invariant-loop-key : goal.invariant-loop-key
invariant-loop-key l = (modules : List NamedModule) (cs : List Component) → IsStrictlySortedBy text_cmp (names_of l.keys) → AreNameRows modules (names_of l.keys) l.fn.rows.rows.items → AreSegmentsOf modules l.segments cs
    → AreDefinedKeys (names_of l.keys) cs (key_numbers l.defined) → Defining (names_of l.keys) cs (key_numbers l.defined) l.fn.rows.rows.items l.rows.rows.items (key_number l.least) (definitions_view l.defs.entries) (firsts_of l.firsts.items) l.key-index
