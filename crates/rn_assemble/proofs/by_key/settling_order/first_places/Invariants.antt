-- The first places of the keys so far are found.
use Rattle.std.proofs.Common.{List}
use Rattle.std.specs.List.Sorted.{IsStrictlySortedBy}
use Rattle.rn_text.specs.Texts.{Text, text_cmp}
use Rattle.rn_assemble.specs.Components.{Component, NamedModule}
use Rattle.rn_assemble.specs.inside.Rows.{AreRows}
use Rattle.rn_assemble.specs.inside.Segments.{AreSegmentsOf}
use Rattle.rn_assemble.proofs.Naming.KeyByKey.{ArePlacesBelow}
use Rattle.rn_assemble.proofs.by_key.settling_order.first_places.Given as goal

abbrev pub invariant-loop-number : goal.invariant-loop-number
invariant-loop-number l = (modules : List NamedModule) (names : List Text) (cs : List Component) → IsStrictlySortedBy text_cmp names → AreRows modules names l.rows.rows.items → AreSegmentsOf modules l.segments cs → ArePlacesBelow modules l.segments names cs l.number l.places.items
