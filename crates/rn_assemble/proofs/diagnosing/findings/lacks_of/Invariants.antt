-- The lacks of the keys so far are found.
use Rattle.std.proofs.Common.{List}
use Rattle.rn_text.specs.Texts.{Text}
use Rattle.rn_assemble.specs.Components.{Component, NamedModule}
use Rattle.rn_assemble.specs.inside.Diagnosing.{AreLacks}
use Rattle.rn_assemble.specs.inside.Rows.{AreRows}
use Rattle.rn_assemble.specs.inside.Segments.{AreSegmentsOf}
use Rattle.rn_assemble.proofs.diagnosing.findings.lacks_of.Given as goal

abbrev pub invariant-loop-number : goal.invariant-loop-number
invariant-loop-number l = (modules : List NamedModule) (names : List Text) (cs : List Component) → AreRows modules names l.rows.rows.items → AreSegmentsOf modules l.segments cs → AreLacks modules names l.segments l.number l.found.items
