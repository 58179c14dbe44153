use Rattle.std.proofs.Common.{List}
use Rattle.rn_text.specs.Texts.{Text}
use Rattle.rn_assemble.specs.Components.{Component, NamedModule}
use Rattle.rn_assemble.specs.inside.Rows.{AreRows}
use Rattle.rn_assemble.specs.inside.Segments.{AreSegmentsOf}
use Rattle.rn_assemble.proofs.KeyFaults.LeastLacks.{IsLeastUpTo}
use Rattle.rn_assemble.proofs.by_key.checks.least_lack.Given as goal

abbrev pub invariant-loop-number : goal.invariant-loop-number
invariant-loop-number l = record {
  least : (modules : List NamedModule) (names : List Text) (cs : List Component) → AreRows modules names l.rows.rows.items → AreSegmentsOf modules l.segments cs → IsLeastUpTo modules names l.segments l.number l.least;
}
