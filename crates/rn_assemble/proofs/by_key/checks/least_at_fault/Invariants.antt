use Rattle.std.proofs.Common.{ℕ, ◌<◌, List}
use Rattle.rn_text.specs.Texts.{Text}
use Rattle.rn_assemble.specs.inside.Methods.{HasFault}
use Rattle.rn_assemble.specs.Components.{Component, NamedModule}
use Rattle.rn_assemble.specs.inside.Keyed.{key_at}
use Rattle.rn_assemble.specs.inside.Rows.{AreRows}
use Rattle.rn_assemble.specs.inside.Segments.{AreSegmentsOf}
use Rattle.rn_assemble.proofs.by_key.checks.least_at_fault.Given as goal

abbrev pub invariant-loop-number : goal.invariant-loop-number
invariant-loop-number l = record {
  none : (modules : List NamedModule) (names : List Text) (cs : List Component) → AreRows modules names l.rows.rows.items → AreSegmentsOf modules l.segments cs → (n : ℕ) → n < l.number → ¬ HasFault l.fault cs (key_at names n);
}
