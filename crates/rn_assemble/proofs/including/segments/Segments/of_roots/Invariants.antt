use Rattle.std.proofs.Common.{List, length, take}
use Rattle.rn_graph.specs.Graph.{AllBelow}
use Rattle.rn_assemble.specs.Components.{NamedModule}
use Rattle.rn_assemble.specs.inside.Bringing.{CanList}
use Rattle.rn_assemble.specs.inside.Views.{module_numbers}
use Rattle.rn_assemble.proofs.Expansion.RootSegments.{AreRootSegments}
use Rattle.rn_assemble.proofs.including.segments.Segments.of_roots.Given as goal

abbrev pub invariant-loop-root : goal.invariant-loop-root
invariant-loop-root l = record {
  brought : (modules : List NamedModule) → CanList modules l.contents → AllBelow (length modules) (module_numbers l.roots) → AreRootSegments modules l.contents l.segments (take l.root-index (module_numbers l.roots));
}
