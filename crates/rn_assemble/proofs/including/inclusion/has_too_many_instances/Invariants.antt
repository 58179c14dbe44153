-- The instances of the roots so far, counted up to the limit.
use Rattle.std.proofs.Common.{◌≡◌, ◌≤◌, ◌<◌, ℕ, min, take}
use Rattle.std.specs.Prelude.{sum_by}
use Rattle.rn_graph.specs.Graph.{rows_of}
use Rattle.rn_assemble.specs.inside.Instances.{instances_of}
use Rattle.rn_assemble.specs.inside.Views.{module_numbers}
use Rattle.rn_assemble.proofs.including.inclusion.has_too_many_instances.Given as goal

abbrev pub invariant-loop-root : goal.invariant-loop-root
invariant-loop-root l = record {
  up_to : l.count ≤ 513;
  counted : (depth : ℕ) → 512 < depth → l.count ≡ min 513 (sum_by (instances_of depth (rows_of l.rows)) (take l.root-index (module_numbers l.roots)));
}
