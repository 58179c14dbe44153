use Rattle.std.proofs.Common.{ℕ, ◌<◌, ◌≤◌, get_or}
use Rattle.std.specs.Prelude.{Contains}
use Rattle.rn_graph.proofs.search.least_of.Given as goal

abbrev pub invariant-loop-node : goal.invariant-loop-node
invariant-loop-node l = record {
  among : Contains l.nodes l.least;
  below : (k : ℕ) → k < l.node-index → l.least ≤ get_or l.nodes k 0;
}
