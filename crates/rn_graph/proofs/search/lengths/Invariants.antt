use Rattle.std.proofs.Common.{◌≡◌, ℕ, List, length, map, take}
use Rattle.rn_graph.specs.Graph.{rows_of}
use Rattle.rn_graph.proofs.search.lengths.Given as goal

abbrev pub invariant-loop-node : goal.invariant-loop-node
invariant-loop-node l = l.lengths.items ≡ map (λ (row : List ℕ). length row) (take l.node (rows_of l.edges))
