use Rattle.std.proofs.Common.{◌≡◌, length}
use Rattle.rn_graph.specs.Graph.{rows_of}
use Rattle.rn_graph.proofs.Graphs.BuiltRows.{IsKept}
use Rattle.rn_graph.proofs.graph.marked_rows.Given as goal

-- the rows so far
abbrev pub invariant-loop-node : goal.invariant-loop-node
invariant-loop-node l = record {
  size : length (rows_of l.rows) ≡ l.node;
  kept : IsKept (rows_of l.edges) l.marks l.node (rows_of l.rows);
}
