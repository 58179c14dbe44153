use Rattle.std.proofs.Common.{◌≡◌, ◌++◌, take}
use Rattle.rn_graph.specs.Graph.{rows_of, open_row}
use Rattle.rn_graph.proofs.rows.Rows.add_all.Given as goal

abbrev pub invariant-loop-node : goal.invariant-loop-node
invariant-loop-node l = (rows_of l.self ≡ rows_of l.fn.self) × (open_row l.self ≡ open_row l.fn.self ++ take l.node-index l.nodes)
