use Rattle.std.proofs.Common.{length, ◌-◌}
use Rattle.rn_graph.specs.Graph.{rows_of}
use Rattle.rn_graph.proofs.Graphs.Marking.{Searching}
use Rattle.rn_graph.proofs.graph.reached_nodes.Given as goal

abbrev pub invariant-loop-next : goal.invariant-loop-next
invariant-loop-next l = Searching (rows_of l.edges) l.first l.seen.items l.order.items l.next

abbrev pub decreases-loop-next : goal.decreases-loop-next
decreases-loop-next l = length (rows_of l.edges) - l.next
