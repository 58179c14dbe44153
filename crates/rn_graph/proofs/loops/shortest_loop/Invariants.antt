use Rattle.std.proofs.Common.{◌-◌, length}
use Rattle.rn_graph.specs.Graph.{rows_of}
use Rattle.rn_graph.proofs.Graphs.Loops.{Looking}
use Rattle.rn_graph.proofs.loops.shortest_loop.Given as goal

abbrev pub invariant-loop-place : goal.invariant-loop-place
invariant-loop-place l = Looking (rows_of l.edges) l.node l.walk l.place

abbrev pub decreases-loop-place : goal.decreases-loop-place
decreases-loop-place l = length (rows_of l.edges) - l.place
