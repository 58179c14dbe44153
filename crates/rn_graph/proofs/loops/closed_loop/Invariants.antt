use Rattle.std.proofs.Common.{◌<◌, length}
use Rattle.rn_graph.specs.Graph.{rows_of}
use Rattle.rn_graph.proofs.Graphs.Loops.{LeadsFrom}
use Rattle.rn_graph.proofs.loops.closed_loop.Given as goal

abbrev pub invariant-loop-place : goal.invariant-loop-place
invariant-loop-place l = (l.place < length l.walk.nodes.items) × LeadsFrom (rows_of l.edges) l.walk l.place l.nodes.items

abbrev pub decreases-loop-place : goal.decreases-loop-place
decreases-loop-place l = l.place
