use Rattle.std.proofs.Common.{take}
use Rattle.rn_graph.specs.Graph.{rows_of}
use Rattle.rn_graph.specs.inside.Walks.{WalksOn}
use Rattle.rn_graph.proofs.loops.meet_all.Given as goal

abbrev pub invariant-loop-node : goal.invariant-loop-node
invariant-loop-node l = WalksOn (rows_of l.edges) (take l.node-index l.node-items) l.fn.walk l.walk
