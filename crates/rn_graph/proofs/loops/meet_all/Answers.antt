use Rattle.rn_graph.specs.Graph.{rows_of}
use Rattle.rn_graph.proofs.Graphs.Loops.{next_met}
use Rattle.rn_graph.proofs.loops.meet_all.Goals as goal

pub loop-node-preserved : goal.loop-node-preserved
loop-node-preserved c =
    next_met (rows_of c.args.edges.now) c.row_at-node-items.result.now c.loop-node.node-index c.args.walk.now c.loop-node.walk c.meet.new.walk
    c.loop-node-test.true c.loop-node.invariant c.in_ok-meet.ensures
