use Rattle.std.proofs.Common.{◌<◌, arith, length}
use Rattle.rn_graph.specs.Graph.{rows_of}
use Rattle.rn_graph.proofs.Graphs.Searches.EdgesLeft.{length_more, lengths_all}
use Rattle.rn_graph.proofs.search.lengths.Goals as goal

pub loop-node-preserved : goal.loop-node-preserved
loop-node-preserved c =
    let rows = rows_of c.args.edges.now in
    let below : c.loop-node.node < length rows = omega arith in
    length_more rows c.loop-node.node c.loop-node.lengths.items c.push.new.self.items c.row.result.now below c.loop-node.invariant c.row.ensures c.in_ok-push.ensures.items

pub returns : goal.returns
returns c =
    lengths_all (rows_of c.args.edges.now) c.loop-node.node c.loop-node.lengths.items (omega arith) c.loop-node.invariant
