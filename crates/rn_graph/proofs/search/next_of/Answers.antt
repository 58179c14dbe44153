use Rattle.std.proofs.Common.{get_or, refl}
use Rattle.rn_graph.specs.Graph.{rows_of}
use Rattle.rn_graph.proofs.Graphs.Searches.EdgesLeft.{next_is}
use Rattle.rn_graph.proofs.search.next_of.Goals as goal

pub returns : goal.returns
returns c =
    next_is (rows_of c.args.edges.now) c.args.left.now c.row.result.now c.args.node (get_or c.args.left.now c.args.node 0) c.requires.graph
    refl c.if-left-eq0.false c.row.ensures c.requires.at_most
