use Rattle.std.proofs.Common.{◌≡◌, ◌<◌, arith, length}
use Rattle.std.proofs.lemmas.List.{get_or_read}
use Rattle.rn_graph.specs.Graph.{rows_of}
use Rattle.rn_graph.specs.inside.Walks.{node_at}
use Rattle.rn_graph.proofs.Graphs.Loops.{node_below}
use Rattle.rn_graph.proofs.loops.row_at.Goals as goal

pub row-requires : goal.row-requires
row-requires c =
    let w = c.args.walk.now in
    let below : c.args.place < length w.nodes.items = omega (arith, c.requires.within, w.nodes.ok) in
    let is : c.index.result.now ≡ node_at w c.args.place = get_or_read w.nodes.items c.args.place c.index.result.now below c.index.ensures 0 in
    omega (arith, is, node_below (rows_of c.args.edges.now) w c.args.place c.requires.walk below)
