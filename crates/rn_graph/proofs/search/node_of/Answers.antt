use Rattle.std.proofs.Common.{◌≡◌, ◌<◌, arith, length}
use Rattle.std.proofs.lemmas.List.{get_or_read}
use Rattle.rn_graph.specs.Graph.{rows_of}
use Rattle.rn_graph.specs.inside.Searching.{node_at}
use Rattle.rn_graph.proofs.Graphs.Searches.KeptGroups.{node_below}
use Rattle.rn_graph.proofs.search.node_of.Goals as goal

pub returns-clause-within : goal.returns-clause-within
returns-clause-within c =
    let s = c.args.search.now in
    let below : c.args.place < length s.stack.items = omega (arith, c.requires.within, s.stack.ok) in
    let is : c.index.result.now ≡ node_at s.stack.items c.args.place = get_or_read s.stack.items c.args.place c.index.result.now below c.index.ensures 0 in
    let b = node_below (rows_of c.args.edges.now) s.places.items s.left.items s.stack.items s.path.items s.bounds.items s.least c.requires.grouping.groups c.args.place below in
    omega (arith, is, b)
