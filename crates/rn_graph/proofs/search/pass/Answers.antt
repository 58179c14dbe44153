use Rattle.std.proofs.Common.{◌≡◌, ◌<◌, arith, length}
use Rattle.std.proofs.lemmas.List.{get_or_read}
use Rattle.rn_graph.specs.Graph.{rows_of}
use Rattle.rn_graph.specs.inside.Searching.{node_at}
use Rattle.rn_graph.proofs.Graphs.Searches.KeptGroups.{node_below, passed_at}
use Rattle.rn_graph.proofs.search.pass.Goals as goal

pub returns-clause-goes_on : goal.returns-clause-goes_on
returns-clause-goes_on c =
    let s = c.args.search.now in
    let below : c.args.place < length s.stack.items = omega (arith, c.requires.within, s.stack.ok) in
    let is : c.index-node.result.now ≡ node_at s.stack.items c.args.place = get_or_read s.stack.items c.args.place c.index-node.result.now below c.index-node.ensures 0 in
    let b = node_below (rows_of c.args.edges.now) s.places.items s.left.items s.stack.items s.path.items s.bounds.items s.least c.requires.grouping.groups c.args.place below in
    let inside : c.index-node.result.now < length s.left.items = omega (arith, is, b, c.requires.grouping.groups.left_size) in
    record {
      grouping = record {
        groups = passed_at (rows_of c.args.edges.now) s.places.items s.left.items s.stack.items s.path.items s.bounds.items s.least c.requires.grouping.groups
            c.args.place c.index-node.result.now c.index_mut.result.now below is (get_or_read s.left.items c.index-node.result.now c.index_mut.result.now inside c.index_mut.ensures.value 0) c.requires.some_left c.requires.settled;
        ranking = c.requires.grouping.ranking;
      };
      kept = λ x h. h;
    }
