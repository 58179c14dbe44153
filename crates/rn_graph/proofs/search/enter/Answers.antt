use Rattle.std.proofs.Common.{◌<◌, length, arith}
use Rattle.rn_graph.specs.Graph.{rows_of}
use Rattle.rn_graph.proofs.Graphs.Searches.KeptGroups.{entered_at, met_still}
use Rattle.rn_graph.proofs.Graphs.Searches.Ranking.{entered_ranked}
use Rattle.rn_graph.proofs.search.enter.Goals as goal

pub returns-clause-goes_on : goal.returns-clause-goes_on
returns-clause-goes_on c =
    let s = c.args.search.now in
    let within : c.args.node < length (rows_of c.args.edges.now) = c.requires.within in
    record {
      grouping = record {
        groups = entered_at (rows_of c.args.edges.now) s.places.items s.left.items s.stack.items s.path.items s.bounds.items s.least c.requires.grouping.groups
            c.args.node c.len-place.result _ _ _ within c.requires.new c.requires.all_lead
            (omega (arith, c.len-place.ensures, s.stack.ok)) c.in_ok-push.ensures.items c.in_ok-push-2.ensures.items c.in_ok-push-3.ensures.items;
        ranking = entered_ranked (rows_of c.args.edges.now) s.places.items s.stack.items s.closed s.ranks.items c.args.node c.len-place.result _ c.requires.grouping.ranking
            (omega (arith, within, c.requires.grouping.groups.places_size)) c.requires.new c.in_ok-push.ensures.items;
      };
      kept = met_still (rows_of c.args.edges.now) s.places.items c.args.node c.len-place.result;
    }
