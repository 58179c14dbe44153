use Rattle.std.proofs.Common.{◌<◌, inr, length, arith, sym}
use Rattle.rn_graph.specs.Graph.{rows_of}
use Rattle.rn_graph.proofs.Graphs.Searches.KeptGroups.{united}
use Rattle.rn_graph.proofs.search.unite_groups.Goals as goal

pub pass-requires-clause-grouping : goal.pass-requires-clause-grouping
pass-requires-clause-grouping c =
    let s = c.args.search.now in
    record {
      groups = united (rows_of c.args.edges.now) s.places.items s.left.items s.stack.items s.path.items s.bounds.items s.least c.requires.grouping.groups
          c.drop_bounds.new.bounds.items c.args.other c.drop_bounds.ensures (omega (arith, c.requires.other_within, s.stack.ok)) c.requires.all_lead;
      ranking = c.requires.grouping.ranking;
    }

pub pass-requires-clause-settled : goal.pass-requires-clause-settled
pass-requires-clause-settled c =
    let s = c.args.search.now in
    let below : c.args.other < length s.stack.items = omega (arith, c.requires.other_within, s.stack.ok) in
    inr (c.args.other, below, sym c.requires.next, λ z k h. absurd (omega (arith, c.drop_bounds.ensures.within z k, h)))
