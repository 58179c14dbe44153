use Rattle.std.proofs.Common.{◌+◌, set, ℕ, List, arith, sym, subst, ap, length, ◌∙◌}
use Rattle.std.proofs.lemmas.List.{length-take-le, get_or_read}
use Rattle.std.specs.Prelude.{vec_len}
use Rattle.rn_graph.specs.Graph.{rows_of}
use Rattle.rn_graph.specs.inside.Searching.{GroupingBy, RankingBy}
use Rattle.rn_graph.proofs.Graphs.Searches.Rising.{popped}
use Rattle.rn_graph.proofs.Graphs.Searches.KeptGroups.{node_below}
use Rattle.rn_graph.proofs.Graphs.Searches.Closing.{begin_below, group_closed, group_ranked}
use Rattle.rn_graph.proofs.search.close.Goals as goal

pub index-first-requires : goal.index-first-requires
index-first-requires c =
    let s = c.args.search.now in
    omega (arith, begin_below (rows_of c.args.edges.now) s.places.items s.left.items s.stack.items s.path.items s.bounds.items s.least c.requires.grouping.groups c.requires.last.0 c.args.begin c.requires.last.1 c.requires.all_looked, s.stack.ok)

pub index_mut-requires : goal.index_mut-requires
index_mut-requires c =
    let s = c.args.search.now in
    let rows = rows_of c.args.edges.now in
    let groups = c.requires.grouping.groups in
    let below = begin_below rows s.places.items s.left.items s.stack.items s.path.items s.bounds.items s.least groups c.requires.last.0 c.args.begin c.requires.last.1 c.requires.all_looked in
    let is = get_or_read s.stack.items c.args.begin c.index-first.result.now below c.index-first.ensures 0 in
    omega (arith, is, node_below rows s.places.items s.left.items s.stack.items s.path.items s.bounds.items s.least groups c.args.begin below, c.requires.grouping.ranking.ranks_size, s.ranks.ok)

pub returns-clause-goes_on : goal.returns-clause-goes_on
returns-clause-goes_on c =
    let s = c.args.search.now in
    let rows = rows_of c.args.edges.now in
    let first = c.index-first.result.now in
    let below = begin_below rows s.places.items s.left.items s.stack.items s.path.items s.bounds.items s.least c.requires.grouping.groups c.requires.last.0 c.args.begin c.requires.last.1 c.requires.all_looked in
    record {
      grouping = record {
        groups = subst (λ (p : List ℕ). GroupingBy rows s.places.items s.left.items c.truncate.new.self.items s.path.items p c.least_with-search.result)
            (sym (c.pop.ensures.rest ∙ popped s.bounds.items c.requires.last.0 c.args.begin (vec_len s.bounds) c.requires.last.1 (omega (arith, s.bounds.ok))))
            (subst (λ (p : List ℕ). GroupingBy rows s.places.items s.left.items p s.path.items c.requires.last.0 c.least_with-search.result) (sym c.truncate.ensures.items)
            (group_closed rows s.places.items s.left.items s.stack.items s.path.items s.bounds.items s.least c.requires.grouping.groups c.requires.last.0 c.args.begin c.requires.last.1 c.requires.all_looked
            c.least_with-search.result c.least_with-search.ensures));
        ranking = subst (λ (p : List ℕ). RankingBy rows s.places.items p (s.closed + 1) (set s.ranks.items first s.closed)) (sym c.truncate.ensures.items)
            (group_ranked rows s.places.items s.left.items s.stack.items s.path.items s.bounds.items s.least c.requires.grouping.groups c.requires.last.0 c.args.begin c.requires.last.1 c.requires.all_looked
            s.closed s.ranks.items first (get_or_read s.stack.items c.args.begin first below c.index-first.ensures 0) c.requires.grouping.ranking);
      };
      kept = λ x h. h;
    }

pub returns-clause-less : goal.returns-clause-less
returns-clause-less c =
    let s = c.args.search.now in
    let below = begin_below (rows_of c.args.edges.now) s.places.items s.left.items s.stack.items s.path.items s.bounds.items s.least c.requires.grouping.groups c.requires.last.0 c.args.begin c.requires.last.1 c.requires.all_looked in
    omega (arith, below, length-take-le c.args.begin s.stack.items (omega (arith, below)), ap length c.truncate.ensures.items)
