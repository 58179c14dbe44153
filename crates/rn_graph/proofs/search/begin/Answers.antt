use Rattle.std.proofs.Common.{◌∙◌, ap, ℕ, replicate, rules}
use Rattle.std.specs.Prelude.{None}
use Rattle.rn_graph.specs.Graph.{rows_of}
use Rattle.rn_graph.proofs.Graphs.FirstLoop.{not_begun}
use Rattle.rn_graph.proofs.Graphs.Searches.Ranking.{none_ranked}
use Rattle.rn_graph.proofs.search.begin.Goals as goal

pub returns-clause-grouping : goal.returns-clause-grouping
returns-clause-grouping c =
    let rows = rows_of c.args.edges.now in
    let none = c.in_ok-vec.ensures.items_if_clones_equal (λ y h. search rules) ∙ ap (λ (n : ℕ). replicate n None) c.len.ensures in
    record {
      groups = not_begun rows _ _ _ _ _ none c.in_ok-lengths.ensures c.in_ok-with_capacity.ensures.items c.in_ok-with_capacity-2.ensures.items c.in_ok-with_capacity-3.ensures.items;
      ranking = none_ranked rows _ _ _ none c.in_ok-with_capacity.ensures.items (c.in_ok-vec-2.ensures.items_if_clones_equal (λ y h. h) ∙ ap (λ (n : ℕ). replicate n 0) c.len-5.ensures);
    }
