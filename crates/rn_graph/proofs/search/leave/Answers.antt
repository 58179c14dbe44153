use Rattle.std.proofs.Common.{ℕ, List, arith, sym, subst, ◌∙◌}
use Rattle.std.specs.Prelude.{vec_len}
use Rattle.rn_graph.specs.Graph.{rows_of}
use Rattle.rn_graph.specs.inside.Searching.{GroupingBy}
use Rattle.rn_graph.proofs.Graphs.Searches.Rising.{popped}
use Rattle.rn_graph.proofs.Graphs.Searches.KeptGroups.{left_path}
use Rattle.rn_graph.proofs.search.leave.Goals as goal

pub returns-clause-goes_on : goal.returns-clause-goes_on
returns-clause-goes_on c =
    let s = c.args.search.now in
    record {
      grouping = record {
        groups = subst (λ (p : List ℕ). GroupingBy (rows_of c.args.edges.now) s.places.items s.left.items s.stack.items p s.bounds.items s.least)
            (sym (c.pop.ensures.rest ∙ popped s.path.items c.requires.last.0 c.args.place (vec_len s.path) c.requires.last.1 (omega (arith, s.path.ok))))
            (left_path (rows_of c.args.edges.now) s.places.items s.left.items s.stack.items s.path.items s.bounds.items s.least c.requires.grouping.groups c.requires.last.0 c.args.place c.requires.last.1 c.requires.all_looked);
        ranking = c.requires.grouping.ranking;
      };
      kept = λ x h. h;
    }
