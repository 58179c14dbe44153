use Rattle.rn_graph.specs.Graph.{rows_of}
use Rattle.rn_graph.proofs.Graphs.FirstLoop.{first_within}
use Rattle.rn_graph.proofs.ranks.least_looped.Goals as goal

pub returns-clause-within : goal.returns-clause-within
returns-clause-within c =
    first_within (rows_of c.args.edges.now) c.in_ok-search_all.field-0.least c.in_ok-search_all.ensures.least
