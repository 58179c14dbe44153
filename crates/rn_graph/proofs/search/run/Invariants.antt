use Rattle.rn_graph.specs.Graph.{rows_of}
use Rattle.rn_graph.specs.inside.Searching.{GroupsOn, work}
use Rattle.rn_graph.proofs.search.run.Given as goal

abbrev pub invariant-loop-search : goal.invariant-loop-search
invariant-loop-search l = GroupsOn (rows_of l.edges) l.fn.search l.search

abbrev pub decreases-loop-search : goal.decreases-loop-search
decreases-loop-search l = work l.search
