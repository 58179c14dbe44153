use Rattle.rn_graph.specs.Graph.{rows_of}
use Rattle.rn_graph.proofs.Graphs.FirstLoop.{Searched}
use Rattle.rn_graph.proofs.search.search_all.Given as goal

abbrev pub invariant-loop-root : goal.invariant-loop-root
invariant-loop-root l = Searched (rows_of l.edges) l.search l.root
