use Rattle.rn_graph.specs.Graph.{rows_of}
use Rattle.rn_assemble.proofs.Expansion.CountedInstances.{CountsTo}
use Rattle.rn_assemble.proofs.including.inclusion.+instances_up_to.Given as goal

abbrev pub decreases-instances_up_to : goal.decreases-instances_up_to
decreases-instances_up_to l = l.most

abbrev pub invariant-loop-inner : goal.invariant-loop-inner
invariant-loop-inner l = CountsTo (rows_of l.edges) l.most l.count l.inner-index l.inner-items
