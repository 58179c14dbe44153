use Rattle.std.proofs.Common.{arith}
use Rattle.std.proofs.lemmas.List.Elements.{Contains-get_or}
use Rattle.rn_graph.proofs.Graphs.Marking.{row_more}
use Rattle.rn_graph.proofs.graph.mark_all.Goals as goal

pub mark-requires-clause-within : goal.mark-requires-clause-within
mark-requires-clause-within c = omega (arith, c.requires.within _ (Contains-get_or c.args.row.now c.loop-node.node-index 0 c.loop-node-test.true))

pub loop-node-preserved : goal.loop-node-preserved
loop-node-preserved c = row_more c.args.row.now c.loop-node.node-index _ _ _ _ _ _ c.loop-node-test.true c.loop-node.invariant c.in_ok-mark.ensures
