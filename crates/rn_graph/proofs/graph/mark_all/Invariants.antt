use Rattle.std.proofs.Common.{take}
use Rattle.rn_graph.specs.inside.Marking.{Marks}
use Rattle.rn_graph.proofs.graph.mark_all.Given as goal

abbrev pub invariant-loop-node : goal.invariant-loop-node
invariant-loop-node l = Marks (take l.node-index l.row) l.fn.seen.items l.fn.order.items l.seen.items l.order.items
