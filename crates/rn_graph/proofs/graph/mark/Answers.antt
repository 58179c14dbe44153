use Rattle.std.proofs.Common.{◌≡◌, ◌<◌, false, arith, length}
use Rattle.std.proofs.lemmas.Grind.{common_steps}
use Rattle.rn_graph.specs.Graph.{is_marked}
use Rattle.rn_graph.proofs.Graphs.Marking.{one_more}
use Rattle.rn_graph.proofs.graph.mark.Goals as goal

pub returns-in_ok-push : goal.returns-in_ok-push
returns-in_ok-push c =
    let below : c.args.node < length c.args.seen.now.items = omega (arith, c.requires.within, c.args.seen.now.ok) in
    let new : is_marked c.args.seen.now.items c.args.node ≡ false = grind (arith, common_steps) in
    rw (c.in_ok-push.ensures.items) (one_more c.args.seen.now.items c.args.order.now.items c.args.node below new c.requires.agrees)
