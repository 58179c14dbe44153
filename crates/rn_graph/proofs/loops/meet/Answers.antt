use Rattle.std.proofs.Common.{◌≡◌, ◌<◌, false, arith, length, refl}
use Rattle.std.proofs.lemmas.Grind.{common_steps}
use Rattle.rn_graph.specs.Graph.{is_marked, rows_of}
use Rattle.rn_graph.proofs.Graphs.Loops.{one_met}
use Rattle.rn_graph.proofs.loops.meet.Goals as goal

pub returns-in_ok-push-2 : goal.returns-in_ok-push-2
returns-in_ok-push-2 c =
    let w = c.args.walk.now in
    let within : c.args.place < length w.nodes.items = omega (arith, c.requires.within, w.nodes.ok) in
    let below : c.args.node < length w.met.items = omega (arith, c.if-node-len.true, c.len.ensures, w.met.ok) in
    let new : is_marked w.met.items c.args.node ≡ false = grind (arith, common_steps) in
    one_met (rows_of c.args.edges.now) w _ c.args.place c.args.node c.requires.walk within c.requires.edge below new refl c.in_ok-push.ensures.items
    c.in_ok-push-2.ensures.items
