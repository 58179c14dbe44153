use Rattle.std.proofs.Common.{◌<◌, ◌≤◌, arith, length}
use Rattle.std.proofs.lemmas.Bool.Decides.{not_from_Decides}
use Rattle.rn_graph.specs.Graph.{rows_of}
use Rattle.rn_graph.proofs.Graphs.FirstLoop.{starts_within}
use Rattle.rn_graph.proofs.Graphs.Loops.{looks_on, no_loop}
use Rattle.rn_graph.proofs.loops.shortest_loop.Goals as goal

pub returns-then-node-len : goal.returns-then-node-len
returns-then-node-len c = λ l. omega (arith, starts_within (rows_of c.args.edges.now) l, c.if-node-len.true, c.len.ensures)

pub loop-place-preserved : goal.loop-place-preserved
loop-place-preserved c =
    let w = c.loop-place.walk in
    let within : c.loop-place.place < length w.nodes.items = omega (arith, c.loop-place-test.true, w.nodes.ok) in
    looks_on (rows_of c.args.edges.now) c.args.node w c.meet_all.new.walk c.loop-place.place within c.loop-place.invariant
    (not_from_Decides c.leads_to.result c.leads_to.ensures c.if-leads_to.false) c.in_ok-meet_all.ensures

pub returns : goal.returns
returns c =
    let w = c.loop-place.walk in
    let end : length w.nodes.items ≤ c.loop-place.place = omega (arith, c.loop-place-test.false, w.nodes.ok) in
    no_loop (rows_of c.args.edges.now) c.args.node w c.loop-place.place end c.loop-place.invariant
