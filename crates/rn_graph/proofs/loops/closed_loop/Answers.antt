use Rattle.std.proofs.Common.{◌≡◌, ℕ, ◌<◌, ◌∷◌, ◌++◌, [], ap, arith, length, ◌∙◌}
use Rattle.std.proofs.lemmas.List.{get_or_read}
use Rattle.rn_graph.specs.Graph.{rows_of}
use Rattle.rn_graph.specs.inside.Walks.{node_at, place_before}
use Rattle.rn_graph.proofs.Graphs.Loops.{leads_from_before}
use Rattle.rn_graph.proofs.loops.closed_loop.Goals as goal

pub loop-place-preserved : goal.loop-place-preserved
loop-place-preserved c =
    let w = c.args.walk.now in
    let place = c.loop-place.place in
    let before = c.index-place.result.now in
    let nodes = c.loop-place.nodes.items in
    let h : place < length w.nodes.items = c.loop-place.invariant.0 in
    let some : 0 < place = omega (arith, c.loop-place-test.true) in
    let held : place < length w.before.items = omega (arith, h, c.requires.walk.counted) in
    let is : before ≡ place_before w place = get_or_read w.before.items place before held c.index-place.ensures 0 in
    let less : before < place = omega (arith, is, c.requires.walk.behind place some h) in
    let within : before < length w.nodes.items = omega (arith, less, h) in
    let node : c.index-in-loop-place.result.now ≡ node_at w before =
    get_or_read w.nodes.items before c.index-in-loop-place.result.now within c.index-in-loop-place.ensures 0 in
    let pushed : c.push.new.self.items ≡ nodes ++ node_at w before ∷ [] = c.in_ok-push.ensures.items ∙ ap (λ (x : ℕ). nodes ++ x ∷ []) node in (
      within,
      leads_from_before (rows_of c.args.edges.now) w place before nodes c.push.new.self.items c.requires.walk some h is pushed c.loop-place.invariant.1,
    )
