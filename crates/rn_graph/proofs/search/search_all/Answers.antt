use Rattle.std.proofs.Common.{◌≡◌, arith, length, refl, subst}
use Rattle.rn_graph.specs.Graph.{rows_of}
use Rattle.rn_graph.proofs.Graphs.FirstLoop.{Searched, first_loop, all_ranked}
use Rattle.rn_graph.proofs.search.search_all.Goals as goal

pub returns-clause-least : goal.returns-clause-least
returns-clause-least c =
    let rows = rows_of c.args.edges.now in
    let e : c.loop-root.root ≡ length rows = omega (arith, c.loop-root-test.false, c.loop-root.auto.root-end) in
    first_loop rows c.loop-root.search (subst (Searched rows c.loop-root.search) e c.loop-root.invariant) c.loop-root.search.least refl

pub returns-clause-ranked : goal.returns-clause-ranked
returns-clause-ranked c =
    let rows = rows_of c.args.edges.now in
    let e : c.loop-root.root ≡ length rows = omega (arith, c.loop-root-test.false, c.loop-root.auto.root-end) in
    all_ranked rows c.loop-root.search (subst (Searched rows c.loop-root.search) e c.loop-root.invariant)
