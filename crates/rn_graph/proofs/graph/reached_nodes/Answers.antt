use Rattle.std.proofs.Common.{◌≡◌, ◌<◌, ℕ, List, length, arith, subst, ap, ◌∙◌, get_or}
use Rattle.std.proofs.lemmas.Grind.{common_steps}
use Rattle.std.proofs.lemmas.List.Elements.{Contains-get_or}
use Rattle.std.specs.List.{Contains}
use Rattle.rn_graph.specs.Graph.{row, rows_of}
use Rattle.rn_graph.specs.inside.Marking.{Marks}
use Rattle.rn_graph.proofs.Graphs.Marking.{search_begins, search_goes_on, search_ends, marked_below, none_yet}
use Rattle.rn_graph.proofs.graph.reached_nodes.Goals as goal

pub mark_all-requires-clause-within : goal.mark_all-requires-clause-within
mark_all-requires-clause-within c = λ y h. omega (arith, c.requires.first_within y h, c.in_ok-seen.ensures.len)

pub loop-next-init : goal.loop-next-init
loop-next-init c =
    let size : length c.in_ok-seen.seen.items ≡ length (rows_of c.args.edges.now) =
    omega (arith, c.in_ok-seen.ensures.len, c.in_ok-seen.seen.ok) in
    search_begins (rows_of c.args.edges.now) c.args.first.now c.in_ok-seen.seen.items _ _
    (none_yet c.in_ok-seen.seen.items _ (c.in_ok-seen.ensures.items_if_clones_equal (λ y h. h))) size (rw (c.in_ok-order.ensures.items) at c.in_ok-mark_all.ensures)

pub row-row-requires : goal.row-row-requires
row-row-requires c =
    let below : c.loop-next.next < length c.loop-next.order.items = omega (arith, c.loop-next-test.true, c.loop-next.order.ok) in
    let e : c.index.result.now ≡ get_or c.loop-next.order.items c.loop-next.next 0 = grind (arith, common_steps) in
    let m = c.loop-next.invariant.agrees.marked _ (Contains-get_or c.loop-next.order.items c.loop-next.next 0 below) in
    omega (arith, e, marked_below c.loop-next.seen.items _ m, c.loop-next.invariant.size)

pub mark_all-requires-in-loop-next-clause-within :
    goal.mark_all-requires-in-loop-next-clause-within
mark_all-requires-in-loop-next-clause-within c = λ y h.
    let r = c.requires.graph c.index.result.now y (subst (λ (l : List ℕ). Contains l y) c.row-row.ensures h) in
    omega (arith, r, c.loop-next.invariant.size, c.loop-next.seen.ok)

pub loop-next-preserved : goal.loop-next-preserved
loop-next-preserved c =
    let below : c.loop-next.next < length c.loop-next.order.items = omega (arith, c.loop-next-test.true, c.loop-next.order.ok) in
    let e : c.index.result.now ≡ get_or c.loop-next.order.items c.loop-next.next 0 = grind (arith, common_steps) in
    search_goes_on (rows_of c.args.edges.now) c.args.first.now _ _ _ _ _ below c.loop-next.invariant
    (subst (λ (l : List ℕ). Marks l c.loop-next.seen.items c.loop-next.order.items c.mark_all-in-loop-next.new.seen.items c.mark_all-in-loop-next.new.order.items)
    (c.row-row.ensures ∙ ap (λ (x : ℕ). row (rows_of c.args.edges.now) x) e) c.in_ok-mark_all-2.ensures)

pub returns-clause-exact : goal.returns-clause-exact
returns-clause-exact c = search_ends (rows_of c.args.edges.now) c.args.first.now c.loop-next.seen.items c.loop-next.order.items c.loop-next.next (omega (arith, c.loop-next-test.false, c.loop-next.order.ok)) c.loop-next.invariant
