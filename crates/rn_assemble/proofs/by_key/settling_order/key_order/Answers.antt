use Rattle.std.proofs.Common.{refl, subst, sym}
use Rattle.rn_graph.specs.Graph.{rows_of}
use Rattle.rn_graph.specs.Ranks.{IsOrdered, IsRanking, IsFirstLoop}
use Rattle.rn_graph.proofs.Graphs.BuiltRows.{row_within, kept_graph}
use Rattle.rn_assemble.specs.inside.ReferenceOrder.{AreReached}
use Rattle.rn_assemble.specs.inside.Views.{key_numbers}
use Rattle.rn_assemble.proofs.Referring.NumberedReferences.{none_recursive, least_recursive}
use Rattle.rn_assemble.proofs.Referring.KeyOrders.{marked_from, ranked_no_loop, order_shown, reference_order}
use Rattle.rn_assemble.proofs.by_key.settling_order.key_order.Goals as goal

pub reached_nodes-requires-clause-first_within : goal.reached_nodes-requires-clause-first_within
reached_nodes-requires-clause-first_within c = row_within (rows_of c.args.references.now.everywhere) 0 c.row-first.result.now c.requires.everywhere c.row-first.ensures

pub ranks-requires : goal.ranks-requires
ranks-requires c = record {
  graph = kept_graph (rows_of c.args.references.now.outside) (rows_of c.in_ok-outside.outside) c.as_slice-reached.result.now c.requires.outside c.in_ok-outside.ensures.size c.in_ok-outside.ensures.kept;
}

pub returns-in-Ranked : goal.returns-in-Ranked
returns-in-Ranked c = λ names cs s refs.
    let everywhere = rows_of c.args.references.now.everywhere in
    let outside = rows_of c.args.references.now.outside in
    let seen = c.as_slice-reached.result.now in
    let kept = rows_of c.in_ok-outside.outside in
    let rows = c.in_ok-outside.ensures.kept in
    let ranks = c.in-Ranked.ranks.items in
    let order = key_numbers c.in_ok-order-in-Ranked.order.items in
    let marked : AreReached everywhere seen = subst (AreReached everywhere) (sym c.as_slice-reached.ensures.value) (marked_from everywhere c.row-first.result.now c.in_ok-reached.reached.items c.row-first.ensures c.in_ok-reached.ensures.exact) in
    let ranking : IsRanking kept ranks = subst (IsOrdered kept) c.in-Ranked.is c.in_ok-ranks.ensures in
    let by_rank = order_shown seen seen c.as_slice.result.now ranks order refl c.as_slice.ensures.value c.in_ok-order-in-Ranked.ensures in (
      none_recursive names s cs everywhere outside refs seen marked kept rows (ranked_no_loop kept ranks ranking),
      reference_order names s cs everywhere outside refs seen marked kept rows ranks ranking order by_rank,
    )

pub returns : goal.returns
returns c = λ names cs s refs.
    let everywhere = rows_of c.args.references.now.everywhere in
    let seen = c.as_slice-reached.result.now in
    let kept = rows_of c.in_ok-outside.outside in
    let marked : AreReached everywhere seen = subst (AreReached everywhere) (sym c.as_slice-reached.ensures.value) (marked_from everywhere c.row-first.result.now c.in_ok-reached.reached.items c.row-first.ensures c.in_ok-reached.ensures.exact) in
    let first : IsFirstLoop kept c.in-Looped.key = subst (IsOrdered kept) c.in-Looped.is c.in_ok-ranks.ensures in
    least_recursive names s cs everywhere (rows_of c.args.references.now.outside) refs seen marked kept c.in_ok-outside.ensures.kept c.in-Looped.key first
