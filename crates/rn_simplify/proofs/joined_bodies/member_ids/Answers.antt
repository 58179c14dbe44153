use Rattle.std.proofs.Common.{map, sym, ap, ◌∙◌, subst}
use Rattle.std.specs.Prelude.{IsTrue}
use Rattle.rn_pattern.specs.Tree.{empty}
use Rattle.rn_simplify.specs.inside.FormKinds.{settled_form}
use Rattle.rn_simplify.proofs.Simplified.StoreIds.{all_more, ids_still, keeps_then, trees_still}
use Rattle.rn_simplify.proofs.Simplified.Repeats.{formed_more}
use Rattle.rn_pattern.specs.Store.{KnowsAll}
use Rattle.rn_simplify.proofs.joined_bodies.member_ids.Goals as goal

pub loop-index-preserved : goal.loop-index-preserved
loop-index-preserved g c =
    let k = g.P.Patterns.knows in
    let r = g.P.Patterns.tree_of in
    let a = c.args.store.now in
    let old = c.loop-index.store in
    let new = c.id_at.new.store in
    let inv = c.loop-index.invariant in
    let ids = c.loop-index.ids.items in
    let id = c.in_ok-id.id in
    let f = settled_form c.args.settled.now in
    record {
      kept = keeps_then (k a) (k old) (k new) (r a) (r old) (r new) inv.kept c.id_at.ensures.kept;
      known = subst (λ is. KnowsAll (k new) is) (sym c.in_ok-push.ensures.items)
          (all_more (λ i. IsTrue (k new i)) ids id (ids_still (k old) (k new) (r old) (r new) c.id_at.ensures.kept ids inv.known) (c.in_ok-id.ensures.made empty).0);
      made = ap (map (r new)) c.in_ok-push.ensures.items
          ∙ formed_more (r new) f ids id c.args.members.now c.loop-index.index c.loop-index-test.true (trees_still (k old) (k new) (r old) (r new) c.id_at.ensures.kept ids inv.known ∙ inv.made) (λ p. (c.in_ok-id.ensures.made p).1);
    }
