use Rattle.std.proofs.Common.{◌≡◌, Some, ◌+◌, ◌*◌, ◌<◌, ◌≤◌, sym, ap, ◌∙◌, subst, map, arith}
use Rattle.std.proofs.lemmas.List.{take_all}
use Rattle.std.specs.Prelude.{All, IfOk, IsTrue, string_bytes}
use Rattle.std.specs.Option.{option_map}
use Rattle.std.specs.Rc.{rc_str_bytes}
use Rattle.rn_pattern.specs.Store.{node_view, KnowsAll}
use Rattle.rn_pattern.specs.View.{parameters_view, pattern_view}
use Rattle.rn_simplify.specs.inside.NodeKinds.{datum_over}
use Rattle.rn_simplify.proofs.Simplified.NodeSizes.{tree_size, ids_size, member_size}
use Rattle.rn_simplify.proofs.Simplified.NodeKinds.{members_in, size_in, over_one, content_in, over_size, node_of_datum}
use Rattle.rn_simplify.proofs.rebuilding.+rebuild.Goals as goal

pub rebuild-rebuild-requires : goal.rebuild-rebuild-requires
rebuild-rebuild-requires g t c κs within =
    let at = g.P.Patterns.tree_of c.args.store.now in
    let k = g.P.Patterns.knows c.args.store.now in
    let n = c.node-node.result.now in
    let i = c.in-List.content in
    let s : tree_size (at c.args.id) ≡ tree_size (at i) + 1 = ap tree_size (sym c.node-node.ensures.root) ∙ over_size n i at c.in-List.is in
    let h : IsTrue (k i) = subst (λ is. All (λ j. IsTrue (k j)) is) (over_one n i c.in-List.is) c.node-node.ensures.within 0 i (omega arith) in
    (omega (arith, s, c.decreases), (within.0, (within.1, h)))

pub rebuild-rebuild_members-requires : goal.rebuild-rebuild_members-requires
rebuild-rebuild_members-requires g t c κs within =
    let at = g.P.Patterns.tree_of c.args.store.now in
    let k = g.P.Patterns.knows c.args.store.now in
    let n = c.node-node.result.now in
    let v = c.in-Group.members in
    let value = c.deref-in-Group.ensures.value in
    let s : tree_size (at c.args.id) ≡ ids_size at v.items + 1 = ap tree_size (sym c.node-node.ensures.root) ∙ size_in n v at c.in-Group.is in
    let m : 3 * ids_size at c.deref-in-Group.result.now + 2 < 3 * tree_size (at c.args.id) = subst (λ xs. 3 * ids_size at xs + 2 < 3 * tree_size (at c.args.id)) (sym value) (omega (arith, s)) in
    let all = subst (λ xs. KnowsAll k xs) (members_in n v c.in-Group.is ∙ sym value) c.node-node.ensures.within in
    (omega (arith, m, c.decreases), (within.0, (within.1, all)))

pub rebuild-returns-in-NotAllowed : goal.rebuild-returns-in-NotAllowed
rebuild-returns-in-NotAllowed g t c =
    let at = g.P.Patterns.tree_of c.args.store.now in
    subst (λ x. IfOk c.leaf_pattern.result (λ p. pattern_view p ≡ x)) c.node-node.ensures.root (c.leaf_pattern.ensures at)

pub rebuild-returns-in_ok-except-in-Datum : goal.rebuild-returns-in_ok-except-in-Datum
rebuild-returns-in_ok-except-in-Datum g t c =
    let at = g.P.Patterns.tree_of c.args.store.now in
    let d = c.in-Datum in
    let ps = c.deref.ensures.value in
    let except = c.in_ok-except-in-Datum.ensures in
    subst (λ x. IfOk c.datum_pattern.result (λ p. pattern_view p ≡ x))
    ((λ i. datum_over (rc_str_bytes d.library) (string_bytes d.type_name) (parameters_view (ps i)) (except i))
    ∙ node_of_datum at d.library d.type_name d.params d.except
    ∙ sym (ap (node_view at) d.is) ∙ c.node-node.ensures.root) c.datum_pattern.ensures

pub rebuild-returns-in_ok-content-in-List : goal.rebuild-returns-in_ok-content-in-List
rebuild-returns-in_ok-content-in-List g t c =
    let at = g.P.Patterns.tree_of c.args.store.now in
    subst (λ x. IfOk c.pattern_over_content.result (λ p. pattern_view p ≡ x)) c.node-node.ensures.root
    (c.pattern_over_content.ensures at (ap (option_map at) (content_in c.node-node.result.now c.in-List.content c.in-List.is) ∙ ap Some (sym c.in_ok-content-in-List.ensures)))

pub rebuild-returns-in_ok-members-in-Group : goal.rebuild-returns-in_ok-members-in-Group
rebuild-returns-in_ok-members-in-Group g t c =
    let at = g.P.Patterns.tree_of c.args.store.now in
    let v = c.in-Group.members in
    c.pattern_over_members.ensures at (ap (map at) (members_in c.node-node.result.now v c.in-Group.is ∙ sym c.deref-in-Group.ensures.value) ∙ sym c.in_ok-members-in-Group.ensures)
    ∙ c.node-node.ensures.root

pub rebuild_members-rebuild_shared-requires : goal.rebuild_members-rebuild_shared-requires
rebuild_members-rebuild_shared-requires g t c κs within =
    let at = g.P.Patterns.tree_of c.args.store.now in
    let k = g.P.Patterns.knows c.args.store.now in
    let is = c.args.ids.now in
    let x = c.index-ids-i.result in
    let m : tree_size (at x) ≤ ids_size at is = subst (λ y. tree_size (at y) ≤ ids_size at is) (sym c.index-ids-i.is) (member_size at is c.loop-i.i x c.loop-i-test.true) in
    let h : IsTrue (k x) = subst (λ y. IsTrue (k y)) (sym c.index-ids-i.is) (c.requires c.loop-i.i x c.loop-i-test.true) in
    (omega (arith, m, c.decreases), (within.0, (within.1, h)))

pub rebuild_members-returns : goal.rebuild_members-returns
rebuild_members-returns g t c = c.loop-i.invariant ∙ ap (map (g.P.Patterns.tree_of c.args.store.now)) (take_all c.loop-i.i c.args.ids.now (omega arith))
