-- The heads, then the members one by one, up to two that decide.
use Rattle.std.proofs.Common.{◌≡◌, ◌<◌, List, ◌+◌, length, get_or, All, IsTrue, Equal, true, refl, sym, ap, ◌∙◌, arith, eqb-true}
use Rattle.std.specs.List.{IsDistinct}
use Rattle.std.proofs.lemmas.List.Elements.{All-get_or}
use Rattle.rn_pattern.specs.inside.Hashing.{node_eq}
use Rattle.rn_pattern.specs.inside.Stored.{NameEarlier, knows, tree_at, trees_of_nodes}
use Rattle.rn_pattern.specs.declared.node.Node.{Node}
use Rattle.rn_pattern.specs.declared.node.NodeId.{NodeId}
use Rattle.rn_pattern.proofs.Stores.ShownTrees.{tree_cmp-settled, tree_cmp-by_members}
use Rattle.rn_pattern.proofs.Stores.Sharing.{places_tell}
use Rattle.rn_pattern.proofs.Ordered.Orders.{tree_same}
use Rattle.rn_pattern.proofs.Ordered.Stepwise.{rest_ended, rest_last, rest_settled, rest_tied}
use Rattle.rn_pattern.proofs.Ordered.TotalOrder.{tree_cmp_total}
use Rattle.rn_pattern.specs.Tree as tree
use Rattle.rn_pattern.specs.Order.{tree_cmp}
use Rattle.std.proofs.lemmas.Cmp.{tied_itself}
use Rattle.rn_pattern.proofs.tables.node_table.NodeTable.+compare.Goals as goal
use Rattle.rn_pattern.proofs.tables.node_table.NodeTable.+compare.Goals.{compare_roots-then-k-x, compare_roots-else-k-x, compare_roots-then-self, compare_roots-else-self}

-- where no two nodes are equal, ids that differ stand for patterns that differ in the order
differ : (ns : List (Node NodeId)) → NameEarlier 0 ns → IsDistinct node_eq ns → (p q : NodeId) → IsTrue (knows (trees_of_nodes ns) p) → IsTrue (knows (trees_of_nodes ns) q) → ¬ (p.0 ≡ q.0)
    → ¬ (tree_cmp (tree_at (trees_of_nodes ns) p) (tree_at (trees_of_nodes ns) q) ≡ Equal)
differ ns earlier distinct p q h k apart e = apart (places_tell ns earlier distinct Node.NotAllowed p q h k (tree_same (tree_at (trees_of_nodes ns) p) (tree_at (trees_of_nodes ns) q) e))

pub compare-returns-in-As : goal.compare-returns-in-As
compare-returns-in-As t c = c.in-As.ensures ∙ c.loop-x.invariant.1

pub compare-returns : goal.compare-returns
compare-returns t c =
    let ts = trees_of_nodes c.args.self.now.nodes.now in
    sym (tied_itself tree_cmp_total (tree_at ts c.loop-x.x)) ∙ ap (λ k. tree_cmp (tree_at ts c.loop-x.x) (get_or ts k tree.not_allowed)) c.loop-x-test.false ∙ c.loop-x.invariant.1

pub compare-loop-x-preserved : goal.compare-loop-x-preserved
compare-loop-x-preserved t c = (omega (arith, c.in-Within.ensures.0, c.loop-x.invariant.0), c.in-Within.ensures.1 ∙ c.loop-x.invariant.1)

pub compare_roots-returns-in_default : goal.compare_roots-returns-in_default
compare_roots-returns-in_default t c =
    tree_cmp-settled _ _ _ _ _ _ _ _ _ _ _ _ _ _ _ c.parts-x.ensures.shows c.parts-y.ensures.shows c.compare_heads.result c.compare_heads.ensures c.in_default.not-Equal

pub compare_roots-returns-in_default-compare : goal.compare_roots-returns-in_default-compare
compare_roots-returns-in_default-compare t c =
    let at = tree_at (trees_of_nodes c.args.self.now.nodes.now) in
    let d : NodeId = record { 0 = 0 } in
    let xs = c.parts-x.result.members.now in
    let ys = c.parts-y.result.members.now in
    sym (tree_cmp-by_members _ _ _ _ _ _ _ _ _ _ _ _ _ _ _ c.parts-x.ensures.shows c.parts-y.ensures.shows c.compare_heads.result c.compare_heads.ensures c.in-Equal.is c.loop-k.k c.loop-k.invariant
    ∙ rest_settled tree_cmp at xs ys c.loop-k.k d d c.compare.result (omega (arith, c.loop-k-test.true, c.min-shared.ensures)) (omega (arith, c.loop-k-test.true, c.min-shared.ensures)) c.compare.ensures c.in_default-compare.not-Equal)

pub compare_roots-returns : goal.compare_roots-returns
compare_roots-returns t c =
    let at = tree_at (trees_of_nodes c.args.self.now.nodes.now) in
    let xs = c.parts-x.result.members.now in
    let ys = c.parts-y.result.members.now in
    c.cmp.ensures ∙ sym (tree_cmp-by_members _ _ _ _ _ _ _ _ _ _ _ _ _ _ _ c.parts-x.ensures.shows c.parts-y.ensures.shows c.compare_heads.result c.compare_heads.ensures c.in-Equal.is c.loop-k.k c.loop-k.invariant
    ∙ rest_ended tree_cmp at xs ys c.loop-k.k (omega (arith, c.loop-k.auto.k-end, c.loop-k-test.false, c.min-shared.ensures)))

pub compare_roots-loop-k-preserved : goal.compare_roots-loop-k-preserved
compare_roots-loop-k-preserved t c =
    let at = tree_at (trees_of_nodes c.args.self.now.nodes.now) in
    let d : NodeId = record { 0 = 0 } in
    let xs = c.parts-x.result.members.now in
    let ys = c.parts-y.result.members.now in
    c.loop-k.invariant ∙ rest_tied tree_cmp at xs ys c.loop-k.k d d c.compare.result (omega (arith, c.loop-k-test.true, c.min-shared.ensures)) (omega (arith, c.loop-k-test.true, c.min-shared.ensures)) c.compare.ensures c.in-Equal-compare.is

pub compare_roots-returns-then-is_last : goal.compare_roots-returns-then-is_last
compare_roots-returns-then-is_last t c =
    let ns = c.args.self.now.nodes.now in
    let at = tree_at (trees_of_nodes ns) in
    let d : NodeId = record { 0 = 0 } in
    let xs = c.parts-x.result.members.now in
    let ys = c.parts-y.result.members.now in
    let in_x : c.loop-k.k < length xs = omega (arith, c.loop-k-test.true, c.min-shared.ensures) in
    let in_y : c.loop-k.k < length ys = omega (arith, c.loop-k-test.true, c.min-shared.ensures) in
    let p = get_or xs c.loop-k.k d in
    let q = get_or ys c.loop-k.k d in
    let Known : NodeId → Type 0 = λ i. IsTrue (knows (trees_of_nodes ns) i) in
    let known_p : Known p = All-get_or Known xs c.loop-k.k d in_x c.parts-x.ensures.known in
    let known_q : Known q = All-get_or Known ys c.loop-k.k d in_y c.parts-y.ensures.known in
    let below : p.0 < c.args.a.0 = All-get_or (λ (i : NodeId). i.0 < c.args.a.0) xs c.loop-k.k d in_x c.parts-x.ensures.shows.below in
    let whole = tree_cmp-by_members _ _ _ _ _ _ _ _ _ _ _ _ _ _ _ c.parts-x.ensures.shows c.parts-y.ensures.shows c.compare_heads.result c.compare_heads.ensures c.in-Equal.is c.loop-k.k c.loop-k.invariant in
    let by_shared : c.args.self.now.is_shared ≡ true → tree_cmp (at p) (at q) ≡ tree_cmp (at c.args.a) (at c.args.b) =
    λ e. sym (whole ∙ rest_settled tree_cmp at xs ys c.loop-k.k d d (tree_cmp (at p) (at q)) in_x in_y refl (differ ns c.args.self.now.earlier (c.args.self.now.distinct e) p q known_p known_q c.if-p-q.true)) in
    let by_last : c.loop-k.k + 1 ≡ length xs → c.loop-k.k + 1 ≡ length ys → tree_cmp (at p) (at q) ≡ tree_cmp (at c.args.a) (at c.args.b) =
    λ e f. sym (whole ∙ rest_last tree_cmp at xs ys c.loop-k.k d d e f) in (
      below,
      elim c.if-self.branch [
        | compare_roots-then-self w ↦ by_shared w.if-self.true
        | compare_roots-else-self w ↦ elim c.if-k-x.branch [
          | compare_roots-then-k-x v ↦ by_last v.if-k-x.true (eqb-true _ _ (sym v.is_last-is ∙ sym w.value-is ∙ c.if-is_last.true))
          | compare_roots-else-k-x v ↦ absurd (v.if-k-x.false (eqb-true _ _ (sym v.is_last-is ∙ sym w.value-is ∙ c.if-is_last.true)))
        ]
      ],
    )
