-- The trees of a list of nodes: how long they are, after one more, and at one place.
use Rattle.std.proofs.Common.{◌≡◌, ◌+◌, ◌<◌, ◌≤◌, ℕ, zero, suc, List, [], ◌∷◌, ◌++◌, length, map, get_or, All, Some, None, inl, inr, refl, sym, ap, ◌∙◌, subst, arith}
use Rattle.std.proofs.Common.{Bool, true, false, cond, IsTrue}
use Rattle.std.proofs.lemmas.Bool.Decides.{nat_tests}
use Rattle.std.proofs.lemmas.List.{length_push, get_or_push, get_or_append_left}
use Rattle.std.proofs.lemmas.List.Elements.{All-head, All-tail}
use Rattle.rn_pattern.specs.Tree as tree
use Rattle.rn_pattern.specs.Tree.{Tree, trees_of}
use Rattle.rn_pattern.specs.View.{name_class_view, parameters_view}
use Rattle.std.specs.Prelude.{◌⊎◌, string_bytes}
use Rattle.std.specs.Rc.{rc_str_bytes}
use Rattle.std.proofs.Math.Nat.{eq-or-lt_of_le}
use Rattle.rn_pattern.specs.Store.{AddsOnly, KeepsTrees, StandsFor, node_view}
use Rattle.rn_pattern.specs.inside.Stored.{tree_at, trees_from, trees_of_nodes, NamesBelow, NameEarlier, knows}
use Rattle.rn_pattern.specs.declared.node.Node.{Node}
use Rattle.rn_pattern.specs.declared.node.NodeId.{NodeId}

pub length-trees_from : (ts : List Tree) (ns : List (Node NodeId)) → length (trees_from ts ns) ≡ length ts + length ns
length-trees_from ts [] = omega arith
length-trees_from ts (n ∷ ns) =
    let t = node_view (tree_at ts) n in
    omega (arith, length-trees_from (ts ++ t ∷ []) ns, length_push ts t)

pub length-trees_of_nodes : (ns : List (Node NodeId)) → length (trees_of_nodes ns) ≡ length ns
length-trees_of_nodes ns = omega (arith, length-trees_from [] ns)

trees_from-append : (ts : List Tree) (ns ms : List (Node NodeId)) → trees_from ts (ns ++ ms) ≡ trees_from (trees_from ts ns) ms
trees_from-append ts [] ms = refl
trees_from-append ts (n ∷ ns) ms = trees_from-append (ts ++ node_view (tree_at ts) n ∷ []) ns ms

pub trees_of_nodes-push : (ns : List (Node NodeId)) (n : Node NodeId) → trees_of_nodes (ns ++ n ∷ []) ≡ trees_of_nodes ns ++ node_view (tree_at (trees_of_nodes ns)) n ∷ []
trees_of_nodes-push ns n = trees_from-append [] ns (n ∷ [])

pub NameEarlier-push : (k : ℕ) (ns : List (Node NodeId)) (n : Node NodeId) → NameEarlier k ns → NamesBelow (k + length ns) n → NameEarlier k (ns ++ n ∷ [])
NameEarlier-push k [] n h b = let e : k + 0 ≡ k = omega arith in (subst (λ x. NamesBelow x n) e b, tt)
NameEarlier-push k (m ∷ ns) n h b =
    let e : k + suc (length ns) ≡ k + 1 + length ns = omega arith in
    (h.0, NameEarlier-push (k + 1) ns n h.1 (subst (λ x. NamesBelow x n) e b))

pub NameEarlier-at : (k : ℕ) (ns : List (Node NodeId)) (i : ℕ) (d : Node NodeId) → NameEarlier k ns → i < length ns → NamesBelow (k + i) (get_or ns i d)
NameEarlier-at k [] i d h l = absurd (omega arith)
NameEarlier-at k (n ∷ ns) zero d h l = let e : k ≡ k + 0 = omega arith in subst (λ x. NamesBelow x n) e h.0
NameEarlier-at k (n ∷ ns) (suc i) d h l =
    let e : k + 1 + i ≡ k + suc i = omega arith in
    subst (λ x. NamesBelow x (get_or ns i d)) e (NameEarlier-at (k + 1) ns i d h.1 (omega arith))

map_same : (at by : NodeId → Tree) (k : ℕ) (is : List NodeId) → ((i : NodeId) → i.0 < k → at i ≡ by i) → All (λ i. i.0 < k) is → map at is ≡ map by is
map_same at by k [] same h = refl
map_same at by k (i ∷ is) same h =
    let here = same i (All-head (λ (j : NodeId). j.0 < k) i is h) in
    let more = map_same at by k is same (All-tail (λ (j : NodeId). j.0 < k) i is h) in
    λ x. here x ∷ more x

-- a node's tree rests on the trees of the ids in it alone
pub node_view_same : (at by : NodeId → Tree) (k : ℕ) (n : Node NodeId) → ((i : NodeId) → i.0 < k → at i ≡ by i) → NamesBelow k n → node_view at n ≡ node_view by n
node_view_same at by k (Node.Datum l x ps (Some i)) same h = ap (tree.datum_but (rc_str_bytes l) (string_bytes x) (parameters_view ps.items)) (same i h)
node_view_same at by k (Node.Datum l x ps None) same h = refl
node_view_same at by k (Node.List i) same h = ap tree.list (same i h)
node_view_same at by k (Node.Attribute c i) same h = ap (tree.attribute (name_class_view c)) (same i h)
node_view_same at by k (Node.Element c i) same h = ap (tree.element (name_class_view c)) (same i h)
node_view_same at by k (Node.OneOrMore i) same h = ap tree.one_or_more (same i h)
node_view_same at by k (Node.Group is) same h = ap (λ x. tree.group (trees_of x)) (map_same at by k is.items same h)
node_view_same at by k (Node.Interleave is) same h = ap (λ x. tree.interleave (trees_of x)) (map_same at by k is.items same h)
node_view_same at by k (Node.Choice is) same h = ap (λ x. tree.choice (trees_of x)) (map_same at by k is.items same h)
node_view_same at by k n same h = refl

trees_from-before : (ts : List Tree) (ns : List (Node NodeId)) (i : ℕ) (e : Tree) → i < length ts → get_or (trees_from ts ns) i e ≡ get_or ts i e
trees_from-before ts [] i e h = refl
trees_from-before ts (n ∷ ns) i e h =
    let t = node_view (tree_at ts) n in
    trees_from-before (ts ++ t ∷ []) ns i e (omega (arith, length_push ts t)) ∙ get_or_append_left ts (t ∷ []) e i h

-- the tree at a place is that of the node there
pub trees_from-at : (ts : List Tree) (ns : List (Node NodeId)) (i : ℕ) (e : Tree) (d : Node NodeId) → NameEarlier (length ts) ns → i < length ns → get_or (trees_from ts ns) (length ts + i) e ≡ node_view (tree_at (trees_from ts ns)) (get_or ns i d)
trees_from-at ts [] i e d h l = absurd (omega arith)
trees_from-at ts (n ∷ ns) zero e d h l =
    let t = node_view (tree_at ts) n in
    let all = trees_from (ts ++ t ∷ []) ns in
    let at_end : length ts + 0 ≡ length ts = omega arith in
    let here : get_or all (length ts) e ≡ t = trees_from-before (ts ++ t ∷ []) ns (length ts) e (omega (arith, length_push ts t)) ∙ get_or_push ts t e (length ts) refl in
    let same : t ≡ node_view (tree_at all) n = node_view_same (tree_at ts) (tree_at all) (length ts) n (λ i below. sym (trees_from-before ts (n ∷ ns) i.0 tree.not_allowed below)) h.0 in
    ap (λ x. get_or all x e) at_end ∙ here ∙ same
trees_from-at ts (n ∷ ns) (suc i) e d h l =
    let t = node_view (tree_at ts) n in
    let len : length ts + 1 ≡ length (ts ++ t ∷ []) = sym (length_push ts t) in
    let place : length ts + suc i ≡ length (ts ++ t ∷ []) + i = omega arith in
    ap (λ x. get_or (trees_from (ts ++ t ∷ []) ns) x e) place ∙ trees_from-at (ts ++ t ∷ []) ns i e d (subst (λ x. NameEarlier x ns) len h.1) (omega arith)

pub trees_of_nodes-at : (ns : List (Node NodeId)) (i : ℕ) (e : Tree) (d : Node NodeId) → NameEarlier 0 ns → i < length ns → get_or (trees_of_nodes ns) i e ≡ node_view (tree_at (trees_of_nodes ns)) (get_or ns i d)
trees_of_nodes-at ns i e d h l =
    let place : i ≡ 0 + i = omega arith in
    ap (λ x. get_or (trees_of_nodes ns) x e) place ∙ trees_from-at [] ns i e d h l

-- a known id is a place of the list
pub knows_place : (ts : List Tree) (i : NodeId) → IsTrue (knows ts i) → i.0 < length ts
knows_place ts i h = grind (arith, nat_tests)

pub place_known : (ts : List Tree) (i : NodeId) → i.0 < length ts → IsTrue (knows ts i)
place_known ts i h = grind (arith, nat_tests)

pub NameEarlier-pushed : (b : Bool) (ns ms : List (Node NodeId)) (n : Node NodeId) → ms ≡ cond b (ns ++ n ∷ []) ns → NameEarlier 0 ns → NamesBelow (length (trees_of_nodes ns)) n → NameEarlier 0 ms
NameEarlier-pushed true ns ms n e h below =
    let len : length (trees_of_nodes ns) ≡ 0 + length ns = omega (arith, length-trees_of_nodes ns) in
    subst (λ x. NameEarlier 0 x) (sym e) (NameEarlier-push 0 ns n h (subst (λ x. NamesBelow x n) len below))
NameEarlier-pushed false ns ms n e h below = subst (λ x. NameEarlier 0 x) (sym e) h

pub names_below_at : (ns : List (Node NodeId)) (i : ℕ) (d : Node NodeId) → NameEarlier 0 ns → i < length ns → NamesBelow i (get_or ns i d)
names_below_at ns i d h l =
    let e : 0 + i ≡ i = omega arith in
    subst (λ k. NamesBelow k (get_or ns i d)) e (NameEarlier-at 0 ns i d h l)

-- one more tree behind the others
pub stands_at_end : (ts by : List Tree) (t : Tree) (i : NodeId) → i.0 ≡ length ts → by ≡ ts ++ t ∷ [] → StandsFor (knows by) (tree_at by) t i
stands_at_end ts by t i h e = (
  place_known by i (omega (arith, length_push ts t, ap length e, h)),
  ap (λ us. tree_at us i) e ∙ get_or_push ts t tree.not_allowed i.0 (sym h),
)

known_or_last : (n : ℕ) (i r : NodeId) → r.0 ≡ n → (i.0 ≡ n) ⊎ (i.0 < n) → (i.0 < n) ⊎ (i ≡ r)
known_or_last n i r h (inl e) = inr (ap (λ k. record { 0 = k }) (e ∙ sym h))
known_or_last n i r h (inr l) = inl l

known_by_place : (ts : List Tree) (i r : NodeId) → (i.0 < length ts) ⊎ (i ≡ r) → IsTrue (knows ts i) ⊎ (i ≡ r)
known_by_place ts i r (inl l) = inl (place_known ts i l)
known_by_place ts i r (inr e) = inr e

pub adds_at_end : (ts by : List Tree) (t : Tree) (r : NodeId) → r.0 ≡ length ts → by ≡ ts ++ t ∷ [] → AddsOnly (knows ts) (knows by) r
adds_at_end ts by t r h e i known =
    let below : i.0 ≤ length ts = omega (arith, knows_place by i known, ap length e, length_push ts t) in
    known_by_place ts i r (known_or_last (length ts) i r h (eq-or-lt_of_le below))

pub adds_none : (ts by : List Tree) (r : NodeId) → by ≡ ts → AddsOnly (knows ts) (knows by) r
adds_none ts by r e i known = inl (subst (λ us. IsTrue (knows us i)) e known)

pub keeps_same : (ts by : List Tree) → by ≡ ts → KeepsTrees (knows ts) (tree_at ts) (knows by) (tree_at by)
keeps_same ts by e i h = (subst (λ us. IsTrue (knows us i)) (sym e) h, ap (λ us. tree_at us i) e)

pub keeps_before : (ts by : List Tree) (t : Tree) → by ≡ ts ++ t ∷ [] → KeepsTrees (knows ts) (tree_at ts) (knows by) (tree_at by)
keeps_before ts by t e i h = (
  place_known by i (omega (arith, length_push ts t, ap length e, knows_place ts i h)),
  ap (λ us. tree_at us i) e ∙ get_or_append_left ts (t ∷ []) tree.not_allowed i.0 (knows_place ts i h),
)

pub keeps_pushed : (b : Bool) (ns ms : List (Node NodeId)) (n : Node NodeId) → ms ≡ cond b (ns ++ n ∷ []) ns → KeepsTrees (knows (trees_of_nodes ns)) (tree_at (trees_of_nodes ns)) (knows (trees_of_nodes ms)) (tree_at (trees_of_nodes ms))
keeps_pushed true ns ms n e = keeps_before (trees_of_nodes ns) (trees_of_nodes ms) _ (ap trees_of_nodes e ∙ trees_of_nodes-push ns n)
keeps_pushed false ns ms n e = keeps_same (trees_of_nodes ns) (trees_of_nodes ms) (ap trees_of_nodes e)

pub grows_pushed : (b : Bool) (ns ms : List (Node NodeId)) (n : Node NodeId) → ms ≡ cond b (ns ++ n ∷ []) ns → length (trees_of_nodes ms) ≤ length (trees_of_nodes ns) + 1
grows_pushed true ns ms n e = omega (arith, length-trees_of_nodes ns, length-trees_of_nodes ms, ap length e, length_push ns n)
grows_pushed false ns ms n e = omega (arith, length-trees_of_nodes ns, length-trees_of_nodes ms, ap length e)
