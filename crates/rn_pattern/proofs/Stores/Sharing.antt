-- Where no two nodes are equal, no two ids stand for equal trees.
use Rattle.std.proofs.Common.{◌≡◌, ◌<◌, ◌≤◌, ℕ, zero, suc, List, [], ◌∷◌, length, map, get_or, All, IsTrue, inl, inr, refl, sym, ap, ◌∙◌, subst, arith}
use Rattle.std.specs.Prelude.{◌⊎◌}
use Rattle.std.specs.List.{IsDistinct}
use Rattle.std.proofs.lemmas.Bool.{false≢true}
use Rattle.std.proofs.lemmas.Map.Keys.{apart_from_distinct}
use Rattle.std.proofs.lemmas.List.Elements.{All-head, All-tail}
use Rattle.rn_pattern.specs.Tree as tree
use Rattle.rn_pattern.specs.Tree.{Tree, list_of}
use Rattle.rn_pattern.specs.Order.{rank}
use Rattle.rn_pattern.specs.inside.Shown.{texts_in, parameters_in, names_in, members_in}
use Rattle.rn_pattern.specs.Store.{AddsOnly, KeepsTrees, StandsFor, node_view}
use Rattle.rn_pattern.specs.Nodes.{node_members}
use Rattle.rn_pattern.specs.inside.Stored.{NamesBelow, NameEarlier, knows, tree_at, trees_of_nodes}
use Rattle.rn_pattern.specs.inside.Hashing.{node_parts, parts_decides, node_eq}
use Rattle.rn_pattern.specs.declared.tables.interned.Interned.{Interned}
use Rattle.rn_pattern.specs.declared.node.Node.{Node}
use Rattle.rn_pattern.specs.declared.node.NodeId.{NodeId}
use Rattle.rn_pattern.proofs.Matches.StepsKeep.{list_of-trees_of}
use Rattle.rn_pattern.proofs.Stores.NodeTrees.{length-trees_of_nodes, trees_of_nodes-at, names_below_at, knows_place, place_known}
use Rattle.rn_pattern.proofs.Stores.ShownTrees.{shows_node}

-- below i and j, equal trees have equal places
abbrev Tells : (NodeId → Tree) → ℕ → ℕ → Type 0
Tells at i j = (p q : NodeId) → p.0 < i → q.0 < j → at p ≡ at q → p.0 ≡ q.0

abbrev tail_of : List Tree → List Tree
tail_of [] = []
tail_of (t ∷ ts) = ts

places_same : (at : NodeId → Tree) (i j : ℕ) → Tells at i j → (ps qs : List NodeId) → All (λ (p : NodeId). p.0 < i) ps → All (λ (q : NodeId). q.0 < j) qs → map at ps ≡ map at qs → map (λ (p : NodeId). p.0) ps ≡ map (λ (q : NodeId). q.0) qs
places_same at i j tells [] [] h k e = refl
places_same at i j tells [] (q ∷ qs) h k e = let f : 0 ≡ suc (length (map at qs)) = ap length e in absurd (omega (arith, f))
places_same at i j tells (p ∷ ps) [] h k e = let f : suc (length (map at ps)) ≡ 0 = ap length e in absurd (omega (arith, f))
places_same at i j tells (p ∷ ps) (q ∷ qs) h k e =
    let here : p.0 ≡ q.0 = tells p q (All-head (λ (r : NodeId). r.0 < i) p ps h) (All-head (λ (r : NodeId). r.0 < j) q qs k) (ap (λ ts. get_or ts 0 tree.not_allowed) e) in
    let more = places_same at i j tells ps qs (All-tail (λ (r : NodeId). r.0 < i) p ps h) (All-tail (λ (r : NodeId). r.0 < j) q qs k) (ap tail_of e) in
    λ x. here x ∷ more x

parts_from_view : (at : NodeId → Tree) (i j : ℕ) (m n : Node NodeId) → NamesBelow i m → NamesBelow j n → Tells at i j → node_view at m ≡ node_view at n → node_parts m ≡ node_parts n
parts_from_view at i j m n h k tells e =
    let x = shows_node at i m h in
    let y = shows_node at j n k in
    let members : map at (node_members m) ≡ map at (node_members n) =
    sym (list_of-trees_of (map at (node_members m))) ∙ ap list_of (x.members_are ∙ ap members_in e ∙ sym y.members_are) ∙ list_of-trees_of (map at (node_members n)) in
    let kinds = x.kinds ∙ ap rank e ∙ sym y.kinds in
    let texts = x.texts_are ∙ ap texts_in e ∙ sym y.texts_are in
    let parameters = x.parameters_are ∙ ap parameters_in e ∙ sym y.parameters_are in
    let class = x.class_is ∙ ap names_in e ∙ sym y.class_is in
    let places = places_same at i j tells (node_members m) (node_members n) x.below y.below members in
    λ z. (kinds z, texts z, parameters z, class z, places z)

module _ (ns : List (Node NodeId)) (earlier : NameEarlier 0 ns) (unique : IsDistinct node_eq ns) (d : Node NodeId) where
  abbrev at : NodeId → Tree
  at = tree_at (trees_of_nodes ns)

  place_tells : (n : ℕ) → Tells at n n → (p q : NodeId) → p.0 ≤ n → q.0 ≤ n → p.0 < length ns → q.0 < length ns → at p ≡ at q → p.0 ≡ q.0
  place_tells n tells p q a b in_p in_q e =
      let m = get_or ns p.0 d in
      let k = get_or ns q.0 d in
      let view : node_view at m ≡ node_view at k = sym (trees_of_nodes-at ns p.0 tree.not_allowed d earlier in_p) ∙ e ∙ trees_of_nodes-at ns q.0 tree.not_allowed d earlier in_q in
      let same = parts_from_view at p.0 q.0 m k (names_below_at ns p.0 d earlier in_p) (names_below_at ns q.0 d earlier in_q) (λ x y f g h. tells x y (omega arith) (omega arith) h) view in
      let not_less : ¬ (p.0 < q.0) = λ l. false≢true (sym (apart_from_distinct node_eq ns p.0 q.0 d unique l in_q) ∙ (parts_decides (node_parts m) (node_parts k)).1 same) in
      let not_more : ¬ (q.0 < p.0) = λ l. false≢true (sym (apart_from_distinct node_eq ns q.0 p.0 d unique l in_p) ∙ (parts_decides (node_parts k) (node_parts m)).1 (sym same)) in
      omega (arith, not_less, not_more)

  tells_below : (n : ℕ) → n ≤ length ns → Tells at n n
  tells_below zero h p q a b e = absurd (omega arith)
  tells_below (suc n) h p q a b e = place_tells n (tells_below n (omega arith)) p q (omega arith) (omega arith) (omega arith) (omega arith) e

  pub places_tell : (p q : NodeId) → IsTrue (knows (trees_of_nodes ns) p) → IsTrue (knows (trees_of_nodes ns) q) → at p ≡ at q → p.0 ≡ q.0
  places_tell p q h k e =
      let a = knows_place (trees_of_nodes ns) p h in
      let b = knows_place (trees_of_nodes ns) q k in
      tells_below (length ns) (omega arith) p q (omega (arith, length-trees_of_nodes ns)) (omega (arith, length-trees_of_nodes ns)) e

pub ids_tell : (s : Interned) (i j : NodeId) → IsTrue (knows (trees_of_nodes s.nodes.keys) i) → IsTrue (knows (trees_of_nodes s.nodes.keys) j) → tree_at (trees_of_nodes s.nodes.keys) i ≡ tree_at (trees_of_nodes s.nodes.keys) j → i ≡ j
ids_tell s i j h k e = ap (λ n. record { 0 = n }) (places_tell s.nodes.keys s.earlier s.distinct Node.NotAllowed i j h k e)

-- a store that keeps its ids and adds none has as many as before
module _ (ts us : List Tree) (i : NodeId) (known : IsTrue (knows ts i)) where
  not_behind : (p : NodeId) → p.0 ≡ length ts → IsTrue (knows ts p) ⊎ (p ≡ i) → ⊥
  not_behind p h (inl k) = omega (arith, h, knows_place ts p k)
  not_behind p h (inr e) = let f : p.0 ≡ i.0 = ap (λ (q : NodeId). q.0) e in omega (arith, h, f, knows_place ts i known)

  pub size_stays : KeepsTrees (knows ts) (tree_at ts) (knows us) (tree_at us) → AddsOnly (knows ts) (knows us) i → length us ≡ length ts
  size_stays kept adds =
      let behind : NodeId = record { 0 = length ts } in
      let first : NodeId = record { 0 = length us } in
      let not_more : ¬ (length ts < length us) = λ l. not_behind behind refl (adds behind (place_known us behind l)) in
      let not_less : ¬ (length us < length ts) = λ l. let b = knows_place us first (kept first (place_known ts first l)).0 in omega (arith, b) in
      omega (arith, not_more, not_less)

pub patterns_share : (old new : Interned) (t : Tree) (i answered : NodeId) → let ts = trees_of_nodes old.nodes.keys in let us = trees_of_nodes new.nodes.keys in
    KeepsTrees (knows ts) (tree_at ts) (knows us) (tree_at us) → AddsOnly (knows ts) (knows us) answered → StandsFor (knows ts) (tree_at ts) t i → StandsFor (knows us) (tree_at us) t answered
    → (answered ≡ i) × (length us ≡ length ts)
patterns_share old new t i answered kept adds had has =
    let ts = trees_of_nodes old.nodes.keys in
    let us = trees_of_nodes new.nodes.keys in
    let stays = kept i had.0 in
    let e : answered ≡ i = ids_tell new answered i has.0 stays.0 (has.1 ∙ sym had.1 ∙ sym stays.1) in
    (e, size_stays ts us i had.0 kept (subst (AddsOnly (knows ts) (knows us)) e adds))
