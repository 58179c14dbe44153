-- One more part among ids: the ids of the members of the parts so far, and of the next.
use Rattle.std.proofs.Common.{◌≡◌, ◌+◌, ◌<◌, ℕ, List, [], ◌∷◌, ◌++◌, length, map, take, get_or, flat_map, All, IsTrue, refl, sym, ap, subst, ◌∙◌, arith, Option, Some, None, Bor}
use Rattle.std.proofs.lemmas.List.{take_more, append-nil, map-append}
use Rattle.std.proofs.lemmas.List.Concat.{flat_map-append}
use Rattle.std.proofs.lemmas.List.Elements.{All-append, All-same, All-weaker, All-nil, All-cons, All-get_or}
use Rattle.std.specs.Prelude.{IfSome, MatchOption}
use Rattle.rn_pattern.specs.Tree.{Tree}
use Rattle.rn_pattern.specs.inside.Lists.{members_by}
use Rattle.rn_pattern.specs.inside.Stored.{knows, tree_at}
use Rattle.rn_pattern.specs.Store.{node_view}
use Rattle.rn_pattern.specs.declared.connector.Connector.{Connector}
use Rattle.rn_pattern.specs.declared.node.Node.{Node}
use Rattle.rn_pattern.specs.declared.node.NodeId.{NodeId}
use Rattle.rn_pattern.proofs.Stores.NodeTrees.{knows_place, place_known}

pub flat_map-more : {X Z : Type 0} (f : X → List Z) (xs : List X) (i : ℕ) (d : X) → i < length xs → (zs : List Z) → zs ≡ flat_map f (take i xs) → (added : List Z) → added ≡ f (get_or xs i d) → zs ++ added ≡ flat_map f (take (i + 1) xs)
flat_map-more f xs i d inside zs e added g =
    (λ j. e j ++ g j)
    ∙ ap (λ t. flat_map f (take i xs) ++ t) (sym (append-nil (f (get_or xs i d))))
    ∙ sym (ap (flat_map f) (take_more xs i d inside) ∙ flat_map-append f (take i xs) (get_or xs i d ∷ []))

pub flat_map-through : {X Y Z : Type 0} (f : X → List Z) (at : Y → X) (ys : List Y) → flat_map (λ y. f (at y)) ys ≡ flat_map f (map at ys)
flat_map-through f at [] = refl
flat_map-through f at (y ∷ ys) = ap (λ t. f (at y) ++ t) (flat_map-through f at ys)

-- earlier ids than a known one are known
pub earlier_known : (ts : List Tree) (i : NodeId) (is : List NodeId) → IsTrue (knows ts i) → All (λ (j : NodeId). j.0 < i.0) is → All (λ (j : NodeId). IsTrue (knows ts j)) is
earlier_known ts i is h below = All-weaker (λ (j : NodeId). j.0 < i.0) (λ (j : NodeId). IsTrue (knows ts j)) (λ j l. let place = knows_place ts i h in place_known ts j (omega arith)) is below

pub known_below : (ts : List Tree) (is : List NodeId) → All (λ (j : NodeId). IsTrue (knows ts j)) is → All (λ (j : NodeId). j.0 < length ts) is
known_below ts is h = All-weaker (λ (j : NodeId). IsTrue (knows ts j)) (λ (j : NodeId). j.0 < length ts) (λ j k. knows_place ts j k) is h

module _ (ts : List Tree) (c : Connector) (parts : List NodeId) (i : ℕ) (d : NodeId) (inside : i < length parts) (known : All (λ j. IsTrue (knows ts j)) parts)
    (n : Node NodeId) (tree : node_view (tree_at ts) n ≡ tree_at ts (get_or parts i d)) (r : Option (Bor (List NodeId)))
    (opens : MatchOption r (members_by c (node_view (tree_at ts) n) ≡ node_view (tree_at ts) n ∷ []) (λ s. members_by c (node_view (tree_at ts) n) ≡ map (tree_at ts) s.now))
    (below : IfSome r (λ s. All (λ (j : NodeId). j.0 < (get_or parts i d).0) s.now)) (xs ys : List NodeId)
    (members : map (tree_at ts) xs ≡ flat_map (λ j. members_by c (tree_at ts j)) (take i parts)) (all : All (λ j. IsTrue (knows ts j)) xs) where
  abbrev at : NodeId → Tree
  at = tree_at ts

  abbrev Known : NodeId → Type 0
  Known j = IsTrue (knows ts j)

  abbrev Gathered : Type 0
  Gathered = (map at ys ≡ flat_map (λ j. members_by c (at j)) (take (i + 1) parts)) × All Known ys

  gathered_by : (added : List NodeId) → ys ≡ xs ++ added → map at added ≡ members_by c (at (get_or parts i d)) → All Known added → Gathered
  gathered_by added e g k = (
    ap (map at) e ∙ map-append at xs added ∙ flat_map-more (λ j. members_by c (at j)) parts i d inside (map at xs) members (map at added) g,
    All-same Known ys (xs ++ added) e (All-append Known xs added all k),
  )

  pub gathered_list : (s : Bor (List NodeId)) → r ≡ Some s → ys ≡ xs ++ s.now → Gathered
  gathered_list s is e =
      let same : members_by c (node_view at n) ≡ map at s.now = subst (λ (o : Option (Bor (List NodeId))). MatchOption o (members_by c (node_view at n) ≡ node_view at n ∷ []) (λ t. members_by c (node_view at n) ≡ map at t.now)) is opens in
      let earlier : All (λ (j : NodeId). j.0 < (get_or parts i d).0) s.now = subst (λ (o : Option (Bor (List NodeId))). IfSome o (λ t. All (λ (j : NodeId). j.0 < (get_or parts i d).0) t.now)) is below in
      gathered_by s.now e (sym same ∙ ap (members_by c) tree) (earlier_known ts (get_or parts i d) s.now (All-get_or Known parts i d inside known) earlier)

  pub gathered_itself : r ≡ None → ys ≡ xs ++ get_or parts i d ∷ [] → Gathered
  gathered_itself is e =
      let same : members_by c (node_view at n) ≡ node_view at n ∷ [] = subst (λ (o : Option (Bor (List NodeId))). MatchOption o (members_by c (node_view at n) ≡ node_view at n ∷ []) (λ t. members_by c (node_view at n) ≡ map at t.now)) is opens in
      gathered_by (get_or parts i d ∷ []) e (ap (λ t. t ∷ []) (sym tree) ∙ sym same ∙ ap (members_by c) tree) (All-cons Known (get_or parts i d) [] (All-get_or Known parts i d inside known) (All-nil Known))
