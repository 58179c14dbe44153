-- The parts of a node are those of its tree.
use Rattle.std.proofs.Common.{◌≡◌, ◌<◌, ℕ, List, [], ◌∷◌, map, drop, All, Option, Some, None, refl, sym, ap, ◌∙◌, subst, Ordering, Equal, nat_cmp}
use Rattle.std.specs.Prelude.{String, string_cmp}
use Rattle.std.proofs.lemmas.List.Elements.{All-nil, All-cons}
use Rattle.std.specs.declared.alloc.Global.{Global}
use Rattle.rn_pattern.specs.declared.tree.NameClass.{NameClass}
use Rattle.rn_pattern.specs.View.{parameters_view}
use Rattle.std.specs.Ordering.{ordering_then}
use Rattle.std.specs.Cmp.Lexicographic.{slice_cmp}
use Rattle.rn_pattern.specs.Tree.{Tree, trees_of}
use Rattle.rn_pattern.specs.Order.{rank, parameters_cmp, names_cmp, tree_cmp, trees_cmp}
use Rattle.rn_text.specs.Texts.{text_cmp}
use Rattle.rn_pattern.specs.Store.{node_view}
use Rattle.rn_pattern.specs.Nodes.{node_members}
use Rattle.rn_pattern.specs.inside.Stored.{NamesBelow, node_rank, node_texts, node_parameters, node_class}
use Rattle.rn_pattern.specs.inside.Shown.{texts_in, parameters_in, names_in, members_in, class_view, ShowsTree}
use Rattle.rn_pattern.specs.declared.node.Node.{Node}
use Rattle.rn_pattern.specs.declared.node.NodeId.{NodeId}
use Rattle.rn_pattern.proofs.Ordered.ByHeads.{by_heads}
use Rattle.rn_pattern.proofs.Ordered.Orders.{then-Equal, then_first, then_second}
use Rattle.rn_pattern.proofs.Ordered.Stepwise.{then_settled, then_tied, trees_cmp-trees_of}

abbrev pub Shows : (NodeId → Tree) → ℕ → Node NodeId → Type 0
Shows at k n = ShowsTree at (node_view at n) k (node_rank n) (node_texts n) (node_parameters n) (node_class n) (node_members n)

one_below : (k : ℕ) (i : NodeId) → i.0 < k → All (λ (j : NodeId). j.0 < k) (i ∷ [])
one_below k i h = All-cons (λ (j : NodeId). j.0 < k) i [] h (All-nil (λ (j : NodeId). j.0 < k))

pub shows_node : (at : NodeId → Tree) (k : ℕ) (n : Node NodeId) → NamesBelow k n → Shows at k n
shows_node at k (Node.Datum l x ps (Some i)) h = record { kinds = refl; texts_are = refl; parameters_are = refl; class_is = refl; members_are = refl; below = one_below k i h }
shows_node at k (Node.Datum l x ps None) h = record { kinds = refl; texts_are = refl; parameters_are = refl; class_is = refl; members_are = refl; below = All-nil (λ (j : NodeId). j.0 < k) }
shows_node at k (Node.List i) h = record { kinds = refl; texts_are = refl; parameters_are = refl; class_is = refl; members_are = refl; below = one_below k i h }
shows_node at k (Node.Attribute c i) h = record { kinds = refl; texts_are = refl; parameters_are = refl; class_is = refl; members_are = refl; below = one_below k i h }
shows_node at k (Node.Element c i) h = record { kinds = refl; texts_are = refl; parameters_are = refl; class_is = refl; members_are = refl; below = one_below k i h }
shows_node at k (Node.OneOrMore i) h = record { kinds = refl; texts_are = refl; parameters_are = refl; class_is = refl; members_are = refl; below = one_below k i h }
shows_node at k (Node.Group is) h = record { kinds = refl; texts_are = refl; parameters_are = refl; class_is = refl; members_are = refl; below = h }
shows_node at k (Node.Interleave is) h = record { kinds = refl; texts_are = refl; parameters_are = refl; class_is = refl; members_are = refl; below = h }
shows_node at k (Node.Choice is) h = record { kinds = refl; texts_are = refl; parameters_are = refl; class_is = refl; members_are = refl; below = h }
shows_node at k n h = record { kinds = refl; texts_are = refl; parameters_are = refl; class_is = refl; members_are = refl; below = All-nil (λ (j : NodeId). j.0 < k) }

-- the order, part by part
-- the same facts of what was read out of a node, and of what stands past the end
pub shows_parts : (at : NodeId → Tree) (t : Tree) (place : ℕ) (n : Node NodeId) (kind : ℕ) (texts : List (List ℕ)) (parameters : List (String Global × String Global)) (class : Option NameClass) (members : List NodeId) → NamesBelow place n → node_view at n ≡ t
    → kind ≡ node_rank n → texts ≡ node_texts n → parameters ≡ node_parameters n → class ≡ node_class n → members ≡ node_members n → ShowsTree at t place kind texts parameters class members
shows_parts at t place n kind texts parameters class members h e a b c d f =
    let shown = shows_node at place n h in
    record {
      kinds = a ∙ shown.kinds ∙ ap rank e;
      texts_are = b ∙ shown.texts_are ∙ ap texts_in e;
      parameters_are = ap parameters_view c ∙ shown.parameters_are ∙ ap parameters_in e;
      class_is = ap class_view d ∙ shown.class_is ∙ ap names_in e;
      members_are = ap (λ is. trees_of (map at is)) f ∙ shown.members_are ∙ ap members_in e;
      below = subst (λ (is : List NodeId). All (λ (j : NodeId). j.0 < place) is) (sym f) shown.below;
    }

module _ (at : NodeId → Tree) (p q : Tree) (i j k l : ℕ) (xs ys : List (List ℕ)) (ps qs : List (String Global × String Global)) (c d : Option NameClass) (ms ns : List NodeId) (x : ShowsTree at p i k xs ps c ms) (y : ShowsTree at q j l ys qs d ns) where
  abbrev pub heads : Ordering
  heads = ordering_then (nat_cmp k l) (ordering_then (names_cmp (class_view c) (class_view d)) (ordering_then (slice_cmp text_cmp xs ys) (parameters_cmp (parameters_view ps) (parameters_view qs))))

  abbrev pub members : Ordering
  members = slice_cmp tree_cmp (map at ms) (map at ns)

  -- the order is that of the heads, and then that of the members
  pub tree_cmp-by_heads : tree_cmp p q ≡ ordering_then heads members
  tree_cmp-by_heads =
      by_heads p q k l xs ys (parameters_view ps) (parameters_view qs) (class_view c) (class_view d) x.kinds y.kinds x.texts_are y.texts_are x.parameters_are y.parameters_are x.class_is y.class_is
      ∙ ap (λ t. ordering_then heads t) ((λ z. trees_cmp ((sym x.members_are) z) ((sym y.members_are) z)) ∙ trees_cmp-trees_of (map at ms) (map at ns))

  pub tree_cmp-settled : (r : Ordering) → r ≡ heads → ¬ (r ≡ Equal) → r ≡ tree_cmp p q
  tree_cmp-settled r e h = e ∙ sym (tree_cmp-by_heads ∙ then_settled heads members (λ f. h (e ∙ f)))

  pub tree_cmp-by_members : (r : Ordering) → r ≡ heads → r ≡ Equal → (n : ℕ) → members ≡ slice_cmp tree_cmp (map at (drop n ms)) (map at (drop n ns)) → tree_cmp p q ≡ slice_cmp tree_cmp (map at (drop n ms)) (map at (drop n ns))
  tree_cmp-by_members r e h n inv = tree_cmp-by_heads ∙ then_tied heads members (sym e ∙ h) ∙ inv

pub parameters_cmp-view : (xs ys : List (String Global × String Global)) → slice_cmp (λ (x y : String Global × String Global). ordering_then (string_cmp x.0 y.0) (string_cmp x.1 y.1)) xs ys ≡ parameters_cmp (parameters_view xs) (parameters_view ys)
parameters_cmp-view [] [] = refl
parameters_cmp-view [] (y ∷ ys) = refl
parameters_cmp-view (x ∷ xs) [] = refl
parameters_cmp-view (x ∷ xs) (y ∷ ys) = ap (ordering_then (ordering_then (string_cmp x.0 y.0) (string_cmp x.1 y.1))) (parameters_cmp-view xs ys)

-- where the kinds, the name classes and the first texts are equal
pub heads_by : (k c f s t p a b r : Ordering) → a ≡ ordering_then k c → a ≡ Equal → f ≡ Equal → b ≡ ordering_then s t → r ≡ ordering_then b p → r ≡ ordering_then k (ordering_then c (ordering_then (ordering_then f (ordering_then s (ordering_then t Equal))) p))
heads_by k c f s t p a b r ea h first eb er =
    let kinds : k ≡ Equal = then_first k c (sym ea ∙ h) in
    let names : c ≡ Equal = then_second k c (sym ea ∙ h) in
    er ∙ ap (λ o. ordering_then o p) (eb ∙ ap (λ o. ordering_then s o) (sym (then-Equal t)))
    ∙ sym (λ i. ordering_then (kinds i) (ordering_then (names i) (ordering_then (ordering_then (first i) (ordering_then s (ordering_then t Equal))) p)))
