-- A node that is looked for among the nodes of a store, and added where there is no equal one.
use Rattle.std.proofs.Common.{◌≡◌, ◌<◌, ◌≤◌, ◌+◌, ℕ, Bool, true, false, List, [], ◌∷◌, ◌++◌, length, map, get_or, Some, None, Result, Ok, Err, inl, inr, zero, suc, refl, sym, ap, ◌∙◌, subst, arith}
use Rattle.std.specs.Prelude.{◌⊎◌, IfOk, OnErr, slice_get, if◌then◌else◌}
use Rattle.std.specs.List.{list_any}
use Rattle.indexmap.specs.IndexSet.{insert_key}
use Rattle.rn_pattern.specs.Tree as tree
use Rattle.rn_pattern.specs.Tree.{NameTree, NameTrees, any_name, no_names, more_names, Tree, trees_of}
use Rattle.rn_pattern.specs.Store.{AddsOnly, KeepsTrees, StandsFor, node_view}
use Rattle.rn_pattern.specs.inside.Stored.{NamesBelow, NameEarlier, knows, node_rank, tree_at, trees_of_nodes}
use Rattle.rn_pattern.specs.inside.Hashing.{node_parts, parts_decides, node_eq}
use Rattle.rn_pattern.specs.declared.node.Node.{Node}
use Rattle.rn_pattern.specs.declared.node.NodeId.{NodeId}
use Rattle.rn_pattern.proofs.Stores.NodeTrees.{NameEarlier-push, length-trees_of_nodes, trees_of_nodes-push, trees_of_nodes-at, node_view_same, keeps_before, keeps_same, place_known, adds_at_end, adds_none}
use Rattle.std.proofs.lemmas.Bool.{false≢true}
use Rattle.std.proofs.lemmas.List.{get_or_append_left, length_push}
use Rattle.std.proofs.lemmas.List.Folds.{list_any_at}
use Rattle.std.proofs.lemmas.Option.{get_or_from_slice_get}

abbrev first_name : NameTrees → NameTree
first_name no_names = any_name
first_name (more_names c cs) = c

map_places : (at : NodeId → Tree) (is : List NodeId) → map (λ j. at (record { 0 = j })) (map (λ (i : NodeId). i.0) is) ≡ map at is
map_places at [] = refl
map_places at (i ∷ is) = ap (λ t. at i ∷ t) (map_places at is)

members_same : (at : NodeId → Tree) (is js : List NodeId) → map (λ (i : NodeId). i.0) is ≡ map (λ (i : NodeId). i.0) js → map at is ≡ map at js
members_same at is js e = sym (map_places at is) ∙ ap (map (λ j. at (record { 0 = j }))) e ∙ map_places at js

-- equal keys stand for the same tree
pub same_parts_view : (at : NodeId → Tree) (m n : Node NodeId) → node_parts m ≡ node_parts n → node_view at m ≡ node_view at n
same_parts_view at Node.NotAllowed Node.NotAllowed e = refl
same_parts_view at Node.Empty Node.Empty e = refl
same_parts_view at Node.Text Node.Text e = refl
same_parts_view at (Node.Ref x) (Node.Ref y) e = ap (λ k. tree.ref (get_or k.1 0 [])) e
same_parts_view at (Node.Value l x t) (Node.Value m y u) e = ap (λ k. tree.value (get_or k.1 0 []) (get_or k.1 1 []) (get_or k.1 2 [])) e
same_parts_view at (Node.Datum l x ps None) (Node.Datum m y qs None) e = ap (λ k. tree.datum (get_or k.1 0 []) (get_or k.1 1 []) k.2) e
same_parts_view at (Node.Datum l x ps None) (Node.Datum m y qs (Some j)) e = let f : 0 ≡ 1 = ap (λ k. length k.4) e in absurd (omega (arith, f))
same_parts_view at (Node.Datum l x ps (Some i)) (Node.Datum m y qs None) e = let f : 1 ≡ 0 = ap (λ k. length k.4) e in absurd (omega (arith, f))
same_parts_view at (Node.Datum l x ps (Some i)) (Node.Datum m y qs (Some j)) e = ap (λ k. tree.datum_but (get_or k.1 0 []) (get_or k.1 1 []) k.2 (at (record { 0 = get_or k.4 0 0 }))) e
same_parts_view at (Node.List i) (Node.List j) e = ap (λ k. tree.list (at (record { 0 = get_or k.4 0 0 }))) e
same_parts_view at (Node.Attribute c i) (Node.Attribute d j) e = ap (λ k. tree.attribute (first_name k.3) (at (record { 0 = get_or k.4 0 0 }))) e
same_parts_view at (Node.Element c i) (Node.Element d j) e = ap (λ k. tree.element (first_name k.3) (at (record { 0 = get_or k.4 0 0 }))) e
same_parts_view at (Node.OneOrMore i) (Node.OneOrMore j) e = ap (λ k. tree.one_or_more (at (record { 0 = get_or k.4 0 0 }))) e
same_parts_view at (Node.Group is) (Node.Group js) e = ap (λ ts. tree.group (trees_of ts)) (members_same at is.items js.items (ap (λ k. k.4) e))
same_parts_view at (Node.Interleave is) (Node.Interleave js) e = ap (λ ts. tree.interleave (trees_of ts)) (members_same at is.items js.items (ap (λ k. k.4) e))
same_parts_view at (Node.Choice is) (Node.Choice js) e = ap (λ ts. tree.choice (trees_of ts)) (members_same at is.items js.items (ap (λ k. k.4) e))
same_parts_view at m n e = let f : node_rank m ≡ node_rank n = ap (λ k. k.0) e in absurd (omega (arith, f))

abbrev pub Inserted : List (Node NodeId) → List (Node NodeId) → Node NodeId → Type 0
Inserted ns ms n = (ms ≡ ns) ⊎ (ms ≡ ns ++ n ∷ [])

inserted_by : (b : Bool) (ns ms : List (Node NodeId)) (n : Node NodeId) → ms ≡ (if b then ns else ns ++ n ∷ []) → Inserted ns ms n
inserted_by true ns ms n e = inl e
inserted_by false ns ms n e = inr e

pub inserted : {A E : Type 0} (r : Result A E) (ns ms : List (Node NodeId)) (n : Node NodeId) → IfOk r (λ _. ms ≡ insert_key node_eq ns n) → OnErr r (ms ≡ ns) → Inserted ns ms n
inserted (Ok a) ns ms n h g = inserted_by (list_any (node_eq n) ns) ns ms n h
inserted (Err e) ns ms n h g = inl g

pub inserted_earlier : (ns ms : List (Node NodeId)) (n : Node NodeId) → Inserted ns ms n → NameEarlier 0 ns → NamesBelow (length (trees_of_nodes ns)) n → NameEarlier 0 ms
inserted_earlier ns ms n (inl e) h below = subst (λ x. NameEarlier 0 x) (sym e) h
inserted_earlier ns ms n (inr e) h below =
    let len : length (trees_of_nodes ns) ≡ 0 + length ns = omega (arith, length-trees_of_nodes ns) in
    subst (λ x. NameEarlier 0 x) (sym e) (NameEarlier-push 0 ns n h (subst (λ x. NamesBelow x n) len below))

pub inserted_keeps : (ns ms : List (Node NodeId)) (n : Node NodeId) → Inserted ns ms n → KeepsTrees (knows (trees_of_nodes ns)) (tree_at (trees_of_nodes ns)) (knows (trees_of_nodes ms)) (tree_at (trees_of_nodes ms))
inserted_keeps ns ms n (inl e) = keeps_same (trees_of_nodes ns) (trees_of_nodes ms) (ap trees_of_nodes e)
inserted_keeps ns ms n (inr e) = keeps_before (trees_of_nodes ns) (trees_of_nodes ms) _ (ap trees_of_nodes e ∙ trees_of_nodes-push ns n)

pub inserted_grows : (ns ms : List (Node NodeId)) (n : Node NodeId) → Inserted ns ms n → length (trees_of_nodes ms) ≤ length (trees_of_nodes ns) + 1
inserted_grows ns ms n (inl e) = omega (arith, length-trees_of_nodes ns, length-trees_of_nodes ms, ap length e)
inserted_grows ns ms n (inr e) = omega (arith, length-trees_of_nodes ns, length-trees_of_nodes ms, ap length e, length_push ns n)

get_below : {X : Type 0} (xs : List X) (k : ℕ) (x : X) → slice_get xs k ≡ Some x → k < length xs
get_below [] k x h = cc
get_below (y ∷ xs) zero x h = omega arith
get_below (y ∷ xs) (suc k) x h = let there = get_below xs k x h in omega (arith, there)

get_is : {X : Type 0} (xs : List X) (k : ℕ) (x : X) → slice_get xs k ≡ Some x → (k < length xs) × (get_or xs k x ≡ x)
get_is xs k x h = (get_below xs k x h, get_or_from_slice_get xs k x x h)

pub inserted_stands : (ns ms : List (Node NodeId)) (n : Node NodeId) (i : NodeId) (k : Node NodeId) → Inserted ns ms n → NameEarlier 0 ns → NamesBelow (length (trees_of_nodes ns)) n → slice_get ms i.0 ≡ Some k → node_eq n k ≡ true
    → StandsFor (knows (trees_of_nodes ms)) (tree_at (trees_of_nodes ms)) (node_view (tree_at (trees_of_nodes ns)) n) i
inserted_stands ns ms n i k how earlier below at_place equal =
    let old = tree_at (trees_of_nodes ns) in
    let new = tree_at (trees_of_nodes ms) in
    let found = get_is ms i.0 k at_place in
    let is_there = trees_of_nodes-at ms i.0 tree.not_allowed k (inserted_earlier ns ms n how earlier below) found.0 in
    let same = same_parts_view new n k ((parts_decides (node_parts n) (node_parts k)).0 equal) in
    let kept = node_view_same old new (length (trees_of_nodes ns)) n (λ j l. sym (inserted_keeps ns ms n how j (place_known (trees_of_nodes ns) j l)).1) below in
    (place_known (trees_of_nodes ms) i (omega (arith, length-trees_of_nodes ms, found.0)), is_there ∙ ap (node_view new) found.1 ∙ sym same ∙ sym kept)

-- a node that is new stands behind the others
last_place : (ns ms : List (Node NodeId)) (n : Node NodeId) (r : NodeId) (k : Node NodeId) → list_any (node_eq n) ns ≡ false → ms ≡ ns ++ n ∷ [] → slice_get ms r.0 ≡ Some k → node_eq n k ≡ true → r.0 ≡ length ns
last_place ns ms n r k none e at_place equal =
    let found = get_is ms r.0 k at_place in
    let not_before : ¬ (r.0 < length ns) = λ l. false≢true (sym none ∙ list_any_at (node_eq n) ns r.0 k l (ap (node_eq n) (sym (get_or_append_left ns (n ∷ []) k r.0 l) ∙ ap (λ xs. get_or xs r.0 k) (sym e) ∙ found.1) ∙ equal)) in
    omega (arith, not_before, found.0, ap length e, length_push ns n)

adds_by : (b : Bool) (ns ms : List (Node NodeId)) (n : Node NodeId) (r : NodeId) (k : Node NodeId) → list_any (node_eq n) ns ≡ b → ms ≡ (if b then ns else ns ++ n ∷ []) → slice_get ms r.0 ≡ Some k → node_eq n k ≡ true
    → AddsOnly (knows (trees_of_nodes ns)) (knows (trees_of_nodes ms)) r
adds_by true ns ms n r k found e at_place equal = adds_none (trees_of_nodes ns) (trees_of_nodes ms) r (ap trees_of_nodes e)
adds_by false ns ms n r k none e at_place equal =
    adds_at_end (trees_of_nodes ns) (trees_of_nodes ms) _ r (last_place ns ms n r k none e at_place equal ∙ sym (length-trees_of_nodes ns)) (ap trees_of_nodes e ∙ trees_of_nodes-push ns n)

pub inserted_adds : (ns ms : List (Node NodeId)) (n : Node NodeId) (r : NodeId) (k : Node NodeId) → ms ≡ insert_key node_eq ns n → slice_get ms r.0 ≡ Some k → node_eq n k ≡ true
    → AddsOnly (knows (trees_of_nodes ns)) (knows (trees_of_nodes ms)) r
inserted_adds ns ms n r k e at_place equal = adds_by (list_any (node_eq n) ns) ns ms n r k refl e at_place equal
