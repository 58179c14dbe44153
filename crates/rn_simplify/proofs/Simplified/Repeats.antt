-- Members that stand in a list before: what is asked of the members stays without them.
use Rattle.std.proofs.Common.{◌≡◌, ⊎_elim, List, [], ◌∷◌, ◌++◌, ◌+◌, ◌<◌, ◌≤◌, ℕ, Some, length, map, take, get_or, flat_map, refl, sym, ap, ◌∙◌, subst, arith, Ordering, Less, Equal, Greater}
use Rattle.std.specs.Prelude.{Contains, Vec, slice_get}
use Rattle.std.specs.Ordering.{ordering_reverse}
use Rattle.std.specs.Cmp.{IsTotalOrder}
use Rattle.std.specs.declared.alloc.Global.{Global}
use Rattle.std.specs.declared.rc.Rc.{Rc}
use Rattle.std.proofs.lemmas.List.{take_more, map-append, length-map, length-take-le, get_or-map, get_or-take, get_or_default}
use Rattle.std.proofs.lemmas.List.Elements.{Contains-append_left, Contains-append_right, Contains-append_cases, Contains-push, Contains-push_cases}
use Rattle.std.proofs.lemmas.Option.{slice_get-get_or}
use Rattle.rn_pattern.specs.Tree.{Tree, Trees, not_allowed, interleave, choice, no_trees, more_trees, list_of, trees_of}
use Rattle.rn_text.specs.Texts.{Text}
use Rattle.rn_pattern.specs.Order.{tree_cmp}
use Rattle.rn_pattern.specs.Canonical.{sorted_once, node_of, alternatives, choice_step, canonical, canonical_all, HaveSameMembers}
use Rattle.rn_pattern.specs.View.{pattern_view, shared_view, shared_trees}
use Rattle.rn_pattern.specs.declared.tree.Pattern.{Pattern}
use Rattle.rn_pattern.specs.declared.tree.Pattern.TheVariants as variant
use Rattle.rn_pattern.proofs.Matches.StepsKeep.{list_of-trees_of}
use Rattle.rn_pattern.proofs.Ordered.Ascending.{climbs_sorted_once}
use Rattle.rn_pattern.proofs.Ordered.InOrder.{contains_behind, contains_front, contains_cases, one_list}
use Rattle.rn_pattern.proofs.Ordered.Orders.{tree_same}
use Rattle.rn_pattern.proofs.Ordered.PatternKinds.{choice_seen, interleave_seen}
use Rattle.rn_pattern.proofs.Ordered.SortedMembers.{sorted_once_members}
use Rattle.rn_pattern.proofs.Ordered.TotalOrder.{tree_cmp_total}
use Rattle.rn_assemble.specs.Firsts.{joined_members}
use Rattle.rn_simplify.specs.inside.Repeats.{AreSameButRepeats, choices, interleaves}
use Rattle.rn_simplify.specs.inside.FormKinds.{both, either, tree_kind, group_kind, choice_kind}
use Rattle.rn_simplify.specs.declared.form_kind.FormKind.{FormKind}
use Rattle.rn_simplify.proofs.Simplified.FormKinds.{around_twice, both_assoc, either_assoc, either_twice}
use Rattle.rn_simplify.proofs.Simplified.ReferredIn.{contains_none}

-- ---- lists that hold the same

module _ {X : Type 0} where
  within_more : (xs ys : List X) (x : X) → ((y : X) → Contains xs y → Contains ys y) → (y : X) → Contains (xs ++ x ∷ []) y → Contains (ys ++ x ∷ []) y
  within_more xs ys x f y c =
      ⊎_elim (λ d. Contains-append_left ys (x ∷ []) y (f y d)) (λ e. subst (λ z. Contains (ys ++ x ∷ []) z) e (Contains-push ys x)) (Contains-push_cases xs x y c)

  -- one more, which stands in both
  pub same_more : (xs ys : List X) (x : X) → HaveSameMembers xs ys → HaveSameMembers (xs ++ x ∷ []) (ys ++ x ∷ [])
  same_more xs ys x h y = (within_more xs ys x (λ z. (h z).0) y, within_more ys xs x (λ z. (h z).1) y)

  -- one more, which stands before
  pub same_again : (xs ys : List X) (x : X) → HaveSameMembers xs ys → Contains ys x → HaveSameMembers xs (ys ++ x ∷ [])
  same_again xs ys x h d y =
      (λ c. Contains-append_left ys (x ∷ []) y ((h y).0 c), λ c. (h y).1 (⊎_elim (λ a. a) (λ e. subst (λ z. Contains ys z) e d) (Contains-push_cases ys x y c)))

module _ {X Y : Type 0} (f : X → List Y) where
  into_flat : (xs : List X) (x : X) (y : Y) → Contains xs x → Contains (f x) y → Contains (flat_map f xs) y
  into_flat [] x y c d = absurd (contains_none x c)
  into_flat (z ∷ xs) x y c d = ⊎_elim
      (λ e. Contains-append_left (f z) (flat_map f xs) y (subst (λ w. Contains (f w) y) (sym e) d))
      (λ b. Contains-append_right (f z) (flat_map f xs) y (into_flat xs x y b d)) (contains_cases z x xs c)

  from_flat : (xs : List X) (y : Y) → Contains (flat_map f xs) y → (x : X) × Contains xs x × Contains (f x) y
  from_flat [] y c = absurd (contains_none y c)
  from_flat (z ∷ xs) y c = ⊎_elim (λ d. (z, contains_front z xs, d)) (λ d. let w = from_flat xs y d in (w.0, contains_behind z w.0 xs w.1, w.2))
      (Contains-append_cases (f z) (flat_map f xs) y c)

  flat_within : (xs ys : List X) → ((x : X) → Contains xs x → Contains ys x) → (y : Y) → Contains (flat_map f xs) y → Contains (flat_map f ys) y
  flat_within xs ys g y c = let w = from_flat xs y c in into_flat ys w.0 y (g w.0 w.1) w.2

  pub flat_same : (xs ys : List X) → HaveSameMembers xs ys → HaveSameMembers (flat_map f xs) (flat_map f ys)
  flat_same xs ys h y = (flat_within xs ys (λ x. (h x).0) y, flat_within ys xs (λ x. (h x).1) y)

-- ---- the members without those that stand before

module _ (members : List (Rc Pattern Global)) (n : ℕ) (r : Rc Pattern Global) (h : n < length members) (is : r ≡ get_or members n r) where
  pub seen_taken : map shared_view (take (n + 1) members) ≡ map shared_view (take n members) ++ shared_view r ∷ []
  seen_taken = ap (map shared_view) (take_more members n r h ∙ ap (λ x. take n members ++ x ∷ []) (sym is)) ∙ map-append shared_view (take n members) (r ∷ [])

-- a member before is seen in the front
front_seen : (ms : List (Rc Pattern Global)) (n j : ℕ) (p : Tree) → n ≤ length ms → j < n → get_or (map shared_view (take n ms)) j p ≡ get_or (map shared_view ms) j p
front_seen [] n j p l h = absurd (omega (arith, l, h))
front_seen (m ∷ ms) n j p l h =
    get_or-map shared_view (take n (m ∷ ms)) j m p (omega (arith, h, length-take-le n (m ∷ ms) l)) ∙ ap shared_view (get_or-take n (m ∷ ms) j m h)
    ∙ sym (get_or-map shared_view (m ∷ ms) j m p (omega (arith, h, l)))

front_size : (ms : List (Rc Pattern Global)) (n : ℕ) → n ≤ length ms → length (map shared_view (take n ms)) ≡ n
front_size ms n l = length-map (take n ms) shared_view ∙ length-take-le n ms l

-- the member j is the first that is the same as the member n
abbrev IsFirstOf : List Tree → ℕ → ℕ → Type 0
IsFirstOf ms n j = (q : Tree) → slice_get ms n ≡ Some q → (j ≤ n) × (get_or ms j q ≡ q)

-- the member n, which is none of those before, is kept; else it is left out
pub kept_more : (members : List (Rc Pattern Global)) (n : ℕ) (r v : Rc Pattern Global) (old new : List (Rc Pattern Global)) → n < length members → r ≡ get_or members n r → new ≡ old ++ v ∷ [] → shared_view v ≡ shared_view r
    → HaveSameMembers (map shared_view old) (map shared_view (take n members)) → HaveSameMembers (map shared_view new) (map shared_view (take (n + 1) members))
kept_more members n r v old new within is e same h =
    let before = map shared_view (take n members) in
    subst (λ ts. HaveSameMembers (map shared_view new) ts) (sym (seen_taken members n r within is))
    (subst (λ ts. HaveSameMembers ts (before ++ shared_view r ∷ [])) (sym (ap (map shared_view) e ∙ map-append shared_view old (v ∷ []) ∙ ap (λ t. map shared_view old ++ t ∷ []) same))
    (same_more (map shared_view old) before (shared_view r) h))

pub left_out : (members : List (Rc Pattern Global)) (n j : ℕ) (old new : List (Rc Pattern Global)) → n < length members → new ≡ old → j < n → IsFirstOf (map shared_view members) n j
    → HaveSameMembers (map shared_view old) (map shared_view (take n members)) → HaveSameMembers (map shared_view new) (map shared_view (take (n + 1) members))
left_out [] n j old new within e less first h = absurd (omega (arith, within))
left_out (m ∷ ms) n j old new within e less first h =
    let members = m ∷ ms in
    let r = get_or members n m in
    let p = shared_view r in
    let before = map shared_view (take n members) in
    let there : slice_get (map shared_view members) n ≡ Some p =
    slice_get-get_or (map shared_view members) n p (omega (arith, within, length-map members shared_view)) ∙ ap (λ t. Some t) (get_or-map shared_view members n m p within) in
    let in_front : Contains before p = (j, omega (arith, less, front_size members n (omega (arith, within))), front_seen members n j p (omega (arith, within)) less ∙ (first p there).1) in
    subst (λ ts. HaveSameMembers (map shared_view new) ts) (sym (seen_taken members n r within (sym (get_or_default members n r m within))))
    (subst (λ xs. HaveSameMembers (map shared_view xs) (before ++ p ∷ [])) (sym e) (same_again (map shared_view old) before p h in_front))

-- a list to which components are joined
holds_listed : (ps qs : List Tree) → HaveSameMembers ps qs → HaveSameMembers (list_of (trees_of ps)) (list_of (trees_of qs))
holds_listed ps qs h = subst (λ l. HaveSameMembers l (list_of (trees_of qs))) (sym (list_of-trees_of ps)) (subst (λ l. HaveSameMembers ps l) (sym (list_of-trees_of qs)) h)

module _ (p : Pattern) (v : Vec (Rc Pattern Global) Global) (xs : List (Rc Pattern Global)) (h : xs ≡ v.items) where
  pub choice_members : p ≡ variant.Choice v → joined_members (pattern_view p) ≡ map shared_view xs
  choice_members is = ap (λ q. joined_members (pattern_view q)) is ∙ ap joined_members (choice_seen v) ∙ list_of-trees_of (map shared_view v.items) ∙ ap (map shared_view) (sym h)

  pub interleave_members : p ≡ variant.Interleave v → joined_members (pattern_view p) ≡ map shared_view xs
  interleave_members is = ap (λ q. joined_members (pattern_view q)) is ∙ ap joined_members (interleave_seen v) ∙ list_of-trees_of (map shared_view v.items) ∙ ap (map shared_view) (sym h)

  pub choices_are : (q : Pattern) (w : Vec (Rc Pattern Global) Global) → q ≡ variant.Choice w → p ≡ variant.Choice v → HaveSameMembers (map shared_view w.items) (map shared_view xs) → AreSameButRepeats (pattern_view q) (pattern_view p)
  choices_are q w f e s =
      subst (λ t. AreSameButRepeats t (pattern_view p)) (sym (ap pattern_view f ∙ choice_seen w))
      (subst (λ t. AreSameButRepeats (choice (shared_trees w.items)) t) (sym (ap pattern_view e ∙ choice_seen v))
      (choices (holds_listed (map shared_view w.items) (map shared_view v.items) (subst (λ ys. HaveSameMembers (map shared_view w.items) (map shared_view ys)) h s))))

  pub interleaves_are : (q : Pattern) (w : Vec (Rc Pattern Global) Global) → q ≡ variant.Interleave w → p ≡ variant.Interleave v → HaveSameMembers (map shared_view w.items) (map shared_view xs) → AreSameButRepeats (pattern_view q) (pattern_view p)
  interleaves_are q w f e s =
      subst (λ t. AreSameButRepeats t (pattern_view p)) (sym (ap pattern_view f ∙ interleave_seen w))
      (subst (λ t. AreSameButRepeats (interleave (shared_trees w.items)) t) (sym (ap pattern_view e ∙ interleave_seen v))
      (interleaves (holds_listed (map shared_view w.items) (map shared_view v.items) (subst (λ ys. HaveSameMembers (map shared_view w.items) (map shared_view ys)) h s))))

-- ---- the kind of the form of a list

both_swapped : (a b : FormKind) → both a b ≡ both b a
both_swapped FormKind.NotAllowed FormKind.NotAllowed = refl
both_swapped FormKind.NotAllowed FormKind.Empty = refl
both_swapped FormKind.NotAllowed FormKind.Other = refl
both_swapped FormKind.Empty FormKind.NotAllowed = refl
both_swapped FormKind.Empty FormKind.Empty = refl
both_swapped FormKind.Empty FormKind.Other = refl
both_swapped FormKind.Other FormKind.NotAllowed = refl
both_swapped FormKind.Other FormKind.Empty = refl
both_swapped FormKind.Other FormKind.Other = refl

either_swapped : (a b : FormKind) → either a b ≡ either b a
either_swapped FormKind.NotAllowed FormKind.NotAllowed = refl
either_swapped FormKind.NotAllowed FormKind.Empty = refl
either_swapped FormKind.NotAllowed FormKind.Other = refl
either_swapped FormKind.Empty FormKind.NotAllowed = refl
either_swapped FormKind.Empty FormKind.Empty = refl
either_swapped FormKind.Empty FormKind.Other = refl
either_swapped FormKind.Other FormKind.NotAllowed = refl
either_swapped FormKind.Other FormKind.Empty = refl
either_swapped FormKind.Other FormKind.Other = refl

both_twice : (a b : FormKind) → both a (both a b) ≡ both a b
both_twice FormKind.NotAllowed b = refl
both_twice FormKind.Empty b = refl
both_twice FormKind.Other b = around_twice b

-- a list by an operation for which order and repeats don't count
module _ (op : FormKind → FormKind → FormKind) (assoc : (a b c : FormKind) → op a (op b c) ≡ op (op a b) c) (swapped : (a b : FormKind) → op a b ≡ op b a) (twice : (a b : FormKind) → op a (op a b) ≡ op a b) (f : Tree → FormKind)
    (none : FormKind) (none_is : (w : FormKind) → op none w ≡ w) where
  abbrev folded : List Tree → FormKind
  folded [] = none
  folded (p ∷ ps) = op (f p) (folded ps)

  op_within : (ps : List Tree) (p : Tree) → Contains ps p → op (f p) (folded ps) ≡ folded ps
  op_within [] p c = absurd (contains_none p c)
  op_within (q ∷ ps) p c = ⊎_elim
      (λ e. ap (λ r. op (f r) (op (f q) (folded ps))) (sym e) ∙ twice (f q) (folded ps))
      (λ d. assoc (f p) (f q) (folded ps) ∙ ap (λ w. op w (folded ps)) (swapped (f p) (f q)) ∙ sym (assoc (f q) (f p) (folded ps)) ∙ ap (op (f q)) (op_within ps p d))
      (contains_cases q p ps c)

  op_all : (ps qs : List Tree) → ((p : Tree) → Contains ps p → Contains qs p) → op (folded ps) (folded qs) ≡ folded qs
  op_all [] qs g = none_is (folded qs)
  op_all (p ∷ ps) qs g =
      sym (assoc (f p) (folded ps) (folded qs)) ∙ ap (op (f p)) (op_all ps qs (λ r c. g r (contains_behind p r ps c))) ∙ op_within qs p (g p (contains_front p ps))

  folded_same : (ps qs : List Tree) → HaveSameMembers ps qs → folded ps ≡ folded qs
  folded_same ps qs h = sym (op_all qs ps (λ p. (h p).1)) ∙ swapped (folded qs) (folded ps) ∙ op_all ps qs (λ p. (h p).0)

module _ (named : Text → FormKind) where
  all_folded : (ps : Trees) → group_kind named ps ≡ folded both both_assoc both_swapped both_twice (tree_kind named) FormKind.Empty (λ w. refl) (list_of ps)
  all_folded no_trees = refl
  all_folded (more_trees p ps) = ap (both (tree_kind named p)) (all_folded ps)

  any_folded : (ps : Trees) → choice_kind named ps ≡ folded either either_assoc either_swapped either_twice (tree_kind named) FormKind.NotAllowed (λ w. refl) (list_of ps)
  any_folded no_trees = refl
  any_folded (more_trees p ps) = ap (either (tree_kind named p)) (any_folded ps)

  pub evaluated_same : (p q : Tree) → AreSameButRepeats p q → tree_kind named p ≡ tree_kind named q
  evaluated_same p q (choices {ps = ps} {qs = qs} h) =
      any_folded ps ∙ folded_same either either_assoc either_swapped either_twice (tree_kind named) FormKind.NotAllowed (λ w. refl) (list_of ps) (list_of qs) h ∙ sym (any_folded qs)
  evaluated_same p q (interleaves {ps = ps} {qs = qs} h) =
      all_folded ps ∙ folded_same both both_assoc both_swapped both_twice (tree_kind named) FormKind.Empty (λ w. refl) (list_of ps) (list_of qs) h ∙ sym (all_folded qs)

-- ---- canonical forms

pub all_canonical : (s : Text → Tree) (ps : List Tree) → canonical_all s (trees_of ps) ≡ map (canonical s) ps
all_canonical s [] = refl
all_canonical s (p ∷ ps) = ap (λ xs. canonical s p ∷ xs) (all_canonical s ps)

-- in order, and each once, lists that hold the same are one list
module _ {X : Type 0} (R : X → X → Ordering) (total : IsTotalOrder R) (one : (x y : X) → R x y ≡ Equal → x ≡ y) where
  no_less : (x y : X) → R x y ≡ Less → ¬ (R y x ≡ Less)
  no_less x y h k = let e : Less ≡ Greater = sym h ∙ total.antisymm x y ∙ ap ordering_reverse k in cc

  pub sorted_once_same : (xs ys : List X) → HaveSameMembers xs ys → sorted_once R xs ≡ sorted_once R ys
  sorted_once_same xs ys h = one_list R no_less (sorted_once R xs) (sorted_once R ys)
      (climbs_sorted_once R total one xs) (climbs_sorted_once R total one ys)
      (λ x c. (sorted_once_members R one ys x).1 ((h x).0 ((sorted_once_members R one xs x).0 c)))
      (λ x c. (sorted_once_members R one xs x).1 ((h x).1 ((sorted_once_members R one ys x).0 c)))

parts_flat : (s : Text → Tree) (ps : List Tree) → flat_map alternatives (canonical_all s (trees_of ps)) ≡ flat_map (λ p. alternatives (canonical s p)) ps
parts_flat s [] = refl
parts_flat s (p ∷ ps) = ap (λ xs. alternatives (canonical s p) ++ xs) (parts_flat s ps)

-- of a choice the members that stand before fall away
pub choice_same : (s : Text → Tree) (ps qs : List Tree) → HaveSameMembers ps qs → choice_step (canonical_all s (trees_of ps)) ≡ choice_step (canonical_all s (trees_of qs))
choice_same s ps qs h =
    let f : Tree → List Tree = λ p. alternatives (canonical s p) in
    ap (node_of not_allowed choice)
    (ap (sorted_once tree_cmp) (parts_flat s ps) ∙ sorted_once_same tree_cmp tree_cmp_total tree_same (flat_map f ps) (flat_map f qs) (flat_same f ps qs h) ∙ sym (ap (sorted_once tree_cmp) (parts_flat s qs)))

-- ---- ids of members, by those before

module _ {I : Type 0} (at : I → Tree) (f : Tree → Tree) (ids : List I) (members : List (Rc Pattern Global)) (n : ℕ) (within : n < length members) (made : map at ids ≡ map f (map shared_view (take n members))) where
  -- there is an id for each member before
  pub ids_size : length ids ≡ n
  ids_size = sym (length-map ids at) ∙ ap length made ∙ length-map (map shared_view (take n members)) f ∙ front_size members n (omega (arith, within))

  -- the id of a member before stands for the form of each that is the same
  pub first_stands : (j : ℕ) (i : I) (p : Tree) → j < n → i ≡ get_or ids j i → IsFirstOf (map shared_view members) n j → at i ≡ f (get_or (map shared_view members) n p)
  first_stands j i p less is first =
      let q = get_or (map shared_view members) n p in
      let l : n ≤ length members = omega (arith, within) in
      ap at is ∙ sym (get_or-map at ids j i (at i) (omega (arith, less, ids_size))) ∙ ap (λ ts. get_or ts j (at i)) made
      ∙ get_or-map f (map shared_view (take n members)) j q (at i) (omega (arith, less, front_size members n l))
      ∙ ap f (front_seen members n j q l less ∙ (first q (slice_get-get_or (map shared_view members) n p (omega (arith, within, length-map members shared_view)))).1)

-- one id more
pub formed_more : {I : Type 0} (at : I → Tree) (f : Tree → Tree) (ids : List I) (id : I) (members : List (Rc Pattern Global)) (n : ℕ) → n < length members
    → map at ids ≡ map f (map shared_view (take n members)) → ((p : Tree) → at id ≡ f (get_or (map shared_view members) n p)) → map at (ids ++ id ∷ []) ≡ map f (map shared_view (take (n + 1) members))
formed_more at f ids id [] n within made here = absurd (omega (arith, within))
formed_more at f ids id (m ∷ ms) n within made here =
    let members = m ∷ ms in
    let r = get_or members n m in
    let last : at id ≡ f (shared_view r) = here (shared_view m) ∙ ap f (get_or-map shared_view members n m (shared_view m) within) in
    map-append at ids (id ∷ []) ∙ (λ i. made i ++ last i ∷ [])
    ∙ sym (ap (map f) (seen_taken members n r within (sym (get_or_default members n r m within))) ∙ map-append f (map shared_view (take n members)) (shared_view r ∷ []))
