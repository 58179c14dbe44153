-- Each canonical step keeps what its node matches.
use Rattle.std.proofs.Common.{◌≡◌, ◌<◌, ◌≤◌, ◌⊎◌, ◌↔◌, inl, inr, ⊎_elim, ℕ, zero, suc, ◌+◌, Bool, true, false, ◌||◌, cond, List, [], ◌∷◌, ◌++◌, replicate, refl, sym, ap, ◌∙◌, subst, arith, Ordering, Less, Equal, Greater}
use Rattle.std.specs.Prelude.{flat_map}
use Rattle.std.specs.Ordering.{match_ordering}
use Rattle.std.proofs.lemmas.Bool.{false≢true}
use Rattle.std.proofs.lemmas.List.{replicate-append-replicate}
use Rattle.rn_pattern.specs.Tree.{Parameters, NameTree, Tree, Trees, not_allowed, empty, datum_but, list, attribute, one_or_more, group, interleave, choice, no_trees, more_trees, list_of, trees_of}
use Rattle.rn_text.specs.Texts.{Text}
use Rattle.rn_pattern.specs.Document.{Attribute, Item, string}
use Rattle.rn_pattern.specs.Datatype.{Table}
use Rattle.rn_pattern.specs.Order.{tree_cmp}
use Rattle.rn_pattern.specs.Matching.{Matches, SomeMatches, Weakly, Meaning}
use Rattle.rn_pattern.specs.Canonical.{put_once, sorted, sorted_once, node_of, is_not_allowed, has_not_allowed, alternatives, grouped, interleaved, choice_step, group_step, interleave_step, one_or_more_step, list_step, attribute_step, datum_but_step}
use Rattle.rn_pattern.proofs.Ordered.Orders.{tree_same}
use Rattle.rn_pattern.proofs.Matches.Products.{IsComposition, Product, product_append, product_one, product_flat, product_unflat, product_sorted, product_unsorted}
use Rattle.rn_pattern.proofs.Matches.Compositions.{Content, nothing, InTurn, Mixed, in_turn, mixed, mixed_swap, Matching, group_product, product_group, interleave_product, product_interleave, one_or_more_product, product_one_or_more}

pub list_of-trees_of : (ps : List Tree) → list_of (trees_of ps) ≡ ps
list_of-trees_of [] = refl
list_of-trees_of (p ∷ ps) = ap (λ t. p ∷ t) (list_of-trees_of ps)

pub trees_of-list_of : (ps : Trees) → trees_of (list_of ps) ≡ ps
trees_of-list_of no_trees = refl
trees_of-list_of (more_trees p ps) = ap (more_trees p) (trees_of-list_of ps)

module _ (T : Table) (meaning : Meaning) (a : List Attribute) (m : List Item) where
  -- some member matches
  abbrev pub SomeOf : List Tree → Type 0
  SomeOf [] = ⊥
  SomeOf (p ∷ ps) = Matches T meaning a m p ⊎ SomeOf ps

  pub some_of_trees : (ps : Trees) → SomeMatches T meaning a m ps → SomeOf (list_of ps)
  some_of_trees no_trees h = h
  some_of_trees (more_trees p ps) (inl h) = inl h
  some_of_trees (more_trees p ps) (inr h) = inr (some_of_trees ps h)

  pub trees_of_some : (ps : Trees) → SomeOf (list_of ps) → SomeMatches T meaning a m ps
  trees_of_some no_trees h = h
  trees_of_some (more_trees p ps) (inl h) = inl h
  trees_of_some (more_trees p ps) (inr h) = inr (trees_of_some ps h)

  pub some_left : (ps qs : List Tree) → SomeOf ps → SomeOf (ps ++ qs)
  some_left [] qs h = absurd h
  some_left (p ∷ ps) qs (inl h) = inl h
  some_left (p ∷ ps) qs (inr h) = inr (some_left ps qs h)

  pub some_right : (ps qs : List Tree) → SomeOf qs → SomeOf (ps ++ qs)
  some_right [] qs h = h
  some_right (p ∷ ps) qs h = inr (some_right ps qs h)

  pub some_either : (ps qs : List Tree) → SomeOf (ps ++ qs) → SomeOf ps ⊎ SomeOf qs
  some_either [] qs h = inr h
  some_either (p ∷ ps) qs (inl h) = inl (inl h)
  some_either (p ∷ ps) qs (inr h) = ⊎_elim (λ x. inl (inr x)) (λ y. inr y) (some_either ps qs h)

  within : (p : Tree) → Matches T meaning a m p → SomeOf (alternatives p)
  within not_allowed h = h
  within (choice ps) h = some_of_trees ps h
  within p h = inl h

  one_of : (p : Tree) → Matches T meaning a m p ⊎ ⊥ → Matches T meaning a m p
  one_of p (inl h) = h
  one_of p (inr h) = absurd h

  without : (p : Tree) → SomeOf (alternatives p) → Matches T meaning a m p
  without not_allowed h = h
  without (choice ps) h = trees_of_some ps h
  without p h = one_of p h

  some_flat : (ps : List Tree) → SomeOf ps → SomeOf (flat_map alternatives ps)
  some_flat [] h = h
  some_flat (p ∷ ps) (inl h) = some_left (alternatives p) (flat_map alternatives ps) (within p h)
  some_flat (p ∷ ps) (inr h) = some_right (alternatives p) (flat_map alternatives ps) (some_flat ps h)

  some_unflat : (ps : List Tree) → SomeOf (flat_map alternatives ps) → SomeOf ps
  some_unflat [] h = h
  some_unflat (p ∷ ps) h = ⊎_elim (λ x. inl (without p x)) (λ y. inr (some_unflat ps y)) (some_either (alternatives p) (flat_map alternatives ps) h)

  some_put_at : (o : Ordering) (p q : Tree) (ps qs : List Tree) → (o ≡ Equal → p ≡ q) → (SomeOf (p ∷ ps) → SomeOf qs) → SomeOf (p ∷ q ∷ ps) → SomeOf (match_ordering o (p ∷ q ∷ ps) (q ∷ ps) (q ∷ qs))
  some_put_at Less p q ps qs same ih h = h
  some_put_at Equal p q ps qs same ih (inl h) = inl (subst (λ (x : Tree). Matches T meaning a m x) (same refl) h)
  some_put_at Equal p q ps qs same ih (inr h) = h
  some_put_at Greater p q ps qs same ih (inl h) = inr (ih (inl h))
  some_put_at Greater p q ps qs same ih (inr (inl h)) = inl h
  some_put_at Greater p q ps qs same ih (inr (inr h)) = inr (ih (inr h))

  some_put : (p : Tree) (ps : List Tree) → SomeOf (p ∷ ps) → SomeOf (put_once tree_cmp p ps)
  some_put p [] h = h
  some_put p (q ∷ ps) h = some_put_at (tree_cmp p q) p q ps (put_once tree_cmp p ps) (tree_same p q) (some_put p ps) h

  some_unput_at : (o : Ordering) (p q : Tree) (ps qs : List Tree) → (SomeOf qs → SomeOf (p ∷ ps)) → SomeOf (match_ordering o (p ∷ q ∷ ps) (q ∷ ps) (q ∷ qs)) → SomeOf (p ∷ q ∷ ps)
  some_unput_at Less p q ps qs ih h = h
  some_unput_at Equal p q ps qs ih h = inr h
  some_unput_at Greater p q ps qs ih (inl h) = inr (inl h)
  some_unput_at Greater p q ps qs ih (inr h) = ⊎_elim (λ x. inl x) (λ y. inr (inr y)) (ih h)

  some_unput : (p : Tree) (ps : List Tree) → SomeOf (put_once tree_cmp p ps) → SomeOf (p ∷ ps)
  some_unput p [] h = h
  some_unput p (q ∷ ps) h = some_unput_at (tree_cmp p q) p q ps (put_once tree_cmp p ps) (some_unput p ps) h

  pub some_sorted : (ps : List Tree) → SomeOf ps → SomeOf (sorted_once tree_cmp ps)
  some_sorted [] h = h
  some_sorted (p ∷ ps) (inl h) = some_put p (sorted_once tree_cmp ps) (inl h)
  some_sorted (p ∷ ps) (inr h) = some_put p (sorted_once tree_cmp ps) (inr (some_sorted ps h))

  pub some_unsorted : (ps : List Tree) → SomeOf (sorted_once tree_cmp ps) → SomeOf ps
  some_unsorted [] h = h
  some_unsorted (p ∷ ps) h = ⊎_elim (λ x. inl x) (λ y. inr (some_unsorted ps y)) (some_unput p (sorted_once tree_cmp ps) h)

  some_node : (ps : List Tree) → SomeOf ps → Matches T meaning a m (node_of not_allowed choice ps)
  some_node [] h = h
  some_node (p ∷ []) h = one_of p h
  some_node (p ∷ q ∷ ps) h = trees_of_some (trees_of (p ∷ q ∷ ps)) (subst (λ (x : List Tree). SomeOf x) (sym (list_of-trees_of (p ∷ q ∷ ps))) h)

  node_some : (ps : List Tree) → Matches T meaning a m (node_of not_allowed choice ps) → SomeOf ps
  node_some [] h = h
  node_some (p ∷ []) h = inl h
  node_some (p ∷ q ∷ ps) h = subst (λ (x : List Tree). SomeOf x) (list_of-trees_of (p ∷ q ∷ ps)) (some_of_trees (trees_of (p ∷ q ∷ ps)) h)

  -- a choice of the parts matches what its canonical step does
  pub choice_kept : (ps : List Tree) → Matches T meaning a m (choice (trees_of ps)) ↔ Matches T meaning a m (choice_step ps)
  choice_kept ps = (
    λ h. some_node (sorted_once tree_cmp (flat_map alternatives ps)) (some_sorted (flat_map alternatives ps) (some_flat ps (subst (λ (x : List Tree). SomeOf x) (list_of-trees_of ps) (some_of_trees (trees_of ps) h)))),
    λ h. trees_of_some (trees_of ps) (subst (λ (x : List Tree). SomeOf x) (sym (list_of-trees_of ps)) (some_unflat ps (some_unsorted (flat_map alternatives ps) (node_some (sorted_once tree_cmp (flat_map alternatives ps)) h)))),
  )

module _ (T : Table) (meaning : Meaning) where
  abbrev M : Tree → Content → Type 0
  M = Matching T meaning

  -- members whose product a node matches
  product_node : (C : Content → Content → Content → Type 0) (laws : IsComposition C nothing) (over : Trees → Tree) → ((ts : Trees) (s : Content) → Product C nothing M (list_of ts) s → M (over ts) s) → (ps : List Tree) (s : Content) → Product C nothing M ps s → M (node_of empty over ps) s
  product_node C laws over to [] s h = (ap (λ x. x.0) h, ap (λ x. x.1) h)
  product_node C laws over to (p ∷ []) s h = (product_one C nothing laws M p s).1 h
  product_node C laws over to (p ∷ q ∷ ps) s h = to (trees_of (p ∷ q ∷ ps)) s (subst (λ (x : List Tree). Product C nothing M x s) (sym (list_of-trees_of (p ∷ q ∷ ps))) h)

  node_product : (C : Content → Content → Content → Type 0) (laws : IsComposition C nothing) (over : Trees → Tree) → ((ts : Trees) (s : Content) → M (over ts) s → Product C nothing M (list_of ts) s) → (ps : List Tree) (s : Content) → M (node_of empty over ps) s → Product C nothing M ps s
  node_product C laws over from [] s h = λ i. (h.0 i, h.1 i)
  node_product C laws over from (p ∷ []) s h = (product_one C nothing laws M p s).0 h
  node_product C laws over from (p ∷ q ∷ ps) s h = subst (λ (x : List Tree). Product C nothing M x s) (list_of-trees_of (p ∷ q ∷ ps)) (from (trees_of (p ∷ q ∷ ps)) s h)

  never : (p : Tree) (s : Content) → is_not_allowed p ≡ true → ¬ M p s
  never not_allowed s e h = h
  never p s e h = absurd (false≢true e)

  none_at : (b : Bool) (C : Content → Content → Content → Type 0) (p : Tree) (ps : List Tree) (s : Content) → is_not_allowed p ≡ b → ((t : Content) → has_not_allowed ps ≡ true → ¬ Product C nothing M ps t) → (b || has_not_allowed ps) ≡ true → ¬ Product C nothing M (p ∷ ps) s
  none_at true C p ps s e ih t (first, rest, c, here, more) = never p first e here
  none_at false C p ps s e ih t (first, rest, c, here, more) = ih rest t more

  -- a member that is notAllowed leaves no product
  product_none : (C : Content → Content → Content → Type 0) (ps : List Tree) (s : Content) → has_not_allowed ps ≡ true → ¬ Product C nothing M ps s
  product_none C [] s e h = false≢true e
  product_none C (p ∷ ps) s e h = none_at (is_not_allowed p) C p ps s refl (λ t. product_none C ps t) e h

  unless_none : (C : Content → Content → Content → Type 0) (ps : List Tree) (q : Tree) (b : Bool) (s : Content) → has_not_allowed ps ≡ b → (Product C nothing M ps s ↔ M q s) → Product C nothing M ps s ↔ M (cond b not_allowed q) s
  unless_none C ps q true s e same = (λ h. product_none C ps s e h, λ h. absurd h)
  unless_none C ps q false s e same = same

  in_group : (p : Tree) (s : Content) → M p s → Product InTurn nothing M (grouped p) s
  in_group empty s h = λ i. (h.0 i, h.1 i)
  in_group (group ps) s h = group_product T meaning ps s h
  in_group p s h = (product_one InTurn nothing in_turn M p s).0 h

  out_group : (p : Tree) (s : Content) → Product InTurn nothing M (grouped p) s → M p s
  out_group empty s h = (ap (λ x. x.0) h, ap (λ x. x.1) h)
  out_group (group ps) s h = product_group T meaning ps s h
  out_group p s h = (product_one InTurn nothing in_turn M p s).1 h

  in_interleave : (p : Tree) (s : Content) → M p s → Product Mixed nothing M (interleaved p) s
  in_interleave empty s h = λ i. (h.0 i, h.1 i)
  in_interleave (interleave ps) s h = interleave_product T meaning ps s h
  in_interleave p s h = (product_one Mixed nothing mixed M p s).0 h

  out_interleave : (p : Tree) (s : Content) → Product Mixed nothing M (interleaved p) s → M p s
  out_interleave empty s h = (ap (λ x. x.0) h, ap (λ x. x.1) h)
  out_interleave (interleave ps) s h = product_interleave T meaning ps s h
  out_interleave p s h = (product_one Mixed nothing mixed M p s).1 h

  group_flat : (ps : List Tree) (s : Content) → Product InTurn nothing M ps s ↔ M (node_of empty group (flat_map grouped ps)) s
  group_flat ps s = (
    λ h. product_node InTurn in_turn group (product_group T meaning) (flat_map grouped ps) s (product_flat InTurn nothing in_turn M grouped in_group ps s h),
    λ h. product_unflat InTurn nothing in_turn M grouped out_group ps s (node_product InTurn in_turn group (group_product T meaning) (flat_map grouped ps) s h),
  )

  interleave_flat : (ps : List Tree) (s : Content) → Product Mixed nothing M ps s ↔ M (node_of empty interleave (sorted tree_cmp (flat_map interleaved ps))) s
  interleave_flat ps s = (
    λ h. product_node Mixed mixed interleave (product_interleave T meaning) (sorted tree_cmp (flat_map interleaved ps)) s (product_sorted Mixed nothing mixed mixed_swap M tree_cmp (flat_map interleaved ps) s (product_flat Mixed nothing mixed M interleaved in_interleave ps s h)),
    λ h. product_unflat Mixed nothing mixed M interleaved out_interleave ps s (product_unsorted Mixed nothing mixed mixed_swap M tree_cmp (flat_map interleaved ps) s (node_product Mixed mixed interleave (interleave_product T meaning) (sorted tree_cmp (flat_map interleaved ps)) s h)),
  )

  -- a group of the parts matches what its canonical step does
  pub group_kept : (ps : List Tree) (s : Content) → M (group (trees_of ps)) s ↔ M (group_step ps) s
  group_kept ps s =
      let step = unless_none InTurn ps (node_of empty group (flat_map grouped ps)) (has_not_allowed ps) s refl (group_flat ps s) in (
        λ h. step.0 (subst (λ (x : List Tree). Product InTurn nothing M x s) (list_of-trees_of ps) (group_product T meaning (trees_of ps) s h)),
        λ h. product_group T meaning (trees_of ps) s (subst (λ (x : List Tree). Product InTurn nothing M x s) (sym (list_of-trees_of ps)) (step.1 h)),
      )

  -- an interleave of the parts matches what its canonical step does
  pub interleave_kept : (ps : List Tree) (s : Content) → M (interleave (trees_of ps)) s ↔ M (interleave_step ps) s
  interleave_kept ps s =
      let step = unless_none Mixed ps (node_of empty interleave (sorted tree_cmp (flat_map interleaved ps))) (has_not_allowed ps) s refl (interleave_flat ps s) in (
        λ h. step.0 (subst (λ (x : List Tree). Product Mixed nothing M x s) (list_of-trees_of ps) (interleave_product T meaning (trees_of ps) s h)),
        λ h. product_interleave T meaning (trees_of ps) s (subst (λ (x : List Tree). Product Mixed nothing M x s) (sym (list_of-trees_of ps)) (step.1 h)),
      )

  times_none : (n : ℕ) (s : Content) → 0 < n → ¬ Product InTurn nothing M (replicate n not_allowed) s
  times_none zero s some h = absurd (omega arith)
  times_none (suc n) s some (first, rest, c, here, more) = here

  times_empty : (n : ℕ) (s : Content) → Product InTurn nothing M (replicate n empty) s → s ≡ nothing
  times_empty zero s h = h
  times_empty (suc n) s (first, rest, c, here, more) =
      let at_first : first ≡ nothing = λ i. (here.0 i, here.1 i) in
      let behind : InTurn s nothing rest = subst (λ (x : Content). InTurn s x rest) at_first c in
      in_turn.only_behind s rest behind ∙ times_empty n rest more

  times_twice : (p : Tree) (n : ℕ) (s : Content) → Product InTurn nothing M (replicate n (one_or_more p)) s → (k : ℕ) × (n ≤ k) × Product InTurn nothing M (replicate k p) s
  times_twice p zero s h = (0, omega arith, h)
  times_twice p (suc n) s (first, rest, c, here, more) =
      let (j, some, before) = one_or_more_product T meaning p first here in
      let (k, enough, behind) = times_twice p n rest more in
      (j + k, omega arith, subst (λ (x : List Tree). Product InTurn nothing M x s) (replicate-append-replicate j k p) (product_append InTurn nothing in_turn M (replicate j p) (replicate k p) s first rest c before behind))

  once : (p : Tree) (s : Content) → M p s → M (one_or_more p) s
  once p s h = product_one_or_more T meaning p s 1 (omega arith) ((product_one InTurn nothing in_turn M p s).0 h)

  -- a repetition of the part matches what its canonical step does
  pub one_or_more_kept : (p : Tree) (s : Content) → M (one_or_more p) s ↔ M (one_or_more_step p) s
  one_or_more_kept not_allowed s =
      (λ h. let (n, some, prod) = one_or_more_product T meaning not_allowed s h in times_none n s some prod, λ h. absurd h)
  one_or_more_kept empty s =
      (λ h. let (n, some, prod) = one_or_more_product T meaning empty s h in let e = times_empty n s prod in (ap (λ x. x.0) e, ap (λ x. x.1) e), λ h. once empty s h)
  one_or_more_kept (one_or_more p) s =
      (λ h. let (n, some, prod) = one_or_more_product T meaning (one_or_more p) s h in let (k, enough, all) = times_twice p n s prod in product_one_or_more T meaning p s k (omega arith) all, λ h. once (one_or_more p) s h)
  one_or_more_kept p s = (λ h. h, λ h. h)

  pub list_kept : (p : Tree) (s : Content) → M (list p) s ↔ M (list_step p) s
  list_kept not_allowed s = (λ h. h.3, λ h. absurd h)
  list_kept p s = (λ h. h, λ h. h)

  pub datum_kept : (library type : Text) (params : Parameters) (p : Tree) (s : Content) → M (datum_but library type params p) s ↔ M (datum_but_step library type params p) s
  datum_kept library type params not_allowed s = (λ h. (h.0, h.1, h.2, h.3), λ h. (h.0, h.1, h.2, h.3, λ x. x))
  datum_kept library type params p s = (λ h. h, λ h. h)

  -- white space at the sides and the empty string change no language that matches nothing
  weakly_none : (R : List Attribute → List Item → Type 0) → ((b : List Attribute) (k : List Item) → ¬ R b k) → (b : List Attribute) (k : List Item) → ¬ Weakly R b k
  weakly_none R none b k (inl h) = none b k h
  weakly_none R none b k (inr (inl h)) = none b [] h.3
  weakly_none R none b k (inr (inr h)) = none b (string [] ∷ []) h.1

  pub weakly_to : (R S : List Attribute → List Item → Type 0) → ((b : List Attribute) (k : List Item) → R b k → S b k) → (b : List Attribute) (k : List Item) → Weakly R b k → Weakly S b k
  weakly_to R S to b k (inl h) = inl (to b k h)
  weakly_to R S to b k (inr (inl h)) = inr (inl (h.0, h.1, h.2, to b [] h.3))
  weakly_to R S to b k (inr (inr h)) = inr (inr (h.0, to b (string [] ∷ []) h.1))

  pub attribute_kept : (c : NameTree) (p : Tree) (s : Content) → M (attribute c p) s ↔ M (attribute_step c p) s
  attribute_kept c not_allowed s = (λ h. weakly_none (λ b k. Matches T meaning b k not_allowed) (λ b k x. x) [] (string h.0.content ∷ []) h.4, λ h. absurd h)
  attribute_kept c p s = (λ h. h, λ h. h)
