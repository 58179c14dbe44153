-- The canonical form of a name class holds the same names.
use Rattle.std.proofs.Common.{◌≡◌, ◌⊎◌, ◌↔◌, inl, inr, ⊎_elim, List, [], ◌∷◌, ◌++◌, refl, sym, ap, subst, Ordering, Less, Equal, Greater}
use Rattle.std.specs.Prelude.{flat_map}
use Rattle.std.specs.Ordering.{match_ordering}
use Rattle.rn_pattern.specs.Tree.{NameTree, NameTrees, any_name, any_name_but, ns_name, ns_name_but, name, name_choice, no_names, more_names, name_list_of, name_trees_of}
use Rattle.rn_text.specs.Texts.{Text}
use Rattle.rn_pattern.specs.HeldNames.{HoldsName, SomeHoldsName}
use Rattle.rn_pattern.specs.Order.{name_cmp}
use Rattle.rn_pattern.specs.Canonical.{put_once, sorted_once, name_class_of, names_within, name_choice_step, canonical_name, canonical_names}
use Rattle.rn_pattern.proofs.Ordered.Orders.{name_same}

pub name_list_of-name_trees_of : (cs : List NameTree) → name_list_of (name_trees_of cs) ≡ cs
name_list_of-name_trees_of [] = refl
name_list_of-name_trees_of (c ∷ cs) = ap (λ t. c ∷ t) (name_list_of-name_trees_of cs)

module _ (u l : Text) where
  -- some member holds the name
  abbrev SomeOf : List NameTree → Type 0
  SomeOf [] = ⊥
  SomeOf (c ∷ cs) = HoldsName u l c ⊎ SomeOf cs

  some_of_names : (cs : NameTrees) → SomeHoldsName u l cs → SomeOf (name_list_of cs)
  some_of_names no_names h = h
  some_of_names (more_names c cs) (inl h) = inl h
  some_of_names (more_names c cs) (inr h) = inr (some_of_names cs h)

  names_of_some : (cs : NameTrees) → SomeOf (name_list_of cs) → SomeHoldsName u l cs
  names_of_some no_names h = h
  names_of_some (more_names c cs) (inl h) = inl h
  names_of_some (more_names c cs) (inr h) = inr (names_of_some cs h)

  some_left : (cs ds : List NameTree) → SomeOf cs → SomeOf (cs ++ ds)
  some_left [] ds h = absurd h
  some_left (c ∷ cs) ds (inl h) = inl h
  some_left (c ∷ cs) ds (inr h) = inr (some_left cs ds h)

  some_right : (cs ds : List NameTree) → SomeOf ds → SomeOf (cs ++ ds)
  some_right [] ds h = h
  some_right (c ∷ cs) ds h = inr (some_right cs ds h)

  some_either : (cs ds : List NameTree) → SomeOf (cs ++ ds) → SomeOf cs ⊎ SomeOf ds
  some_either [] ds h = inr h
  some_either (c ∷ cs) ds (inl h) = inl (inl h)
  some_either (c ∷ cs) ds (inr h) = ⊎_elim (λ x. inl (inr x)) (λ y. inr y) (some_either cs ds h)

  one_of : (c : NameTree) → HoldsName u l c ⊎ ⊥ → HoldsName u l c
  one_of c (inl h) = h
  one_of c (inr h) = absurd h

  within : (c : NameTree) → HoldsName u l c → SomeOf (names_within c)
  within (name_choice cs) h = some_of_names cs h
  within c h = inl h

  without : (c : NameTree) → SomeOf (names_within c) → HoldsName u l c
  without (name_choice cs) h = names_of_some cs h
  without c h = one_of c h

  some_flat : (cs : List NameTree) → SomeOf cs → SomeOf (flat_map names_within cs)
  some_flat [] h = h
  some_flat (c ∷ cs) (inl h) = some_left (names_within c) (flat_map names_within cs) (within c h)
  some_flat (c ∷ cs) (inr h) = some_right (names_within c) (flat_map names_within cs) (some_flat cs h)

  some_unflat : (cs : List NameTree) → SomeOf (flat_map names_within cs) → SomeOf cs
  some_unflat [] h = h
  some_unflat (c ∷ cs) h = ⊎_elim (λ x. inl (without c x)) (λ y. inr (some_unflat cs y)) (some_either (names_within c) (flat_map names_within cs) h)

  some_put_at : (o : Ordering) (c d : NameTree) (cs ds : List NameTree) → (o ≡ Equal → c ≡ d) → (SomeOf (c ∷ cs) → SomeOf ds) → SomeOf (c ∷ d ∷ cs) → SomeOf (match_ordering o (c ∷ d ∷ cs) (d ∷ cs) (d ∷ ds))
  some_put_at Less c d cs ds same ih h = h
  some_put_at Equal c d cs ds same ih (inl h) = inl (subst (λ (x : NameTree). HoldsName u l x) (same refl) h)
  some_put_at Equal c d cs ds same ih (inr h) = h
  some_put_at Greater c d cs ds same ih (inl h) = inr (ih (inl h))
  some_put_at Greater c d cs ds same ih (inr (inl h)) = inl h
  some_put_at Greater c d cs ds same ih (inr (inr h)) = inr (ih (inr h))

  some_put : (c : NameTree) (cs : List NameTree) → SomeOf (c ∷ cs) → SomeOf (put_once name_cmp c cs)
  some_put c [] h = h
  some_put c (d ∷ cs) h = some_put_at (name_cmp c d) c d cs (put_once name_cmp c cs) (name_same c d) (some_put c cs) h

  some_unput_at : (o : Ordering) (c d : NameTree) (cs ds : List NameTree) → (SomeOf ds → SomeOf (c ∷ cs)) → SomeOf (match_ordering o (c ∷ d ∷ cs) (d ∷ cs) (d ∷ ds)) → SomeOf (c ∷ d ∷ cs)
  some_unput_at Less c d cs ds ih h = h
  some_unput_at Equal c d cs ds ih h = inr h
  some_unput_at Greater c d cs ds ih (inl h) = inr (inl h)
  some_unput_at Greater c d cs ds ih (inr h) = ⊎_elim (λ x. inl x) (λ y. inr (inr y)) (ih h)

  some_unput : (c : NameTree) (cs : List NameTree) → SomeOf (put_once name_cmp c cs) → SomeOf (c ∷ cs)
  some_unput c [] h = h
  some_unput c (d ∷ cs) h = some_unput_at (name_cmp c d) c d cs (put_once name_cmp c cs) (some_unput c cs) h

  some_sorted : (cs : List NameTree) → SomeOf cs → SomeOf (sorted_once name_cmp cs)
  some_sorted [] h = h
  some_sorted (c ∷ cs) (inl h) = some_put c (sorted_once name_cmp cs) (inl h)
  some_sorted (c ∷ cs) (inr h) = some_put c (sorted_once name_cmp cs) (inr (some_sorted cs h))

  some_unsorted : (cs : List NameTree) → SomeOf (sorted_once name_cmp cs) → SomeOf cs
  some_unsorted [] h = h
  some_unsorted (c ∷ cs) h = ⊎_elim (λ x. inl x) (λ y. inr (some_unsorted cs y)) (some_unput c (sorted_once name_cmp cs) h)

  some_class : (cs : List NameTree) → SomeOf cs → HoldsName u l (name_class_of cs)
  some_class [] h = h
  some_class (c ∷ []) h = one_of c h
  some_class (c ∷ d ∷ cs) h = names_of_some (name_trees_of (c ∷ d ∷ cs)) (subst (λ (x : List NameTree). SomeOf x) (sym (name_list_of-name_trees_of (c ∷ d ∷ cs))) h)

  class_some : (cs : List NameTree) → HoldsName u l (name_class_of cs) → SomeOf cs
  class_some [] h = h
  class_some (c ∷ []) h = inl h
  class_some (c ∷ d ∷ cs) h = subst (λ (x : List NameTree). SomeOf x) (name_list_of-name_trees_of (c ∷ d ∷ cs)) (some_of_names (name_trees_of (c ∷ d ∷ cs)) h)

  choice_to : (cs : List NameTree) → SomeOf cs → HoldsName u l (name_choice_step cs)
  choice_to cs h = some_class (sorted_once name_cmp (flat_map names_within cs)) (some_sorted (flat_map names_within cs) (some_flat cs h))

  choice_from : (cs : List NameTree) → HoldsName u l (name_choice_step cs) → SomeOf cs
  choice_from cs h = some_unflat cs (some_unsorted (flat_map names_within cs) (class_some (sorted_once name_cmp (flat_map names_within cs)) h))

  mutual
    pub names_kept : (c : NameTree) → HoldsName u l c ↔ HoldsName u l (canonical_name c)
    names_kept any_name = (λ h. h, λ h. h)
    names_kept (any_name_but c) = (λ h x. h ((names_kept c).1 x), λ h x. h ((names_kept c).0 x))
    names_kept (ns_name v) = (λ h. h, λ h. h)
    names_kept (ns_name_but v c) = (λ h. (h.0, λ x. h.1 ((names_kept c).1 x)), λ h. (h.0, λ x. h.1 ((names_kept c).0 x)))
    names_kept (name v m) = (λ h. h, λ h. h)
    names_kept (name_choice cs) = (λ h. choice_to (canonical_names cs) ((some_kept cs).0 h), λ h. (some_kept cs).1 (choice_from (canonical_names cs) h))

    some_kept : (cs : NameTrees) → SomeHoldsName u l cs ↔ SomeOf (canonical_names cs)
    some_kept no_names = (λ h. h, λ h. h)
    some_kept (more_names c cs) = (⊎_elim (λ x. inl ((names_kept c).0 x)) (λ y. inr ((some_kept cs).0 y)), ⊎_elim (λ x. inl ((names_kept c).1 x)) (λ y. inr ((some_kept cs).1 y)))
