-- The references of a pattern are the names that it refers to.
use Rattle.std.proofs.Common.{◌≡◌, inl, inr, ⊎_elim, List, [], ◌∷◌, Option, Some, None, refl, sym, ap, ◌∙◌, subst, arith}
use Rattle.std.specs.Prelude.{Contains}
use Rattle.std.specs.List.{filter_map, cons_option}
use Rattle.std.proofs.lemmas.List.Elements.{Contains-append_left, Contains-append_right, Contains-append_cases}
use Rattle.rn_pattern.specs.Tree.{Tree, Trees, ref, datum_but, list, attribute, element, one_or_more, group, interleave, choice, no_trees, more_trees}
use Rattle.rn_text.specs.Texts.{Text}
use Rattle.rn_pattern.specs.Reached.{RefersTo, SomeRefersTo}
use Rattle.rn_pattern.proofs.Ordered.InOrder.{contains_behind, contains_front, contains_cases}
use Rattle.rn_simplify.specs.inside.ReferredNames.{references, all_references}

pub contains_none : {X : Type 0} (x : X) → Contains [] x → ⊥
contains_none x (k, l, is) = absurd (omega (arith, l))

contains_one : (x y : Text) → Contains (y ∷ []) x → x ≡ y
contains_one x y c = ⊎_elim (λ e. sym e) (λ d. absurd (contains_none x d)) (contains_cases y x [] c)

one_contained : (x y : Text) → x ≡ y → Contains (y ∷ []) x
one_contained x y e = subst (λ z. Contains (y ∷ []) z) (sym e) (contains_front y [])

mutual
  pub refers_in : (x : Text) (p : Tree) → RefersTo x p → Contains (references p) x
  refers_in x (ref y) h = one_contained x y h
  refers_in x (datum_but l t ps p) h = refers_in x p h
  refers_in x (list p) h = refers_in x p h
  refers_in x (attribute c p) h = refers_in x p h
  refers_in x (element c p) h = refers_in x p h
  refers_in x (one_or_more p) h = refers_in x p h
  refers_in x (group ps) h = some_refers_in x ps h
  refers_in x (interleave ps) h = some_refers_in x ps h
  refers_in x (choice ps) h = some_refers_in x ps h
  refers_in x p h = absurd h

  some_refers_in : (x : Text) (ps : Trees) → SomeRefersTo x ps → Contains (all_references ps) x
  some_refers_in x no_trees h = absurd h
  some_refers_in x (more_trees p ps) (inl h) = Contains-append_left (references p) (all_references ps) x (refers_in x p h)
  some_refers_in x (more_trees p ps) (inr h) = Contains-append_right (references p) (all_references ps) x (some_refers_in x ps h)

mutual
  pub in_refers : (x : Text) (p : Tree) → Contains (references p) x → RefersTo x p
  in_refers x (ref y) h = contains_one x y h
  in_refers x (datum_but l t ps p) h = in_refers x p h
  in_refers x (list p) h = in_refers x p h
  in_refers x (attribute c p) h = in_refers x p h
  in_refers x (element c p) h = in_refers x p h
  in_refers x (one_or_more p) h = in_refers x p h
  in_refers x (group ps) h = in_some_refers x ps h
  in_refers x (interleave ps) h = in_some_refers x ps h
  in_refers x (choice ps) h = in_some_refers x ps h
  in_refers x p h = absurd (contains_none x h)

  in_some_refers : (x : Text) (ps : Trees) → Contains (all_references ps) x → SomeRefersTo x ps
  in_some_refers x no_trees h = absurd (contains_none x h)
  in_some_refers x (more_trees p ps) h = ⊎_elim (λ c. inl (in_refers x p c)) (λ c. inr (in_some_refers x ps c)) (Contains-append_cases (references p) (all_references ps) x h)

-- what a list holds gives what its image holds, and back
module _ {X Y : Type 0} (h : X → Option Y) where
  mapped_at : (o : Option Y) (ys : List Y) (y : Y) → o ≡ Some y → Contains (cons_option o ys) y
  mapped_at None ys y e = cc
  mapped_at (Some v) ys y e = let same : v ≡ y = cc in subst (λ w. Contains (v ∷ ys) w) same (contains_front v ys)

  behind_at : (o : Option Y) (ys : List Y) (y : Y) → Contains ys y → Contains (cons_option o ys) y
  behind_at None ys y c = c
  behind_at (Some v) ys y c = contains_behind v y ys c

  pub mapped_in : (xs : List X) (x : X) (y : Y) → Contains xs x → h x ≡ Some y → Contains (filter_map h xs) y
  mapped_in [] x y c e = absurd (contains_none x c)
  mapped_in (z ∷ xs) x y c e = ⊎_elim (λ s. mapped_at (h z) (filter_map h xs) y (ap h s ∙ e)) (λ d. behind_at (h z) (filter_map h xs) y (mapped_in xs x y d e)) (contains_cases z x xs c)

  -- an element of which y is the image
  abbrev Source : List X → Y → Type 0
  Source xs y = (x : X) × Contains xs x × (h x ≡ Some y)

  source_behind : (z : X) (xs : List X) (y : Y) → Source xs y → Source (z ∷ xs) y
  source_behind z xs y w = (w.0, contains_behind z w.0 xs w.1, w.2)

  source_at : (z : X) (o : Option Y) → h z ≡ o → (xs : List X) (y : Y) → (Contains (filter_map h xs) y → Source xs y) → Contains (cons_option o (filter_map h xs)) y → Source (z ∷ xs) y
  source_at z None e xs y r c = source_behind z xs y (r c)
  source_at z (Some v) e xs y r c = ⊎_elim (λ s. (z, contains_front z xs, e ∙ ap (λ u. Some u) s)) (λ d. source_behind z xs y (r d)) (contains_cases v y (filter_map h xs) c)

  pub source_of : (xs : List X) (y : Y) → Contains (filter_map h xs) y → (x : X) × Contains xs x × (h x ≡ Some y)
  source_of [] y c = absurd (contains_none y c)
  source_of (z ∷ xs) y c = source_at z (h z) refl xs y (source_of xs y) c
