-- Lists of things that have names: in the order of the names, and searched by a name.
use Rattle.std.proofs.Common.{◌≡◌, ℕ, ◌+◌, ◌<◌, ◌≤◌, false, inl, inr, List, [], ◌∷◌, length, get_or, map, Result, Ok, Err, MatchResult, refl, sym, ap, ◌∙◌, subst, arith, Contains, Ordering, Less, Equal, Greater}
use Rattle.std.specs.Ordering.{is_lt, on, ordering_index, ordering_reverse}
use Rattle.std.specs.List.{AllByRecursion}
use Rattle.std.specs.List.Sorted.{IsBinarySearchResult, IsSearchInRange, IsNonDecreasingBy, IsStrictlySortedBy}
use Rattle.std.proofs.lemmas.Bool.{cases_lt}
use Rattle.std.proofs.lemmas.List.{get_or-map, length-map}
use Rattle.std.proofs.lemmas.List.Sorted.{searchable_from_sorted}
use Rattle.std.proofs.lemmas.Map.Keys.{Less-from_sorted}
use Rattle.std.proofs.lemmas.Cmp.{nat_list_cmp_total, tied_itself}
use Rattle.rn_text.specs.Texts.{Text, text_cmp}
use Rattle.rn_pattern.proofs.Ordered.Orders.{text_same}
use Rattle.rn_pattern.proofs.Ordered.InOrder.{contains_front, contains_behind, contains_cases}

not_less : (r : Ordering) → r ≡ Greater → is_lt r ≡ false
not_less Less e = cc
not_less Equal e = cc
not_less Greater e = refl

module _ {X : Type 0} (f : X → Text) where
  pub mapped : (xs : List X) (x : X) → Contains xs x → Contains (map f xs) (f x)
  mapped xs x (k, l, e) = (k, omega (arith, l, length-map xs f), get_or-map f xs k x (f x) l ∙ ap f e)

  pub unmapped : (xs : List X) (y : Text) → Contains (map f xs) y → (x : X) × Contains xs x × (f x ≡ y)
  unmapped [] y (k, l, e) = absurd (omega (arith, l))
  unmapped (x ∷ xs) y c = elim (contains_cases (f x) y (map f xs) c) [
    | inl e ↦ (x, contains_front x xs, e)
    | inr d ↦ let r = unmapped xs y d in (r.0, contains_behind x r.0 xs r.1, r.2)
  ]

  all_mapped : (x : Text) (ys : List X) → AllByRecursion (λ y. text_cmp x (f y) ≡ Less) ys → AllByRecursion (λ y. text_cmp x y ≡ Less) (map f ys)
  all_mapped x [] h = tt
  all_mapped x (y ∷ ys) h = (h.0, all_mapped x ys h.1)

  pub in_order_mapped : (xs : List X) → IsStrictlySortedBy (on f text_cmp) xs → IsStrictlySortedBy text_cmp (map f xs)
  unfolding IsStrictlySortedBy
  in_order_mapped [] h = tt
  in_order_mapped (x ∷ xs) h = (all_mapped (f x) xs h.0, in_order_mapped xs h.1)

  -- a search by a name
  pub rise_at : (xs : List X) (i j : ℕ) (d : X) → IsStrictlySortedBy text_cmp (map f xs) → i < j → j < length xs → text_cmp (f (get_or xs i d)) (f (get_or xs j d)) ≡ Less
  rise_at xs i j d s h lt =
      let e : j < length (map f xs) = omega (arith, length-map xs f) in
      subst (λ (m : Text). text_cmp m (f (get_or xs j d)) ≡ Less) (get_or-map f xs i d (f d) (omega arith))
      (subst (λ (m : Text). text_cmp (get_or (map f xs) i (f d)) m ≡ Less) (get_or-map f xs j d (f d) lt) (Less-from_sorted text_cmp (map f xs) i j (f d) s h e))

  searchable : (xs : List X) (t : Text) → IsStrictlySortedBy text_cmp (map f xs) → IsNonDecreasingBy (λ y. ordering_index (text_cmp (f y) t)) xs
  searchable xs t s = searchable_from_sorted nat_list_cmp_total f xs t (λ k d low high. not_less _ (nat_list_cmp_total.antisymm (f (get_or xs (k + 1) d)) (f (get_or xs k d)) ∙ ap ordering_reverse (rise_at xs k (k + 1) d s (omega arith) high)))

  -- the place of the name, or there is none
  abbrev pub IsPlaceOf : List X → Text → Result ℕ ℕ → Type 0
  IsPlaceOf xs t r = MatchResult r (λ i. (i < length xs) × ((d : X) → f (get_or xs i d) ≡ t)) (λ i. ¬ Contains (map f xs) t)

  not_at : (t : Text) (xs : List X) (i : ℕ) → ((k : ℕ) (d : X) → k < i → text_cmp (f (get_or xs k d)) t ≡ Less) → ((k : ℕ) (d : X) → i ≤ k → k < length xs → text_cmp (f (get_or xs k d)) t ≡ Greater) → ¬ Contains (map f xs) t
  not_at t xs i low high c =
      let r = unmapped xs t c in
      let at : f (get_or xs r.1.0 r.0) ≡ t = ap f r.1.2 ∙ r.2 in
      let tied : text_cmp (f (get_or xs r.1.0 r.0)) t ≡ Equal = ap (λ u. text_cmp u t) at ∙ tied_itself nat_list_cmp_total t in
      elim (cases_lt r.1.0 i) [
        | inl l ↦ let e : Less ≡ Equal = sym (low r.1.0 r.0 l) ∙ tied in cc
        | inr g ↦ let e : Greater ≡ Equal = sym (high r.1.0 r.0 g r.1.1) ∙ tied in cc
      ]

  pub place_of : (xs : List X) (t : Text) (r : Result ℕ ℕ) → IsStrictlySortedBy text_cmp (map f xs) → IsBinarySearchResult (λ y. text_cmp (f y) t) xs r → IsSearchInRange r (length xs) → IsPlaceOf xs t r
  place_of xs t (Ok i) s h l = (l, λ d. text_same _ _ (h d))
  place_of xs t (Err i) s h l = let parts = h (searchable xs t s) in not_at t xs i (λ k d lt. parts.0 k d (omega arith) lt) (λ k d low high. parts.1 k d low high)
