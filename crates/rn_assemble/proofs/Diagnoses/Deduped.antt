-- What is left where the first of those that are alike is left.
use Rattle.std.proofs.Common.{◌≡◌, ◌⊎◌, inl, inr, ⊎_elim, Bool, true, false, cond, Ordering, Less, Equal, Greater, List, [], ◌∷◌, refl, sym, ap, ◌∙◌, subst, arith}
use Rattle.std.specs.Prelude.{Contains, IsPermutation}
use Rattle.std.specs.List.{dedup, dedup_from}
use Rattle.std.specs.Ordering.{is_lt, ordering_then}
use Rattle.std.proofs.lemmas.List.Sorted.{Contains-permutation, IsPermutation-sym}
use Rattle.rn_pattern.proofs.Ordered.InOrder.{contains_behind, contains_cases, contains_front}

-- what isn't less by two orders in turn isn't less by the first
pub lesser_first : (a b : Ordering) → is_lt (ordering_then a b) ≡ false → is_lt a ≡ false
lesser_first Less b h = h
lesser_first Equal b h = refl
lesser_first Greater b h = refl

module _ {X Y : Type 0} (same : Y → Y → Bool) (at : Y → X) (stands : (x y : Y) → same x y ≡ true → at x ≡ at y) where
  -- the element is k, or one of the others
  abbrev IsOneOf : Y → List Y → Y → Type 0
  IsOneOf k xs y = (k ≡ y) ⊎ Contains xs y

  abbrev StandsIn : List Y → Y → Type 0
  StandsIn zs y = (z : Y) × Contains zs z × (at z ≡ at y)

  left_at : (b : Bool) (k x : Y) (xs : List Y) (y : Y) → (Contains (dedup_from same k xs) y → IsOneOf k xs y) → (Contains (dedup_from same x xs) y → IsOneOf x xs y) → Contains (cond b (dedup_from same k xs) (k ∷ dedup_from same x xs)) y → IsOneOf k (x ∷ xs) y
  left_at true k x xs y f g c = ⊎_elim (λ e. inl e) (λ r. inr (contains_behind x y xs r)) (f c)
  left_at false k x xs y f g c = ⊎_elim (λ e. inl e) (λ r. inr (⊎_elim (λ e. (0, omega arith, e)) (λ d. contains_behind x y xs d) (g r))) (contains_cases k y (dedup_from same x xs) c)

  left_from : (k : Y) (xs : List Y) (y : Y) → Contains (dedup_from same k xs) y → IsOneOf k xs y
  left_from k [] y c = contains_cases k y [] c
  left_from k (x ∷ xs) y c = left_at (same x k) k x xs y (left_from k xs y) (left_from x xs y) c

  stays_at : (b : Bool) (k x : Y) (xs : List Y) (y : Y) → same x k ≡ b → ((z : Y) → IsOneOf k xs z → StandsIn (dedup_from same k xs) z) → ((z : Y) → IsOneOf x xs z → StandsIn (dedup_from same x xs) z) → (k ≡ y) ⊎ ((x ≡ y) ⊎ Contains xs y) → StandsIn (cond b (dedup_from same k xs) (k ∷ dedup_from same x xs)) y
  stays_at true k x xs y e f g (inl h) = f y (inl h)
  stays_at true k x xs y e f g (inr (inl h)) = let (z, c, is) = f k (inl refl) in (z, c, is ∙ sym (stands x k e) ∙ ap at h)
  stays_at true k x xs y e f g (inr (inr c)) = f y (inr c)
  stays_at false k x xs y e f g (inl h) = (k, contains_front k (dedup_from same x xs), ap at h)
  stays_at false k x xs y e f g (inr h) = let (z, c, is) = g y h in (z, contains_behind k z (dedup_from same x xs) c, is)

  stays_from : (k : Y) (xs : List Y) (y : Y) → IsOneOf k xs y → StandsIn (dedup_from same k xs) y
  stays_from k [] y (inl e) = (k, contains_front k [], ap at e)
  stays_from k [] y (inr c) = absurd (omega (arith, c.1))
  stays_from k (x ∷ xs) y h = stays_at (same x k) k x xs y refl (stays_from k xs) (stays_from x xs) (⊎_elim (λ e. inl e) (λ c. inr (contains_cases x y xs c)) h)

  left_in : (xs : List Y) (y : Y) → Contains (dedup same xs) y → Contains xs y
  left_in [] y c = c
  left_in (x ∷ xs) y c = ⊎_elim (λ e. (0, omega arith, e)) (λ d. contains_behind x y xs d) (left_from x xs y c)

  stays_in : (xs : List Y) (y : Y) → Contains xs y → StandsIn (dedup same xs) y
  stays_in [] y c = absurd (omega (arith, c.1))
  stays_in (x ∷ xs) y c = stays_from x xs y (contains_cases x y xs c)

  module _ (xs ys zs : List Y) (perm : IsPermutation xs ys) (is : zs ≡ dedup same ys) where
    -- after a sort, each that is left was there
    pub left_over : (y : Y) → Contains zs y → Contains xs y
    left_over y c = Contains-permutation ys xs y (IsPermutation-sym xs ys perm) (left_in ys y (subst (λ ws. Contains ws y) is c))

    -- for each that was there, one that stands for the same is left
    pub stays_over : (y : Y) → Contains xs y → (z : Y) × Contains zs z × (at z ≡ at y)
    stays_over y c = let (z, there, e) = stays_in ys y (Contains-permutation xs ys y perm c) in (z, subst (λ ws. Contains ws z) (sym is) there, e)
