-- Members of a list that a test keeps, and of a part of a list.
use Rattle.std.proofs.Common.{◌≡◌, ℕ, ◌+◌, ◌-◌, ◌<◌, zero, suc, inl, inr, Bool, true, false, cond, List, [], ◌∷◌, filter, take, drop, slice_range, Some, refl, sym, ap, ◌∙◌, subst, arith, Contains}
use Rattle.std.specs.Prelude.{slice_get}
use Rattle.std.proofs.lemmas.List.{take-append-drop}
use Rattle.std.proofs.lemmas.List.Elements.{Contains-append_left, Contains-append_right}
use Rattle.rn_pattern.proofs.Ordered.InOrder.{contains_behind, contains_cases, contains_front}

-- ---- what a test keeps

module _ {X : Type 0} (p : X → Bool) where
  contained_at : (b : Bool) (x y : X) (xs ys : List X) → Contains (cond b (x ∷ ys) ys) y → (Contains ys y → Contains xs y) → Contains (x ∷ xs) y
  contained_at true x y xs ys c f = elim (contains_cases x y ys c) [ inl e ↦ subst (λ z. Contains (x ∷ xs) z) e (contains_front x xs) | inr k ↦ contains_behind x y xs (f k) ]
  contained_at false x y xs ys c f = contains_behind x y xs (f c)

  pub kept_contained : (xs : List X) (y : X) → Contains (filter p xs) y → Contains xs y
  kept_contained [] y c = c
  kept_contained (x ∷ xs) y c = contained_at (p x) x y xs (filter p xs) c (kept_contained xs y)

  passes_at : (b : Bool) (x y : X) (ys : List X) → p x ≡ b → Contains (cond b (x ∷ ys) ys) y → (Contains ys y → p y ≡ true) → p y ≡ true
  passes_at true x y ys t c f = elim (contains_cases x y ys c) [ inl e ↦ sym (ap p e) ∙ t | inr k ↦ f k ]
  passes_at false x y ys t c f = f c

  pub kept_passes : (xs : List X) (y : X) → Contains (filter p xs) y → p y ≡ true
  kept_passes [] y c = absurd (omega (arith, c.1))
  kept_passes (x ∷ xs) y c = passes_at (p x) x y (filter p xs) refl c (kept_passes xs y)

  there_front : (b : Bool) (x : X) (ys : List X) → b ≡ true → Contains (cond b (x ∷ ys) ys) x
  there_front true x ys t = contains_front x ys
  there_front false x ys t = let wrong : false ≡ true = t in cc

  there_behind : (b : Bool) (x y : X) (ys : List X) → Contains ys y → Contains (cond b (x ∷ ys) ys) y
  there_behind true x y ys c = contains_behind x y ys c
  there_behind false x y ys c = c

  pub kept_there : (xs : List X) (y : X) → Contains xs y → p y ≡ true → Contains (filter p xs) y
  kept_there [] y c t = c
  kept_there (x ∷ xs) y c t = elim (contains_cases x y xs c) [
    | inl e ↦ subst (λ z. Contains (cond (p x) (x ∷ filter p xs) (filter p xs)) z) e (there_front (p x) x (filter p xs) (ap p e ∙ t))
    | inr k ↦ there_behind (p x) x y (filter p xs) (kept_there xs y k t)
  ]

-- ---- parts of a list

module _ {X : Type 0} where
  in_take : (n : ℕ) (xs : List X) (y : X) → Contains (take n xs) y → Contains xs y
  in_take n xs y c = subst (λ l. Contains l y) (take-append-drop n xs) (Contains-append_left (take n xs) (drop n xs) y c)

  in_drop : (n : ℕ) (xs : List X) (y : X) → Contains (drop n xs) y → Contains xs y
  in_drop n xs y c = subst (λ l. Contains l y) (take-append-drop n xs) (Contains-append_right (take n xs) (drop n xs) y c)

  pub in_range : (xs : List X) (from to : ℕ) (y : X) → Contains (slice_range xs from to) y → Contains xs y
  in_range xs from to y c = in_drop from xs y (in_take (to - from) (drop from xs) y c)

  drop_get : (n : ℕ) (xs : List X) (j : ℕ) → slice_get (drop n xs) j ≡ slice_get xs (n + j)
  drop_get zero xs j = ap (slice_get xs) (let e : j ≡ 0 + j = omega arith in e)
  drop_get (suc n) [] j = refl
  drop_get (suc n) (x ∷ xs) j = drop_get n xs j ∙ ap (slice_get (x ∷ xs)) (let e : suc (n + j) ≡ suc n + j = omega arith in e)

  take_get : (n : ℕ) (xs : List X) (j : ℕ) → j < n → slice_get (take n xs) j ≡ slice_get xs j
  take_get zero xs j l = absurd (omega (arith, l))
  take_get (suc n) [] j l = refl
  take_get (suc n) (x ∷ xs) zero l = refl
  take_get (suc n) (x ∷ xs) (suc j) l = take_get n xs j (omega (arith, l))

  take_within : (n : ℕ) (xs : List X) (j : ℕ) (y : X) → slice_get (take n xs) j ≡ Some y → j < n
  take_within zero xs j y e = cc
  take_within (suc n) [] j y e = cc
  take_within (suc n) (x ∷ xs) zero y e = omega arith
  take_within (suc n) (x ∷ xs) (suc j) y e = let l = take_within n xs j y e in omega (arith, l)

  -- an element of a part, by its place in the list
  pub range_within : (xs : List X) (from to j : ℕ) (y : X) → slice_get (slice_range xs from to) j ≡ Some y → from + j < to
  range_within xs from to j y e = let l = take_within (to - from) (drop from xs) j y e in omega (arith, l)

  pub range_get : (xs : List X) (from to j : ℕ) → from + j < to → slice_get (slice_range xs from to) j ≡ slice_get xs (from + j)
  range_get xs from to j l = take_get (to - from) (drop from xs) j (omega (arith, l)) ∙ drop_get from xs j
