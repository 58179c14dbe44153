-- Rows of a table by their index.
use Rattle.std.proofs.Common.{◌≡◌, ℕ, zero, suc, ◌+◌, ◌-◌, ◌<◌, ◌≤◌, ◌≢◌, List, [], ◌∷◌, ◌++◌, length, set, take, drop, refl, sym, ap, ◌∙◌, subst, arith, ⊎_elim, inl, inr, length-append, true, Some, None}
use Rattle.std.specs.Prelude.{◌⊎◌, Option, IfSome, All, slice_get, map, ◌&&◌, nat_le}
use Rattle.std.proofs.lemmas.Option.{none-some, slice_get_within, get_or_from_slice_get}
use Rattle.std.proofs.lemmas.Bool.{cond-true}
use Rattle.std.proofs.lemmas.Bool.Decides.{nat_tests}
use Rattle.std.proofs.lemmas.List.{take-append-le, drop-append-le, length-drop, drop_at, take_all}
use Rattle.std.proofs.lemmas.List.Elements.{All-drop, All-take}
use Rattle.rn_xml.specs.TableRows.{rows_of}
use Rattle.rn_xml.specs.declared.document.Rows.{Rows}

module _ {X : Type 0} where
  pub got_left : (xs ys : List X) (k : ℕ) (x : X) → slice_get xs k ≡ Some x → slice_get (xs ++ ys) k ≡ Some x
  got_left [] ys k x h = absurd (none-some x h)
  got_left (y ∷ xs) ys zero x h = h
  got_left (y ∷ xs) ys (suc k) x h = got_left xs ys k x h

  pub got_last : (xs : List X) (y : X) → slice_get (xs ++ y ∷ []) (length xs) ≡ Some y
  got_last [] y = refl
  got_last (x ∷ xs) y = got_last xs y

  -- a row of a longer table is one of the table or the last
  pub got_cases : (xs : List X) (y : X) (k : ℕ) (x : X) → slice_get (xs ++ y ∷ []) k ≡ Some x → (slice_get xs k ≡ Some x) ⊎ ((k ≡ length xs) × (y ≡ x))
  got_cases [] y zero x h = inr (refl, cc)
  got_cases [] y (suc k) x h = absurd (none-some x h)
  got_cases (z ∷ xs) y zero x h = inl h
  got_cases (z ∷ xs) y (suc k) x h = ⊎_elim (λ old. inl old) (λ new. inr (ap suc new.0, new.1)) (got_cases xs y k x h)

  pub got_all : (P : X → Type 0) (xs : List X) (k : ℕ) (x : X) → All P xs → slice_get xs k ≡ Some x → P x
  got_all P xs k x all h = subst P (get_or_from_slice_get xs k x x h) (all k x (slice_get_within xs k x h))

  pub if_some : (P : X → Type 0) (o : Option X) → ((x : X) → o ≡ Some x → P x) → IfSome o P
  if_some P None f = tt
  if_some P (Some x) f = f x refl

  pub from_some : (P : X → Type 0) (o : Option X) (x : X) → o ≡ Some x → IfSome o P → P x
  from_some P None x e h = absurd (none-some x e)
  from_some P (Some y) x e h = let same : y ≡ x = cc in subst P same h

  -- what holds of the row there holds in a longer table, if it holds of each new row
  pub got_more : (P : X → Type 0) (xs ys : List X) (k : ℕ) → ((i : ℕ) (x : X) → slice_get ys i ≡ Some x → P x) → IfSome (slice_get xs k) P → IfSome (slice_get (xs ++ ys) k) P
  got_more P [] ys k new h = if_some P (slice_get ys k) (new k)
  got_more P (x ∷ xs) ys zero new h = h
  got_more P (x ∷ xs) ys (suc k) new h = got_more P xs ys k new h

  pub set_same : (xs : List X) (i : ℕ) (x y : X) → slice_get xs i ≡ Some x → slice_get (set xs i y) i ≡ Some y
  set_same [] i x y h = absurd (none-some x h)
  set_same (z ∷ xs) zero x y h = refl
  set_same (z ∷ xs) (suc i) x y h = set_same xs i x y h

  pub set_other : (xs : List X) (i k : ℕ) (y : X) → k ≢ i → slice_get (set xs i y) k ≡ slice_get xs k
  set_other [] i k y other = refl
  set_other (z ∷ xs) zero zero y other = absurd (other refl)
  set_other (z ∷ xs) zero (suc k) y other = refl
  set_other (z ∷ xs) (suc i) zero y other = refl
  set_other (z ∷ xs) (suc i) (suc k) y other = set_other xs i k y (λ e. other (ap suc e))

  -- where a row is written that has the same place, what is there is there still
  pub set_keeps : (P : X → Type 0) (xs : List X) (i k : ℕ) (x y : X) → slice_get xs i ≡ Some x → (P x → P y) → IfSome (slice_get xs k) P → IfSome (slice_get (set xs i y) k) P
  set_keeps P [] i k x y h same p = p
  set_keeps P (z ∷ xs) zero zero x y h same p = same (let is : z ≡ x = cc in subst P is p)
  set_keeps P (z ∷ xs) zero (suc k) x y h same p = p
  set_keeps P (z ∷ xs) (suc i) zero x y h same p = p
  set_keeps P (z ∷ xs) (suc i) (suc k) x y h same p = set_keeps P xs i k x y h same p

  pub rows_are : (r : Rows) (xs : List X) → r.from ≤ r.to → r.to ≤ length xs → rows_of r xs ≡ take (r.to - r.from) (drop r.from xs)
  rows_are r xs ordered within =
      let both : nat_le r.from r.to && nat_le r.to (length xs) ≡ true = grind (arith, nat_tests) in
      cond-true (nat_le r.from r.to && nat_le r.to (length xs)) (take (r.to - r.from) (drop r.from xs)) [] both

  -- rows of a table are those of a longer one
  pub rows_grow_longer : (r : Rows) (xs ys : List X) → r.from ≤ r.to → r.to ≤ length xs → rows_of r (xs ++ ys) ≡ rows_of r xs
  rows_grow_longer r xs ys ordered within =
      let longer : r.to ≤ length (xs ++ ys) = omega (arith, length-append xs ys) in
      let start : r.from ≤ length xs = omega arith in
      let fits : r.to - r.from ≤ length (drop r.from xs) = omega (arith, length-drop r.from xs) in
      rows_are r (xs ++ ys) ordered longer ∙ ap (take (r.to - r.from)) (drop-append-le r.from xs ys start)
      ∙ take-append-le (r.to - r.from) (drop r.from xs) ys fits ∙ sym (rows_are r xs ordered within)

  pub rows_all : (P : X → Type 0) (r : Rows) (xs : List X) → r.from ≤ r.to → r.to ≤ length xs → All P xs → All P (rows_of r xs)
  rows_all P r xs ordered within all = subst (All P) (sym (rows_are r xs ordered within)) (All-take P (r.to - r.from) (drop r.from xs) (All-drop P r.from xs all))

  pub map_same : {Y : Type 0} (P : X → Type 0) (f g : X → Y) (xs : List X) → ((x : X) → P x → f x ≡ g x) → All P xs → map f xs ≡ map g xs
  map_same P f g [] same all = refl
  map_same P f g (x ∷ xs) same all =
      let here : f x ≡ g x = same x (all 0 x (omega arith)) in
      let rest : map f xs ≡ map g xs = map_same P f g xs same (λ k d h. all (suc k) d (omega arith)) in
      ap (λ y. y ∷ map f xs) here ∙ ap (λ ys. g x ∷ ys) rest

  pub got_within : (xs ys : List X) (k : ℕ) → k < length xs → slice_get (xs ++ ys) k ≡ slice_get xs k
  got_within [] ys k h = absurd (omega arith)
  got_within (x ∷ xs) ys zero h = refl
  got_within (x ∷ xs) ys (suc k) h = got_within xs ys k (omega arith)

  -- the rows that come behind
  pub rows_behind : (r : Rows) (xs ys : List X) → r.from ≡ length xs → r.to ≡ length (xs ++ ys) → rows_of r (xs ++ ys) ≡ ys
  rows_behind r xs ys start stop =
      let more : length (xs ++ ys) ≡ length xs + length ys = length-append xs ys in
      let behind : drop r.from (xs ++ ys) ≡ ys = ap (λ n. drop n (xs ++ ys)) start ∙ drop_at xs ys (length xs) refl in
      rows_are r (xs ++ ys) (omega arith) (omega arith) ∙ ap (take (r.to - r.from)) behind ∙ take_all (r.to - r.from) ys (omega arith)
