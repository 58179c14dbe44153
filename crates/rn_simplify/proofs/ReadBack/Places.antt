-- The place of a text among others.
use Rattle.std.proofs.Common.{◌≡◌, ℕ, suc, ◌+◌, List, [], ◌∷◌, length, map, Some, None, refl, sym, ap, ◌∙◌, cond, nat_lt, true, false, Bool, not, arith}
use Rattle.std.specs.Prelude.{bytes_eq, position}
use Rattle.std.specs.List.{prefix_len}
use Rattle.std.proofs.lemmas.Bool.Decides.{nat_tests}
use Rattle.rn_text.specs.Texts.{Text}
use Rattle.rn_simplify.specs.Spelling.{place}

step_false : (k n q : ℕ) → q ≡ cond (nat_lt k n) (k + 1) n → q + 1 ≡ cond (nat_lt (1 + k) (suc n)) ((1 + k) + 1) (suc n)
step_false k n q e = grind (arith, nat_tests)

step_true : (n : ℕ) → 1 ≡ cond (nat_lt 0 (suc n)) (0 + 1) (suc n)
step_true n = grind (arith, nat_tests)

step : (b : Bool) (k n q : ℕ) → q ≡ cond (nat_lt k n) (k + 1) n → cond b 1 (q + 1) ≡ cond (nat_lt (cond (not b) (1 + k) 0) (suc n)) (cond (not b) (1 + k) 0 + 1) (suc n)
step true k n q e = step_true n
step false k n q e = step_false k n q e

module _ {X : Type 0} (g : X → Text) (u : Text) where
  abbrev before_it : List X → ℕ
  before_it xs = prefix_len (λ x. not (bytes_eq u (g x))) xs

  place_is : (xs : List X) → place u (map g xs) ≡ cond (nat_lt (before_it xs) (length xs)) (before_it xs + 1) (length xs)
  place_is [] = refl
  place_is (x ∷ xs) = step (bytes_eq u (g x)) (before_it xs) (length xs) (place u (map g xs)) (place_is xs)

  found_at : (k n i : ℕ) → cond (nat_lt k n) (Some k) None ≡ Some i → cond (nat_lt k n) (k + 1) n ≡ i + 1
  found_at k n i e = found_by (nat_lt k n) k n i e
    where
      found_by : (b : Bool) (k n i : ℕ) → cond b (Some k) None ≡ Some i → cond b (k + 1) n ≡ i + 1
      found_by true k n i e = let h : k ≡ i = cc in ap (λ m. m + 1) h
      found_by false k n i e = absurd cc

  missing_by : (b : Bool) (k n : ℕ) → cond b (Some k) None ≡ None → cond b (k + 1) n ≡ n
  missing_by true k n e = absurd cc
  missing_by false k n e = refl

  pub place_found : (xs : List X) (i : ℕ) → position (λ x. bytes_eq u (g x)) xs ≡ Some i → i + 1 ≡ place u (map g xs)
  place_found xs i e = sym (place_is xs ∙ found_at (before_it xs) (length xs) i e)

  pub place_missing : (xs : List X) → position (λ x. bytes_eq u (g x)) xs ≡ None → length xs ≡ place u (map g xs)
  place_missing xs e = sym (place_is xs ∙ missing_by (nat_lt (before_it xs) (length xs)) (before_it xs) (length xs) e)
