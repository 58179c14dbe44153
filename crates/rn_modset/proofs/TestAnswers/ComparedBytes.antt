-- Texts compared byte by byte, and their emptiness.
use Rattle.std.proofs.Common.{◌≡◌, ◌≢◌, ℕ, Bool, true, false, not, ◌==◌, List, [], length, refl, sym, ap, ◌∙◌, nat_eq, eqb-true}
use Rattle.std.proofs.lemmas.List.{nil_from_length}
use lib.Pointwise.{pointwise}
use Rattle.std.specs.Cmp.Lexicographic.{same_text}
use Rattle.std.proofs.lemmas.Cmp.{nat_list_eq_equiv}
use Rattle.rn_modset.proofs.TestAnswers.TruthValues.{not_both}

-- texts whose comparison answers no differ
pub other_text : (x y : List ℕ) → false ≡ pointwise nat_eq x y → x ≢ y
other_text x y h e = let k : false ≡ true = h ∙ ap (λ z. pointwise nat_eq z y) e ∙ nat_list_eq_equiv.refl y in cc

-- texts whose comparison answers no
pub other_by_not : (x y : List ℕ) → true ≡ not (pointwise nat_eq x y) → x ≢ y
other_by_not x y h e = not_both (pointwise nat_eq x y) (sym h) (ap (λ z. pointwise nat_eq z y) e ∙ nat_list_eq_equiv.refl y)

-- texts whose comparison answers that they don't differ
pub same_by_not : (x y : List ℕ) → false ≡ not (pointwise nat_eq x y) → x ≡ y
same_by_not x y h = same_text x y (by (pointwise nat_eq x y) h)
  where
    by : (b : Bool) → false ≡ not b → true ≡ b
    by true e = refl
    by false e = cc

-- a text whose length was compared with 0
pub some_bytes : (xs : List ℕ) (b : Bool) → b ≡ (length xs == 0) → b ≡ false → xs ≢ []
some_bytes xs b e f h = let k : b ≡ true = e ∙ ap (λ (ys : List ℕ). length ys == 0) h in cc

pub no_bytes : (xs : List ℕ) (b : Bool) → b ≡ (length xs == 0) → b ≡ true → xs ≡ []
no_bytes xs b e h = nil_from_length xs (eqb-true (length xs) 0 (sym e ∙ h))
