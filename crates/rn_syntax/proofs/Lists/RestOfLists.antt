-- What is left of a list from an index on.
use Rattle.std.proofs.Common.{◌≡◌, ℕ, ◌+◌, ◌<◌, List, [], ◌∷◌, length, get_or, drop, ap, sym, ◌∙◌, zero, suc, arith}

-- the element at an index, and what follows it
pub drop_next : {A : Type 0} (xs : List A) (i : ℕ) (x : A) → i < length xs → x ≡ get_or xs i x → drop i xs ≡ x ∷ drop (i + 1) xs
drop_next [] i x h e = absurd (omega arith)
drop_next (y ∷ xs) zero x h e = ap (λ z. z ∷ xs) (sym e)
drop_next (y ∷ xs) (suc i) x h e = let k : suc (i + 1) ≡ suc i + 1 = omega arith in drop_next xs i x (omega arith) e ∙ ap (λ n. x ∷ drop n (y ∷ xs)) k
