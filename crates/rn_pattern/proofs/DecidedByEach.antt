-- Whether something holds of each element, found out one after the other.
use Rattle.std.proofs.Common.{◌≡◌, ℕ, ◌+◌, ◌<◌, ◌≤◌, true, false, List, [], ◌∷◌, ◌++◌, length, get_or, take, refl, sym, ap, ◌∙◌, subst, zero, suc, arith}
use Rattle.std.specs.Prelude.{All, Decides}
use Rattle.std.proofs.lemmas.List.{take_more, take_all}
use Rattle.std.proofs.lemmas.List.Elements.{All-push, All-head, All-tail}
use Rattle.std.proofs.lemmas.Bool.{false≢true}

-- one element more
pub all_more : {X : Type 0} (P : X → Type 0) (xs : List X) (k : ℕ) (x : X) → k < length xs → x ≡ get_or xs k x → All P (take k xs) → P x → All P (take (k + 1) xs)
all_more P xs k x h e a p = subst (All P) (sym (take_more xs k x h ∙ ap (λ z. take k xs ++ z ∷ []) (sym e))) (All-push P (take k xs) x a p)

-- Q says P of each element, by recursion
module _ {X : Type 0} (P : X → Type 0) (Q : List X → Type 0) (none : Q []) (more : (x : X) (xs : List X) → P x → Q xs → Q (x ∷ xs)) (head : (x : X) (xs : List X) → Q (x ∷ xs) → P x) (tail : (x : X) (xs : List X) → Q (x ∷ xs) → Q xs) where
  from_all : (xs : List X) → All P xs → Q xs
  from_all [] a = none
  from_all (x ∷ xs) a = more x xs (All-head P x xs a) (from_all xs (All-tail P x xs a))

  at_each : (xs : List X) (k : ℕ) (d : X) → k < length xs → Q xs → P (get_or xs k d)
  at_each [] k d h q = absurd (omega arith)
  at_each (x ∷ xs) zero d h q = head x xs q
  at_each (x ∷ xs) (suc k) d h q = at_each xs k d (omega arith) (tail x xs q)

  -- it holds of none more, and of all
  pub stops : (xs : List X) (k : ℕ) (x : X) → k < length xs → x ≡ get_or xs k x → ¬ P x → Decides false (Q xs)
  stops xs k x h e n = ((λ f. absurd (false≢true f)), (λ q. absurd (n (subst P (sym e) (at_each xs k x h q)))))

  pub ends : (xs : List X) (k : ℕ) → length xs ≤ k → All P (take k xs) → Decides true (Q xs)
  ends xs k h a = ((λ _. from_all xs (subst (All P) (take_all k xs h) a)), (λ _. refl))
