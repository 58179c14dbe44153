-- Texts that are put together piece by piece.
use Rattle.std.proofs.Common.{◌≡◌, ℕ, List, ◌++◌, ap, ◌∙◌, append_assoc}

regroup : (a b c d e : List ℕ) → (((a ++ b) ++ c) ++ d) ++ e ≡ a ++ (b ++ (c ++ (d ++ e)))
regroup a b c d e = simp append_assoc

-- a text to which four were appended
pub four : (a b c d e t u v w x : List ℕ) → t ≡ a → u ≡ t ++ b → v ≡ u ++ c → w ≡ v ++ d → x ≡ w ++ e → x ≡ a ++ (b ++ (c ++ (d ++ e)))
four a b c d e t u v w x p q r s z =
    z ∙ ap (λ (i : List ℕ). i ++ e) (s ∙ ap (λ (i : List ℕ). i ++ d) (r ∙ ap (λ (i : List ℕ). i ++ c) (q ∙ ap (λ (i : List ℕ). i ++ b) p))) ∙ regroup a b c d e
