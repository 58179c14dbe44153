-- Names with no backslash in front.
use Rattle.std.proofs.Common.{◌≡◌, ℕ, Bool, true, false, List, [], ◌∷◌, ◌==◌, if◌then◌else◌, ◌≢◌, ◌⊎◌, inl, inr, refl, sym, ap}
use Rattle.std.proofs.lemmas.Bool.Decides.{eqb_tells}
use Rattle.rn_outline.specs.TokenNames.{unquoted_name}

kept : (b : ℕ) (bs : List ℕ) → ((rest : List ℕ) → b ∷ bs ≡ 92 ∷ rest → ⊥) → (((b == 92) ≡ true) × (b ≡ 92)) ⊎ (((b == 92) ≡ false) × (b ≢ 92)) → b ∷ bs ≡ unquoted_name (b ∷ bs)
kept b bs f (inl (t, e)) = absurd (f bs (ap (λ (x : ℕ). x ∷ bs) e))
kept b bs f (inr (t, e)) = sym (ap (λ (q : Bool). if q then bs else (b ∷ bs)) t)

-- without a backslash in front a name is as it is
pub unquoted_none : (bs : List ℕ) → ((rest : List ℕ) → bs ≡ 92 ∷ rest → ⊥) → bs ≡ unquoted_name bs
unquoted_none [] f = refl
unquoted_none (b ∷ bs) f = kept b bs f (eqb_tells b 92)
