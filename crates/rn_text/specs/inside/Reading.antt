-- What contracts of single readers of tokens say of the index that they answer, in the crates that read token lists.
use Rattle.std.specs.Prelude.{ℕ, ◌≤◌, IfOk, Result}
use Rattle.rn_text.specs.Reading.{Advanced}

-- from one index to another, or to the same, of so many tokens
pub record Passed (at behind count : ℕ) : Type 0 where
  pub further : at ≤ behind
  pub inside : behind ≤ count

-- a reader that answers a value with the index of what comes next went on by a token or more
abbrev pub GoesOn : {B E : Type 0} → ℕ → ℕ → Result (B × ℕ) E → Type 0
GoesOn at count result = IfOk result (λ r. Advanced at r.1 count)

-- a reader that answers a value with the index of what comes next went on by any number of tokens, or by none
abbrev pub MayGoOn : {B E : Type 0} → ℕ → ℕ → Result (B × ℕ) E → Type 0
MayGoOn at count result = IfOk result (λ r. Passed at r.1 count)

-- a reader that answers only the index of what comes next went on by a token or more
abbrev pub GoesPast : {E : Type 0} → ℕ → ℕ → Result ℕ E → Type 0
GoesPast at count result = IfOk result (λ behind. Advanced at behind count)

-- a reader that answers only the index of what comes next went on by any number of tokens, or by none
abbrev pub MayGoPast : {E : Type 0} → ℕ → ℕ → Result ℕ E → Type 0
MayGoPast at count result = IfOk result (λ behind. Passed at behind count)
