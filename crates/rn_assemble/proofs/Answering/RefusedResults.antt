-- A result that is this error.
use Rattle.std.proofs.Common.{◌≡◌, sym, subst}
use Rattle.std.specs.Prelude.{IsErrAnd, MatchResult, Result, Ok, Err}

pub refused_at : {A E : Type 0} (P : A → Type 0) (Q : E → Type 0) (r : Result A E) (q : E) → IsErrAnd r (λ e. e ≡ q) → Q q → MatchResult r P Q
refused_at P Q (Ok x) q h k = absurd h
refused_at P Q (Err e) q h k = subst Q (sym h) k
