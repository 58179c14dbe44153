-- Refusals of references.
use Rattle.std.proofs.Common.{◌≡◌, ℕ, suc, ◌-◌, List, [], get_or, arith}
use Rattle.rn_text.specs.Texts.{Text}
use Rattle.rn_assemble.specs.inside.Keyed.{IsNameNumber}
use Rattle.rn_assemble.proofs.Referring.KeyNumbers.{name_at}

-- the name of a number
pub name_there : (names : List Text) (x : Text) (n : ℕ) → IsNameNumber names x n → get_or names (n - 1) [] ≡ x
name_there names x n h = let e : n ≡ suc (n - 1) = omega (arith, h.above) in name_at names x n (n - 1) h e
