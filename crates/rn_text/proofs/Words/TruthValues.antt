-- Answers of tests.
use Rattle.std.proofs.lemmas.Bool.Decides.{nat_tests}
use Rattle.std.proofs.Common.{◌≡◌, Bool, true, false, sym, ◌∙◌, arith}

pub true_is_false : (b : Bool) → b ≡ true → b ≡ false → ⊥
true_is_false b t f = let h : true ≡ false = sym t ∙ f in cc

-- two tests that hold together are one
pub same_test : (a b : Bool) → (a ≡ true → b ≡ true) → (b ≡ true → a ≡ true) → a ≡ b
same_test a b h1 h2 = grind (arith, nat_tests)
