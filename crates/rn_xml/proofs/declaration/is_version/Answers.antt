use Rattle.std.proofs.Common.{◌≡◌, ℕ, List, refl, sym, subst, arith, length, false, true, get_or}
use Rattle.std.specs.Prelude.{◌==◌, EachIndex}
use Rattle.std.specs.Char.{is_ascii_digit}
use Rattle.std.proofs.lemmas.Bool.{false≢true}
use Rattle.std.proofs.lemmas.Bool.Decides.{nat_tests}
use Rattle.rn_xml.proofs.Decoding.DeclarationVersions.{version_read, version_is, version_absent}
use Rattle.rn_xml.specs.inside.Rests.{source}
use Rattle.rn_xml.proofs.declaration.is_version.Goals as goal

AreDigits : List ℕ → Type 0
AreDigits bs = EachIndex bs (λ k. is_ascii_digit (get_or bs k 0) ≡ true)

some : (n : ℕ) → (n == 0) ≡ false → ¬ (n ≡ 0)
some n e z = grind (arith, nat_tests)

none : (n : ℕ) → (n == 0) ≡ true → n ≡ 0
none n e = grind (arith, nat_tests)

pub returns-then-not-is_empty : goal.returns-then-not-is_empty
unfolding AreDigits
returns-then-not-is_empty c =
    let e : length c.in-Some.digits.now == 0 ≡ false = grind arith in (
      (λ yes. version_read c.args.text.now c.in-Some.digits.now c.in-Some.ensures.cases (some (length c.in-Some.digits.now) e)
          (subst AreDigits c.as_bytes.ensures.value (c.are_digits.ensures.0 yes))),
      (λ v. c.are_digits.ensures.1 (subst AreDigits (sym c.as_bytes.ensures.value) (version_is (source c.args.text.now) c.args.text.now c.in-Some.digits.now c.in-Some.ensures.utf8 c.in-Some.ensures.cases refl v).1)),
    )

pub returns-else-not-is_empty : goal.returns-else-not-is_empty
returns-else-not-is_empty c =
    let e : length c.in-Some.digits.now == 0 ≡ true = grind arith in (
      (λ no. absurd (grind arith)),
      (λ v. absurd ((version_is (source c.args.text.now) c.args.text.now c.in-Some.digits.now c.in-Some.ensures.utf8 c.in-Some.ensures.cases refl v).0 (none (length c.in-Some.digits.now) e))),
    )

pub returns-in-None : goal.returns-in-None
returns-in-None c = ((λ n. absurd (false≢true n)), (λ v. absurd (version_absent (source c.args.text.now) c.args.text.now c.in-None.ensures.cases refl v)))
