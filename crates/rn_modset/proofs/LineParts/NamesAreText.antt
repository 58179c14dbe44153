-- Names of modules are text.
use Rattle.std.proofs.Common.{◌≡◌, ℕ, zero, suc, ◌<◌, true, false, List, [], ◌∷◌, arith}
use Rattle.std.specs.List.{list_all}
use Rattle.std.specs.Str.{IsAscii, IsUtf8}
use Rattle.std.proofs.lemmas.Str.{IsUtf8-from_ascii}
use Rattle.std.proofs.lemmas.Bool.Decides.{nat_tests}
use Rattle.rn_modset.specs.Contributions.{is_name_byte, is_module_name}
use Rattle.std.proofs.lemmas.Bool.{false_from_ne_true}
use Rattle.rn_modset.proofs.TestAnswers.TruthValues.{first_of_both, second_of_both}

name_byte_small : (c : ℕ) → is_name_byte c ≡ true → c < 128
name_byte_small c h = grind (arith, nat_tests, h)

names_are_ascii : (bytes : List ℕ) → list_all is_name_byte bytes ≡ true → IsAscii bytes
names_are_ascii [] h i = omega arith
names_are_ascii (b ∷ bytes) h zero = name_byte_small b (first_of_both (is_name_byte b) _ h)
names_are_ascii (b ∷ bytes) h (suc i) = names_are_ascii bytes (second_of_both (is_name_byte b) _ h) i

-- what is no text is no name
pub no_module_name : (bytes : List ℕ) → ¬ (IsUtf8 bytes) → is_module_name bytes ≡ false
no_module_name bytes h = false_from_ne_true (is_module_name bytes) (λ e. h (IsUtf8-from_ascii bytes (names_are_ascii bytes (second_of_both _ _ e))))
