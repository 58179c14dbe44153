-- Numbers and digests by the grammar are those that are written.
use Rattle.std.proofs.Common.{◌≡◌, ℕ, zero, suc, ◌+◌, ◌*◌, ◌/◌, ◌%◌, ◌<◌, ◌^◌, inl, inr, ◌&&◌, Bool, true, cond, nat_lt, nat_eq, List, [], ◌∷◌, length, get_or, decimal, refl, sym, ap, subst, ◌∙◌, arith, eqb-true}
use Rattle.std.specs.Char.{digit_value}
use Rattle.std.specs.Str.Parse.{AllDigits, digits_value, digits_value_after}
use Rattle.std.specs.List.{AllByRecursion}
use Rattle.std.proofs.lemmas.Bool.{cases_lt}
use Rattle.std.proofs.lemmas.Bool.Decides.{nat_tests}
use Rattle.std.proofs.lemmas.Str.{digit_value_digit}
use Rattle.std.proofs.lemmas.Str.Parse.{digit_from_value, numerals_by_value, tells_digits}
use Rattle.std.proofs.lemmas.Fmt.{decimal_is_IsNumeral, decimal-digits_value, decimal_digit, first_decimal}
use Rattle.hex.specs.Hex.{encode_with, lower_digits}
use Rattle.rn_modset.specs.BundleGrammar.{IsDigit, DigitsGoOn, IsNumber, IsHexDigit, SpellsBytes}
use Rattle.rn_modset.proofs.TestAnswers.TruthValues.{first_of_both, second_of_both}

digit_is : (c n : ℕ) → IsDigit c n → digit_value c ≡ n
digit_is c n d = omega (arith, d.0, d.1, digit_value_digit c (omega (arith, d.0, d.1), omega (arith, d.0, d.1)))

is_digit : (c : ℕ) → digit_value c < 10 → IsDigit c (digit_value c)
is_digit c h = (h, omega (arith, digit_value_digit c (digit_from_value c h)))

go_on_are : (high : ℕ) (cs : List ℕ) (n : ℕ) → DigitsGoOn high cs n → AllDigits 10 cs × (digits_value_after 10 high cs ≡ n)
go_on_are high [] n h = (tt, sym h)
go_on_are high (c ∷ cs) n h =
    let value = digit_is c h.0 h.1 in
    let rest = go_on_are (high * 10 + h.0) cs n h.2 in
    ((omega (arith, h.1.0, value), rest.0), ap (λ d. digits_value_after 10 (high * 10 + d) cs) value ∙ rest.1)

go_on_by : (high : ℕ) (cs : List ℕ) (n : ℕ) → AllDigits 10 cs → digits_value_after 10 high cs ≡ n → DigitsGoOn high cs n
go_on_by high [] n a e = sym e
go_on_by high (c ∷ cs) n a e = (digit_value c, is_digit c a.0, go_on_by (high * 10 + digit_value c) cs n a.1 e)

-- what a number's digits are for std
pub record IsPlain (ds : List ℕ) (n : ℕ) : Type 0 where
  pub digits : AllDigits 10 ds
  pub some : 0 < length ds
  pub lead : get_or ds 0 0 ≡ 48 → length ds ≡ 1
  pub value : digits_value 10 ds ≡ n

plain_by : (ds : List ℕ) (n : ℕ) → IsNumber ds n → IsPlain ds n
plain_by [] n h = absurd h
plain_by (c ∷ []) n h = let value = digit_is c n h in record { digits = (omega (arith, h.0, value), tt); some = omega arith; lead = λ _. refl; value = omega (arith, value) }
plain_by (c ∷ d ∷ ds) n h =
    let value = digit_is c h.0 h.1 in
    let rest = go_on_are h.0 (d ∷ ds) n h.3 in
    record {
      digits = (omega (arith, h.1.0, value), rest.0);
      some = omega arith;
      lead = λ e. absurd (omega (arith, e, h.1.1, h.2));
      value = ap (λ k. digits_value_after 10 k (d ∷ ds)) (omega (arith, value)) ∙ rest.1;
    }

number_from : (ds : List ℕ) (n : ℕ) → IsPlain ds n → IsNumber ds n
number_from [] n p = absurd (omega (arith, p.some))
number_from (c ∷ []) n p = subst (IsDigit c) (omega (arith, p.value)) (is_digit c p.digits.0)
number_from (c ∷ d ∷ ds) n p =
    let first = is_digit c p.digits.0 in
    (digit_value c, first, positive c (λ e. absurd (omega (arith, p.lead e))) first, go_on_by (digit_value c) (d ∷ ds) n p.digits.1 (ap (λ k. digits_value_after 10 k (d ∷ ds)) (omega arith) ∙ p.value))
  where
    positive : (c : ℕ) → ((c ≡ 48) → ⊥) → IsDigit c (digit_value c) → 0 < digit_value c
    positive c other d = elim (cases_lt 0 (digit_value c)) [ inl h ↦ h | inr h ↦ absurd (other (omega (arith, d.1))) ]

-- a number has the digits that are written
pub number_is : (ds : List ℕ) (n : ℕ) → IsNumber ds n → n < 2 ^ 64 → ds ≡ decimal n
number_is ds n h small =
    let p = plain_by ds n h in
    sym (decimal-digits_value (numerals_by_value (AllDigits 10) tells_digits) ds p.digits p.some p.lead (omega (arith, p.value))) ∙ ap decimal p.value

lead_by : (n : ℕ) → n < 2 ^ 64 → get_or (decimal n) 0 0 ≡ 48 → length (decimal n) ≡ 1
lead_by zero small e = ap length (decimal_digit 0 (omega arith))
lead_by (suc n) small e = absurd (omega (arith, e, first_decimal (suc n) (omega arith) small))

-- what is written of a number is one
pub number_by : (n : ℕ) → n < 2 ^ 64 → IsNumber (decimal n) n
number_by n small =
    let k = decimal_is_IsNumeral n small in
    number_from (decimal n) n (record { digits = k.0.1; some = k.0.0; lead = lead_by n small; value = k.1 })

abbrev hex_char : ℕ → ℕ
hex_char n = cond (nat_lt n 10) (48 + n) (87 + n)

-- the characters of the numbers from k on
abbrev is_table : List ℕ → ℕ → Bool
is_table [] k = true
is_table (c ∷ cs) k = nat_eq c (hex_char k) && is_table cs (suc k)

table_at : (cs : List ℕ) (k n : ℕ) → is_table cs k ≡ true → n < length cs → get_or cs n 0 ≡ hex_char (k + n)
table_at [] k n t lt = absurd (omega arith)
table_at (c ∷ cs) k zero t lt = eqb-true c (hex_char k) (first_of_both _ _ t) ∙ ap hex_char (omega arith)
table_at (c ∷ cs) k (suc n) t lt = table_at cs (suc k) n (second_of_both (nat_eq c (hex_char k)) _ t) (omega arith) ∙ ap hex_char (omega arith)

lower_at : (n : ℕ) → n < 16 → get_or lower_digits n 0 ≡ hex_char n
lower_at n lt = table_at lower_digits 0 n refl (omega arith) ∙ ap hex_char (omega arith)

char_by : (c n : ℕ) → IsHexDigit c n → c ≡ hex_char n
char_by c n (inl h) = grind (arith, nat_tests, h.0, h.1)
char_by c n (inr h) = grind (arith, nat_tests, h.0, h.1, h.2)

hex_by : (n : ℕ) → n < 16 → IsHexDigit (hex_char n) n
hex_by n lt = elim (cases_lt n 10) [ inl h ↦ inl (h, grind (arith, nat_tests, h)) | inr h ↦ inr (h, lt, grind (arith, nat_tests, h)) ]

below_16 : (c n : ℕ) → IsHexDigit c n → n < 16
below_16 c n (inl h) = omega (arith, h.0)
below_16 c n (inr h) = h.1

digit_at : (c n : ℕ) → IsHexDigit c n → c ≡ get_or lower_digits n 0
digit_at c n h = char_by c n h ∙ sym (lower_at n (below_16 c n h))

-- the digits of bytes are those that are written
pub hex_is : (digits bytes : List ℕ) → SpellsBytes digits bytes → digits ≡ encode_with lower_digits bytes
unfolding encode_with
hex_is [] [] h = refl
hex_is [] (b ∷ bytes) h = absurd h
hex_is (c ∷ []) bytes h = absurd h
hex_is (c ∷ d ∷ digits) [] h = absurd h
hex_is (c ∷ d ∷ digits) (b ∷ bytes) h =
    let high : h.0 ≡ b / 16 = omega (arith, h.4, below_16 d h.1 h.3) in
    let low : h.1 ≡ b % 16 = omega (arith, h.4, below_16 d h.1 h.3) in
    let first = digit_at c h.0 h.2 ∙ ap (λ n. get_or lower_digits n 0) high in
    let second = digit_at d h.1 h.3 ∙ ap (λ n. get_or lower_digits n 0) low in
    let rest = hex_is digits bytes h.5 in
    λ i. first i ∷ second i ∷ rest i

-- what is written of bytes are their digits
pub hex_written : (bytes : List ℕ) → AllByRecursion (λ b. b < 256) bytes → SpellsBytes (encode_with lower_digits bytes) bytes
unfolding encode_with
hex_written [] h = tt
hex_written (b ∷ bytes) h =
    let high : b / 16 < 16 = omega (arith, h.0) in
    let low : b % 16 < 16 = omega arith in
    (b / 16, b % 16, subst (λ c. IsHexDigit c (b / 16)) (sym (lower_at (b / 16) high)) (hex_by (b / 16) high), subst (λ c. IsHexDigit c (b % 16)) (sym (lower_at (b % 16) low)) (hex_by (b % 16) low), omega arith, hex_written bytes h.1)
