-- Hexadecimal digits as a number.
use Rattle.std.proofs.Common.{◌≡◌, ℕ, ◌-◌, ◌<◌, Bool, true, false, List, [], ◌∷◌, ◌++◌, length, take, ◌^◌, refl, sym, ap, ◌∙◌, arith, ⊎_elim, zero, suc, lit<, Some, None}
use Rattle.std.specs.Prelude.{◌==◌, Result, Ok, Err}
use Rattle.std.specs.List.{list_all}
use Rattle.std.specs.Char.{is_ascii_hexdigit, digit_value, OutOfScalarRange}
use Rattle.std.specs.Result.{result_ok}
use Rattle.std.specs.Str.{IsAscii, IsUtf8, chars}
use Rattle.std.specs.Str.Parse.{AllDigits, digits_value, without_leading_plus, ParsesUnsigned}
use Rattle.std.proofs.lemmas.Bool.{and_parts, and_left, and_right, cases_Bool}
use Rattle.std.proofs.lemmas.Bool.Decides.{nat_tests}
use Rattle.std.proofs.lemmas.Str.{encodes-chars, encodes-IsAscii}
use Rattle.rn_text.specs.Characters.{is_xml_char}
use Rattle.rn_text.specs.Segments.{is_empty, after_run, run_of, begins_with, after_brace, escaped_char, after_escape, is_whole_escape}
use Rattle.rn_text.proofs.Words.CharacterRuns.{run_split, front_chars}

-- a hexadecimal digit is no plus sign, and its value is below sixteen
hex_facts : (c : ℕ) → is_ascii_hexdigit c ≡ true → (digit_value c < 16) × (47 < c) × (c < 128)
hex_facts c e = (grind (arith, nat_tests), grind (arith, nat_tests), grind (arith, nat_tests))

hex_digits : (bs : List ℕ) → list_all is_ascii_hexdigit bs ≡ true → AllDigits 16 bs
hex_digits [] e = tt
hex_digits (c ∷ cs) e = let both = and_parts _ _ e in ((hex_facts c both.0).0, hex_digits cs both.1)

no_plus : (bs : List ℕ) → list_all is_ascii_hexdigit bs ≡ true → without_leading_plus bs ≡ bs
no_plus bs h1 = grind (arith, nat_tests, hex_facts)

-- what `from_str_radix` gives for them
pub hex_parsed : {E : Type 0} (bs : List ℕ) (r : Result ℕ E) → list_all is_ascii_hexdigit bs ≡ true → 0 < length bs → ParsesUnsigned 32 16 bs r → digits_value 16 bs < 2 ^ 32 → r ≡ Ok (digits_value 16 bs)
hex_parsed bs r h1 h2 h3 h4 = grind (arith, nat_tests, hex_digits, no_plus)

-- the characters of a run, where they are cut off
pub run_chars : (p : ℕ → Bool) (text rest word : List ℕ) → IsUtf8 text → IsUtf8 rest → IsUtf8 word → chars rest ≡ after_run p (chars text) → word ≡ take (length text - length rest - 0) text → chars word ≡ run_of p (chars text)
run_chars p text rest word t r w e at = front_chars text rest word (run_of p (chars text)) t r w (sym (run_split p (chars text)) ∙ ap (λ l. run_of p (chars text) ++ l) (sym e)) at

-- an escape whose digits number no character isn't whole
pub no_number : (cs digits word : List ℕ) → digits ≡ after_brace cs → word ≡ run_of is_ascii_hexdigit digits → (is_empty word ≡ false → is_xml_char (digits_value 16 word) ≡ false) → is_whole_escape cs ≡ false
no_number cs digits word h1 h2 h3 = grind (arith, nat_tests)

-- nor is one whose digits no brace follows
pub no_end : (cs digits rest : List ℕ) → digits ≡ after_brace cs → rest ≡ after_run is_ascii_hexdigit digits → begins_with (λ d. d == 125) rest ≡ false → is_whole_escape cs ≡ false
no_end cs digits rest d r none = and_left _ _ (and_right _ _ (ap (begins_with (λ e. e == 125)) (ap (after_run is_ascii_hexdigit) (sym d) ∙ sym r) ∙ none))

-- a whole escape, its character, and what follows it
pub whole_escape : (cs digits word rest after : List ℕ) (c : ℕ) → digits ≡ after_brace cs → word ≡ run_of is_ascii_hexdigit digits → rest ≡ after_run is_ascii_hexdigit digits → rest ≡ 125 ∷ after
    → is_empty word ≡ false → is_xml_char c ≡ true → c ≡ digits_value 16 word → (is_whole_escape cs ≡ true) × (c ≡ escaped_char cs) × (after ≡ after_escape cs)
whole_escape cs digits word rest after c h1 h2 h3 h4 h5 h6 h7 = grind (arith, nat_tests)

-- a character of XML is a scalar value
pub xml_small : (c : ℕ) → is_xml_char c ≡ true → c < 2 ^ 32
unfolding is_xml_char
xml_small c e = grind (arith, nat_tests)

pub xml_scalar : (c : ℕ) → is_xml_char c ≡ true → OutOfScalarRange c → ⊥
unfolding is_xml_char
xml_scalar c e out = grind (arith, nat_tests)

-- hexadecimal digits are their own bytes
pub hex_bytes : (bs : List ℕ) → IsUtf8 bs → list_all is_ascii_hexdigit (chars bs) ≡ true → chars bs ≡ bs
hex_bytes bs u all = sym (encodes-IsAscii (chars bs) (small (chars bs) all)) ∙ encodes-chars bs u
  where
    small : (cs : List ℕ) → list_all is_ascii_hexdigit cs ≡ true → IsAscii cs
    small [] e i = lit< tt
    small (c ∷ cs) e zero = (hex_facts c (and_parts _ _ e).0).2
    small (c ∷ cs) e (suc i) = small cs (and_parts _ _ e).1 i

-- digits that aren't read number no character of XML
pub not_read : {E : Type 0} (bs : List ℕ) (r : Result ℕ E) → IsUtf8 bs → list_all is_ascii_hexdigit (chars bs) ≡ true → ParsesUnsigned 32 16 bs r → result_ok r ≡ None → is_empty (chars bs) ≡ false
    → is_xml_char (digits_value 16 (chars bs)) ≡ false
not_read bs r h1 h2 h3 h4 h5 = grind (arith, nat_tests, hex_bytes, hex_parsed, xml_small)

-- the number that is read
pub read_number : {E : Type 0} (bs : List ℕ) (r : Result ℕ E) (n : ℕ) → IsUtf8 bs → list_all is_ascii_hexdigit (chars bs) ≡ true → ParsesUnsigned 32 16 bs r → result_ok r ≡ Some n
    → (is_empty (chars bs) ≡ false) × (n ≡ digits_value 16 (chars bs))
read_number bs (Ok m) n u all parses is = (some (chars bs) refl, same_number ∙ parses.1 ∙ ap (digits_value 16) (no_plus bs bytes_all ∙ sym same))
  where
    same : chars bs ≡ bs
    same = hex_bytes bs u all

    bytes_all : list_all is_ascii_hexdigit bs ≡ true
    bytes_all = ap (list_all is_ascii_hexdigit) (sym same) ∙ all

    same_number : n ≡ m
    same_number = cc

    some : (l : List ℕ) → chars bs ≡ l → is_empty l ≡ false
    some [] e = absurd (omega (arith, ap length (no_plus bs bytes_all), ap length (sym same ∙ e), parses.0.0.0))
    some (x ∷ xs) e = refl
read_number bs (Err e) n u all parses is = let h : None ≡ Some n = is in cc

pub no_scalar : (n : ℕ) → OutOfScalarRange n → is_xml_char n ≡ false
no_scalar n out = ⊎_elim (λ xml. absurd (xml_scalar n xml out)) (λ no. no) (cases_Bool (is_xml_char n))
