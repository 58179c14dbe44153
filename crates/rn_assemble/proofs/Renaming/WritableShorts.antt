-- Short texts can be written where their URIs can.
use Rattle.std.proofs.Common.{◌≡◌, ℕ, ◌+◌, ◌<◌, ◌/◌, ◌%◌, Bool, true, cond, List, [], ◌∷◌, ◌++◌, ltb, refl, arith}
use Rattle.std.specs.Prelude.{bytes_eq, slice_index}
use Rattle.std.specs.Int.{w64, to_be_bytes}
use Rattle.std.specs.List.{list_all}
use Rattle.std.specs.Ordering.{is_le}
use Rattle.std.proofs.lemmas.Bool.{and_from, cond_both}
use Rattle.std.proofs.lemmas.List.Elements.{All-get_or}
use Rattle.std.proofs.lemmas.List.Sums.{AllPass-from_list_all}
use Rattle.hex.specs.Hex.{encode_with, lower_digits}
use Rattle.rn_text.specs.Characters.{is_xml_char}
use Rattle.rn_text.specs.Texts.{Text, text_cmp}
use Rattle.rn_pattern.specs.NameRules.{declarations}
use Rattle.rn_syntax.specs.Places.{xml_uri, xsd_uri}
use Rattle.rn_assemble.specs.ShortTexts.{CanBeWritten, digits_of, front_of, short_list, short_text_of}
use Rattle.rn_assemble.specs.WritableTexts.{IsXml}
use Rattle.rn_assemble.proofs.Renaming.NumberDigits.{AreBytes, are_bytes}
use Rattle.rn_assemble.proofs.WellFormed.GoodPatterns.{ascii_xml, xml_namespace, xsd_library}
use Rattle.rn_assemble.proofs.WellFormed.Terminals.{xml_append, xml_nothing}

-- what is true of each digit is true of all of a number
digit_passes : (p : ℕ → Bool) → list_all p lower_digits ≡ true → (d : ℕ) → d < 16 → p (slice_index lower_digits d) ≡ true
digit_passes p h d l = All-get_or (λ x. p x ≡ true) lower_digits d 0 l (AllPass-from_list_all p lower_digits h)

digits_pass : (p : ℕ → Bool) → list_all p lower_digits ≡ true → (bs : List ℕ) → AreBytes bs → list_all p (encode_with lower_digits bs) ≡ true
unfolding encode_with
digits_pass p h [] a = refl
digits_pass p h (b ∷ bs) a =
    and_from (p (slice_index lower_digits (b / 16))) _ (digit_passes p h (b / 16) (omega (arith, a.0)))
    (and_from (p (slice_index lower_digits (b % 16))) _ (digit_passes p h (b % 16) (omega arith)) (digits_pass p h bs a.1))

digits_xml : (n : ℕ) → IsXml (digits_of n)
unfolding is_xml_char
digits_xml n =
    let bs = to_be_bytes w64 n in
    ascii_xml (digits_of n) (digits_pass is_xml_char refl bs (are_bytes n)) (digits_pass (λ c. ltb c 128) refl bs (are_bytes n))

declarations_xml : IsXml declarations
unfolding is_xml_char
declarations_xml = ascii_xml declarations refl refl

front_xml : (u : Text) → IsXml (front_of u)
front_xml u =
    let declares = is_le (text_cmp declarations u) in
    let xsd = is_le (text_cmp xsd_uri u) in
    cond_both (is_le (text_cmp xml_uri u)) xml_uri (cond xsd xsd_uri (cond declares declarations [])) IsXml (λ _. xml_namespace)
    (λ _. cond_both xsd xsd_uri (cond declares declarations []) IsXml (λ _. xsd_library)
    (λ _. cond_both declares declarations [] IsXml (λ _. declarations_xml) (λ _. xml_nothing)))

short_xml : (n : ℕ) (u : Text) → IsXml u → IsXml (short_text_of n u)
short_xml n u h =
    cond_both (bytes_eq u (front_of u)) u (front_of u ++ digits_of n) IsXml
    (λ _. h) (λ _. xml_append (front_of u) (digits_of n) (front_xml u) (digits_xml n))

pub list_writable : (n : ℕ) (us : List Text) → CanBeWritten (short_list n us)
list_writable n [] = tt
list_writable n (u ∷ us) = (short_xml n u, list_writable (n + 1) us)
