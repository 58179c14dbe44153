-- Texts in the encoding that they declare.
use Rattle.std.specs.Cmp.Derive.{both_true}
use Rattle.std.proofs.Common.{◌≡◌, ℕ, Bool, true, false, List, [], ◌∷◌, refl, sym, ap, ◌∙◌, subst, arith, map}
use Rattle.std.specs.Char.{is_ascii, is_ascii_alphabetic, is_ascii_digit, to_ascii_lowercase}
use Rattle.std.specs.List.{list_all}
use Rattle.std.specs.Str.{chars}
use Rattle.std.proofs.lemmas.Bool.{and_parts, false≢true}
use Rattle.std.proofs.lemmas.Bool.Decides.{nat_tests}
use Rattle.std.proofs.Common.{rules}
use Rattle.rn_xml.specs.XmlCharacters.{lines_of}
use Rattle.rn_xml.specs.XmlDocuments.{IsEncName, IsVersionNum, is_encoding_char}
use Rattle.rn_xml.specs.XmlDocuments as d
use Rattle.rn_xml.specs.Encodings.{IsCalled, encoding_name}
use Rattle.rn_xml.specs.inside.Pieces.{is_inner}
use Rattle.rn_xml.specs.declared.xml_fault.Encoding.{Encoding}
use Rattle.rn_xml.specs.declared.xml_fault.Encoding.TheVariants.{Utf8, Utf16, Latin1, Ascii}
use denote.Enum.Bare.{sameb}
use mathlib.Core.Bool.{beq}
use Rattle.rn_xml.specs.contracts.xml_fault.Encoding.{the_type}
use Rattle.rn_xml.proofs.Decoding.DeclarationParts.{encoding_ascii, encoding_inner, letter_plain, plain_word}
use Rattle.rn_xml.proofs.Decoding.DeclarationVersions.{digit_ascii}
use Rattle.rn_xml.proofs.Numbers.{all_pass_too}

-- a letter in either case may stand in the name of an encoding
other_case : (c k : ℕ) → to_ascii_lowercase c ≡ k → is_encoding_char k ≡ true → is_encoding_char c ≡ true
other_case c k e h = grind (arith, nat_tests)

letter_case : (c k : ℕ) → to_ascii_lowercase c ≡ k → is_ascii_alphabetic k ≡ true → is_ascii_alphabetic c ≡ true
letter_case c k e h = grind (arith, nat_tests)

encoding_chars : (cs ks : List ℕ) → map to_ascii_lowercase cs ≡ ks → list_all is_encoding_char ks ≡ true → list_all is_encoding_char cs ≡ true
encoding_chars [] ks e h = refl
encoding_chars (c ∷ cs) [] e h = cc
encoding_chars (c ∷ cs) (k ∷ ks) e h =
    both_true (other_case c k (cc) (and_parts _ _ h).0) (encoding_chars cs ks (cc) (and_parts _ _ h).1)

name_of_case : (cs ks : List ℕ) → map to_ascii_lowercase cs ≡ ks → IsEncName ks → IsEncName cs
name_of_case [] ks e h = nothing ks e h
  where
    nothing : (ks : List ℕ) → [] ≡ ks → IsEncName ks → IsEncName []
    nothing [] e h = h
    nothing (k ∷ ks) e h = cc
name_of_case (c ∷ cs) [] e h = cc
name_of_case (c ∷ cs) (k ∷ ks) e (d.IsEncName.name first all) = d.IsEncName.name (letter_case c k (cc) first) (encoding_chars cs ks (cc) all)

lower_name : (encoding : Encoding) → IsEncName (map to_ascii_lowercase (encoding_name encoding))
lower_name Utf8 = d.IsEncName.name refl refl
lower_name Utf16 = d.IsEncName.name refl refl
lower_name Latin1 = d.IsEncName.name refl refl
lower_name Ascii = d.IsEncName.name refl refl

called_name : (encoding : Encoding) (name : List ℕ) → IsCalled encoding name → IsEncName name
called_name encoding name h =
    let same : map to_ascii_lowercase name ≡ map to_ascii_lowercase (encoding_name encoding) = search rules in
    name_of_case name (map to_ascii_lowercase (encoding_name encoding)) same (lower_name encoding)

pub plain_chars : (name : List ℕ) → IsEncName name → (list_all is_ascii name ≡ true) × (list_all is_inner name ≡ true)
plain_chars [] h = elim h [ ]
plain_chars (c ∷ cs) (d.IsEncName.name first all) =
    (both_true (letter_plain c first).0 (all_pass_too is_encoding_char is_ascii encoding_ascii cs all), both_true (letter_plain c first).1 (all_pass_too is_encoding_char is_inner encoding_inner cs all))

pub digits_ascii : (number : List ℕ) → IsVersionNum number → list_all is_ascii number ≡ true
digits_ascii number (d.IsVersionNum.number {digits = ds} some all) = all_pass_too is_ascii_digit is_ascii digit_ascii ds all

-- the name of an encoding, as the document has it
pub called : (encoding : Encoding) (name : List ℕ) → IsCalled encoding name → IsEncName (lines_of (chars name)) × (lines_of (chars name) ≡ name)
called encoding name h =
    let is : IsEncName name = called_name encoding name h in
    let plain = plain_chars name is in
    let same : lines_of (chars name) ≡ name = plain_word name plain.0 plain.1 in
    (subst IsEncName (sym same) is, same)

-- the test whether one is UTF-16 as the other is
is_utf16 : (encoding : Encoding) → sameb the_type encoding Utf16 ≡ true → encoding ≡ Utf16
is_utf16 Utf8 h = absurd (false≢true h)
is_utf16 Utf16 h = refl
is_utf16 Latin1 h = absurd (false≢true h)
is_utf16 Ascii h = absurd (false≢true h)

agree : (a b : Bool) → beq a b ≡ true → a ≡ b
agree true true h = refl
agree true false h = sym h
agree false true h = h
agree false false h = refl

pub both_utf16 : (x y : Encoding) (a b : Bool) → a ≡ sameb the_type x Utf16 → b ≡ sameb the_type y Utf16 → beq a b ≡ true → (y ≡ Utf16 → x ≡ Utf16) × (x ≡ Utf16 → y ≡ Utf16)
both_utf16 x y a b p q h =
    let same : sameb the_type x Utf16 ≡ sameb the_type y Utf16 = sym p ∙ agree a b h ∙ q in
    ((λ e. is_utf16 x (same ∙ ap (λ z. sameb the_type z Utf16) e)), (λ e. is_utf16 y (sym same ∙ ap (λ z. sameb the_type z Utf16) e)))
