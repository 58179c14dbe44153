-- Names that are prefixes: a letter and a number, or a word.
use Rattle.std.proofs.Common.{◌≡◌, ℕ, ◌+◌, ◌<◌, ◌^◌, ◌%◌, true, List, [], ◌∷◌, ◌++◌, refl, sym, ap, ◌∙◌, arith}
use Rattle.std.specs.Prelude.{codes, decimal, encode_utf8, nat_le}
use Rattle.std.specs.List.{list_all}
use Rattle.std.specs.Str.{chars, encode_utf8_all}
use Rattle.std.proofs.lemmas.Bool.{and_parts, and_from, or_left, or_right, le-leb, leb-true}
use Rattle.std.proofs.lemmas.Fmt.{decimal_by_steps}
use Rattle.std.proofs.lemmas.Str.{chars-encodes, encode_ascii}
use Rattle.rn_text.specs.Characters.{in_range, is_name_char, is_name_start, is_ncname, is_xml_char}
use Rattle.rn_text.proofs.TokenLists.CutLexemes.{xml_scalars}
use Rattle.rn_text.proofs.Words.AppendedLists.{all_append}
use Rattle.rn_text.proofs.Words.XmlNames.{ncname_xml}
use Rattle.rn_translate.proofs.CutTexts.{plain_characters}

digit : (n : ℕ) → n < 10 → in_range 48 57 (48 + n) ≡ true
digit n h = and_from (nat_le 48 (48 + n)) (nat_le (48 + n) 57) (le-leb 48 (48 + n) (omega arith)) (le-leb (48 + n) 57 (omega (arith, h)))

digits_all : (n : ℕ) → n < 2 ^ 64 → list_all (in_range 48 57) (decimal n) ≡ true
digits_all = decimal_by_steps (λ n ds. list_all (in_range 48 57) ds ≡ true) (λ n h. and_from (in_range 48 57 (48 + n)) true (digit n h) refl)
    (λ n ds h e. all_append (in_range 48 57) ds ((48 + n % 10) ∷ []) e (and_from (in_range 48 57 (48 + n % 10)) true (digit (n % 10) (omega arith)) refl))

digit_name : (c : ℕ) → in_range 48 57 c ≡ true → is_name_char c ≡ true
unfolding is_name_char
digit_name c e = or_left _ _ (or_left _ _ (or_left _ _ (or_right _ _ e)))

name_digits : (ds : List ℕ) → list_all (in_range 48 57) ds ≡ true → list_all is_name_char ds ≡ true
name_digits [] e = refl
name_digits (c ∷ cs) e = let both = and_parts (in_range 48 57 c) (list_all (in_range 48 57) cs) e in and_from (is_name_char c) (list_all is_name_char cs) (digit_name c both.0) (name_digits cs both.1)

digit_bytes : (ds : List ℕ) → list_all (in_range 48 57) ds ≡ true → encode_utf8_all ds ≡ ds
digit_bytes [] e = refl
digit_bytes (c ∷ cs) e =
    let both = and_parts (in_range 48 57 c) (list_all (in_range 48 57) cs) e in
    let small : c < 128 = omega (arith, leb-true c 57 (and_parts (nat_le 48 c) (nat_le c 57) both.0).1) in
    ap (λ l. l ++ encode_utf8_all cs) (encode_ascii c small) ∙ ap (λ l. c ∷ l) (digit_bytes cs both.1)

pub numbered_name : (c n : ℕ) → is_name_start c ≡ true → n < 2 ^ 64 → is_ncname (chars (encode_utf8 c ++ decimal n)) ≡ true
numbered_name c n start small =
    let digits = digits_all n small in
    let name : is_ncname (c ∷ decimal n) ≡ true = and_from (is_name_start c) (list_all is_name_char (decimal n)) start (name_digits (decimal n) digits) in
    let bytes : encode_utf8_all (c ∷ decimal n) ≡ encode_utf8 c ++ decimal n = ap (λ l. encode_utf8 c ++ l) (digit_bytes (decimal n) digits) in
    ap is_ncname (ap chars (sym bytes) ∙ chars-encodes (c ∷ decimal n) (xml_scalars (c ∷ decimal n) (ncname_xml (c ∷ decimal n) name))) ∙ name

-- the prefixes that mean something by themselves
pub xml_name : is_ncname (chars (codes "xml")) ≡ true
unfolding is_name_start is_name_char is_xml_char
xml_name = ap is_ncname (plain_characters (codes "xml") (refl, refl)) ∙ refl

pub xsd_name : is_ncname (chars (codes "xsd")) ≡ true
unfolding is_name_start is_name_char is_xml_char
xsd_name = ap is_ncname (plain_characters (codes "xsd") (refl, refl)) ∙ refl
