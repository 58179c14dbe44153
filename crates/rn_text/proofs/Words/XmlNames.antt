-- Characters of names are characters of XML.
use Rattle.std.proofs.lemmas.Bool.Decides.{nat_tests}
use Rattle.std.proofs.Common.{◌≡◌, ℕ, true, List, [], ◌∷◌, refl, arith}
use Rattle.std.specs.Prelude.{nat_le}
use Rattle.std.specs.List.{list_all}
use Rattle.std.proofs.lemmas.Bool.{and_parts, and_from, or_left, or_right}
use Rattle.rn_text.specs.Characters.{is_xml_char, is_name_start, is_name_char, is_ncname, in_range}
use Rattle.rn_text.proofs.Cutting.NameTokens.{name_chars}

wide : (a b low high c : ℕ) → nat_le low a ≡ true → nat_le b high ≡ true → in_range a b c ≡ true → in_range low high c ≡ true
wide a b low high c h1 h2 h3 = grind (arith, nat_tests, high, low)

low : (a b c : ℕ) → nat_le 0x20 a ≡ true → nat_le b 0xD7FF ≡ true → in_range a b c ≡ true → is_xml_char c ≡ true
unfolding is_xml_char
low a b c l h e = or_left _ _ (or_left _ _ (or_right _ _ (wide a b 0x20 0xD7FF c l h e)))

high : (a b c : ℕ) → nat_le 0x10000 a ≡ true → nat_le b 0x10FFFF ≡ true → in_range a b c ≡ true → is_xml_char c ≡ true
unfolding is_xml_char
high a b c l h e = or_right _ _ (wide a b 0x10000 0x10FFFF c l h e)

start_xml : (c : ℕ) → is_name_start c ≡ true → is_xml_char c ≡ true
unfolding is_name_start is_xml_char
start_xml c h1 = grind (arith, nat_tests, high, low)

char_xml : (c : ℕ) → is_name_char c ≡ true → is_xml_char c ≡ true
unfolding is_name_char is_xml_char
char_xml c h1 = grind (arith, nat_tests, low, start_xml)

name_chars_xml : (cs : List ℕ) → list_all is_name_char cs ≡ true → list_all is_xml_char cs ≡ true
name_chars_xml [] a = refl
name_chars_xml (c ∷ cs) a = let both = and_parts (is_name_char c) (list_all is_name_char cs) a in and_from (is_xml_char c) (list_all is_xml_char cs) (char_xml c both.0) (name_chars_xml cs both.1)

pub ncname_xml : (cs : List ℕ) → is_ncname cs ≡ true → list_all is_xml_char cs ≡ true
ncname_xml cs e = name_chars_xml cs (name_chars cs e)
