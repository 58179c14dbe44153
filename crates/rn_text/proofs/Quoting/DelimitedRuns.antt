-- What is written for a run of a text is one segment.
use Rattle.std.proofs.Common.{arith, ◌≡◌, ℕ, true, false, List, [], ◌∷◌, ◌++◌, refl, append_assoc}
use Rattle.std.proofs.lemmas.Bool.Decides.{nat_tests}
use Rattle.std.specs.List.{flat_map, list_all}
use Rattle.std.proofs.lemmas.Bool.{and_parts}
use Rattle.rn_text.specs.Characters.{is_xml_char}
use Rattle.rn_text.specs.Segments.{is_segment, opens_threefold, escape_front, is_x, ends_at_one, escapes_hold}
use Rattle.rn_text.specs.Literals.{written, delimiter_for, delimited}
use Rattle.rn_text.proofs.Cutting.DelimitedFronts.{one_step, one_here}
use Rattle.rn_text.proofs.Words.AppendedLists.{all_append}
use Rattle.rn_text.proofs.Quoting.WrittenLiterals.{same_delimiter}
use Rattle.rn_text.proofs.Quoting.SegmentTexts.{Together, plain_written, not_x, no_delimiter}

-- a written character doesn't end the segment
passes_on : (c : ℕ) (rest : List ℕ) → ends_at_one (delimiter_for c) (written c ++ rest) ≡ ends_at_one (delimiter_for c) rest
passes_on c rest = grind (arith, nat_tests, one_step, plain_written)

ends : (c : ℕ) (cs : List ℕ) → Together (c ∷ cs) → ends_at_one (delimiter_for c) (flat_map written (c ∷ cs) ++ delimiter_for c ∷ []) ≡ true
ends c [] t = grind (arith, nat_tests, append_assoc, passes_on, one_here)
ends c (d ∷ ds) t = grind (arith, nat_tests, same_delimiter, append_assoc, passes_on, ends d ds)

not_x_mark : (c : ℕ) → is_x (delimiter_for c) ≡ false
not_x_mark c = grind (arith, nat_tests)

-- a plain character of a segment begins no escape
no_escape : (c : ℕ) (ds : List ℕ) (q : ℕ) → is_x q ≡ false → Together (c ∷ ds) → escape_front (c ∷ (flat_map written ds ++ q ∷ [])) ≡ false
no_escape c ds q h1 h2 = grind (arith, nat_tests, append_assoc, not_x)

-- the escapes in what is written are whole
escapes_on : (c : ℕ) (rest : List ℕ) → escape_front (c ∷ rest) ≡ false → escapes_hold (delimiter_for c) (written c ++ rest) ≡ escapes_hold (delimiter_for c) rest
unfolding is_xml_char
escapes_on c rest h1 = grind (arith, nat_tests, plain_written)

holds : (c : ℕ) (cs : List ℕ) → Together (c ∷ cs) → escapes_hold (delimiter_for c) (flat_map written (c ∷ cs) ++ delimiter_for c ∷ []) ≡ true
holds c [] t = grind (arith, nat_tests, append_assoc, escapes_on, no_escape, not_x_mark)
holds c (d ∷ ds) t = grind (arith, nat_tests, same_delimiter, append_assoc, escapes_on, no_escape, not_x_mark, holds d ds)

-- a run between delimiters is a segment, with one delimiter on each side
delimited_simple : (s : List ℕ) → Together s → opens_threefold (delimited s) ≡ false
delimited_simple s h1 = grind (arith, nat_tests, append_assoc, no_delimiter)

pub delimited_segment : (s : List ℕ) → Together s → is_segment (delimited s) ≡ true
delimited_segment s h1 = grind (arith, nat_tests, ends, holds, delimited_simple)

written_xml : (c : ℕ) → is_xml_char c ≡ true → list_all is_xml_char (written c) ≡ true
unfolding is_xml_char
written_xml c h1 = grind (arith, nat_tests, plain_written)

all_written : (cs : List ℕ) → list_all is_xml_char cs ≡ true → list_all is_xml_char (flat_map written cs) ≡ true
all_written [] a = refl
all_written (c ∷ cs) a = all_append is_xml_char (written c) (flat_map written cs) (written_xml c (and_parts _ _ a).0) (all_written cs (and_parts _ _ a).1)

-- the characters of a run between delimiters are of XML where those of the text are
pub delimited_xml : (s : List ℕ) → list_all is_xml_char s ≡ true → list_all is_xml_char (delimited s) ≡ true
unfolding is_xml_char
delimited_xml s h1 = grind (arith, nat_tests, all_append, all_written)
