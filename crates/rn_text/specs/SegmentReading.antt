-- How a segment of a literal is read, as the grammar has it: escapes, line ends and characters one behind another (RELAX NG Compact Syntax, 2.1, 2.2 and
-- appendix A, literalSegment).
use Rattle.std.specs.Prelude.{◌≡◌, ◌≢◌, ℕ, ◌<◌, true, false, ◌==◌, List, [], ◌∷◌, ◌++◌, length}
use Rattle.std.specs.List.{list_all}
use Rattle.std.specs.Char.{is_ascii_hexdigit}
use Rattle.std.specs.Str.Parse.{digits_value}
use Rattle.rn_text.specs.Characters.{is_xml_char}
use Rattle.rn_text.specs.Segments.{begins_with, escape_front, escaped_char, is_whole_escape, is_x}

-- an escape: `\`, one or more `x`, `{`, one or more hexadecimal digits and `}`. It stands for the character of XML that has this number
pub record IsEscape (written : List ℕ) (c : ℕ) : Type 0 where
  pub xs : List ℕ
  pub digits : List ℕ
  pub is : written ≡ 92 ∷ (xs ++ 123 ∷ (digits ++ 125 ∷ []))
  pub each_x : list_all is_x xs ≡ true
  pub some_x : 0 < length xs
  pub hexadecimal : list_all is_ascii_hexdigit digits ≡ true
  pub some_digit : 0 < length digits
  pub value : c ≡ digits_value 16 digits
  pub xml : is_xml_char c ≡ true

-- between delimiters of this character, an escape stands wherever the front of one does, and not for the delimiter
abbrev pub EscapesHold : ℕ → List ℕ → Type 0
EscapesHold delimiter cs = (front after : List ℕ) → front ++ after ≡ cs → escape_front after ≡ true → (is_whole_escape after ≡ true) × (escaped_char after ≢ delimiter)

-- the characters between the delimiters, and their text: an escape is its character, each line end is one line feed, and all else is itself
pub data IsReadAs : List ℕ → List ℕ → Type 0 where
  end : IsReadAs [] []
  escape : {cs written rest text : List ℕ} {c : ℕ} → cs ≡ written ++ rest → IsEscape written c → IsReadAs rest text → IsReadAs cs (c ∷ text)
  return_and_feed : {rest text : List ℕ} → IsReadAs rest text → IsReadAs (13 ∷ 10 ∷ rest) (10 ∷ text)
  return : {rest text : List ℕ} → begins_with (λ d. d == 10) rest ≡ false → IsReadAs rest text → IsReadAs (13 ∷ rest) (10 ∷ text)
  itself : {c : ℕ} {rest text : List ℕ} → c ≢ 13 → escape_front (c ∷ rest) ≡ false → IsReadAs rest text → IsReadAs (c ∷ rest) (c ∷ text)
