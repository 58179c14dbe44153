-- Literals read and written character by character.
use Rattle.std.specs.Prelude.{◌≡◌, ◌<◌, length, ℕ, true, if◌then◌else◌, List, [], ◌∷◌, ◌++◌, codes}
use Rattle.rn_text.specs.Segments.{escape_front, is_whole_escape, text_after}
use Rattle.rn_text.specs.Literals.{are_parted, delimiter_for}

-- what stands between the writings of two characters: nothing, or the end of a segment and the start of another
abbrev pub between : ℕ → ℕ → List ℕ
between c d = if are_parted c d then (delimiter_for c ∷ (codes " ~ " ++ delimiter_for d ∷ [])) else []

-- between delimiters, the text begins as this character is written, and the rest is its text's rest
pub record StandsFor (text : List ℕ) (c : ℕ) (rest : List ℕ) : Type 0 where
  pub front : List ℕ
  pub split : front ++ rest ≡ text
  pub some : 0 < length front
  pub is : (escape_front text ≡ true → is_whole_escape text ≡ true) → text_after 0 text ≡ c ∷ text_after 0 rest
