-- Lines of a text, and where its bytes stand in them. A line ends with LF, CR LF or CR.
use Rattle.std.specs.Prelude.{◌≡◌, ℕ, ◌+◌, ◌-◌, ◌<◌, ◌≤◌, ◌==◌, ◌&&◌, ◌||◌, ◌⊎◌, nat_eq, nat_le, nat_lt, not, Bool, List, [], ◌∷◌, ◌++◌, length, min, count_by, slice_index, slice_range, drop, take_while, if◌then◌else◌}
use Rattle.std.specs.List.{concat, starts_with}

-- a line ends behind the byte b that the rest follows: behind LF, and behind a CR that no LF follows
abbrev pub closes : ℕ → List ℕ → Bool
closes b rest = b == 10 || (b == 13 && not (slice_index rest 0 == 10))

-- these bytes in front of the first line
abbrev pub onto : List ℕ → List (List ℕ) → List (List ℕ)
onto bytes [] = bytes ∷ []
onto bytes (line ∷ others) = (bytes ++ line) ∷ others

-- the text cut behind each end of a line; the last line has no end
abbrev pub lines : List ℕ → List (List ℕ)
lines [] = [] ∷ []
lines (b ∷ rest) = if closes b rest then (b ∷ []) ∷ lines rest else onto (b ∷ []) (lines rest)

-- the byte stands in the line of this number, from 1, which begins at the byte start; behind the last byte, in the last line
pub record StandsIn (text : List ℕ) (at number start : ℕ) : Type 0 where
  pub before : List (List ℕ)
  pub line : List ℕ
  pub after : List (List ℕ)
  pub cut : lines text ≡ before ++ (line ∷ after)
  pub number_is : number ≡ length before + 1
  pub start_is : start ≡ length (concat before)
  pub begun : start ≤ at
  pub ahead : (at < start + length line) ⊎ (after ≡ [])

-- a character of a text begins with the byte: it is none of the bytes 80 to BF behind a first one (UTF-8)
abbrev pub begins_character : ℕ → Bool
begins_character b = nat_lt b 128 || nat_le 192 b

-- the byte belongs to no end of a line
abbrev pub is_inside : ℕ → Bool
is_inside b = not (b == 10) && not (b == 13)

-- the line of the byte, and the number of its character there: those before it in the line, and one
abbrev pub IsPositionIn : List ℕ → ℕ → ℕ → ℕ → Type 0
IsPositionIn text at line column = (start : ℕ) × StandsIn text at line start
    × (column ≡ count_by begins_character (slice_range text start (min at (length text))) + 1)

-- the byte order mark that may stand before a text in UTF-8 (RFC 3629, section 6)
abbrev pub mark : List ℕ
mark = 239 ∷ 187 ∷ 191 ∷ []

abbrev pub mark_length : List ℕ → ℕ
mark_length text = if starts_with nat_eq text mark then 3 else 0

-- where the byte is in the text behind its mark, which is no character of the first line
abbrev pub IsPosition : List ℕ → ℕ → ℕ → ℕ → Type 0
IsPosition text at line column = IsPositionIn (drop (mark_length text) text) (at - mark_length text) line column

-- the line in which the byte stands, without its end
abbrev pub IsLineOf : List ℕ → ℕ → List ℕ → Type 0
IsLineOf text at line = (number start : ℕ) × StandsIn text at number start × (line ≡ take_while is_inside (drop start text))
