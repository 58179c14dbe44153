-- What is printed before a sentence, and characters as they are printed.
use Rattle.std.specs.Prelude.{ℕ, ◌==◌, ◌&&◌, not, Bool, true, false, List, [], ◌∷◌, ◌++◌, codes, if◌then◌else◌}
use Rattle.std.specs.List.{flat_map}
use Rattle.std.specs.Char.{encode_utf8}
use Rattle.std.specs.Str.{chars}
use Rattle.ucd_category.specs.declared.GeneralCategory.{GeneralCategory}
use Rattle.ucd_category.specs.declared.GeneralCategory.TheVariants.{Control, Format, LineSeparator, ParagraphSeparator}
use Rattle.unicode.specs.GeneralCategory.{general_category}
use Rattle.rn_report.specs.declared.report.Colours.{Colours}
use Rattle.rn_report.specs.declared.report.Colours.TheVariants.{Plain, Terminal}
use Rattle.rn_report.specs.declared.report.Grade.{Grade}
use Rattle.rn_report.specs.declared.report.Grade.TheVariants.{Error, Note}

-- the categories of characters that control a terminal, turn the direction of a text or are not seen, and part lines and paragraphs:
-- Cc, Cf, Zl and Zp (Unicode, section 4.5)
abbrev pub is_hidden : GeneralCategory → Bool
is_hidden Control = true
is_hidden Format = true
is_hidden LineSeparator = true
is_hidden ParagraphSeparator = true
is_hidden _ = false

-- a character of these categories is printed as `?`, but for a tab
abbrev pub printable : ℕ → ℕ
printable c = if is_hidden (general_category c) && not (c == 9) then 63 else c

abbrev pub printed_character : ℕ → List ℕ
printed_character c = encode_utf8 (printable c)

-- a text as it is printed
abbrev pub printed : List ℕ → List ℕ
printed text = flat_map printed_character (chars text)

-- what changes the colour, where there are colours
abbrev pub painted : Colours → List ℕ → List ℕ
painted Plain sign = []
painted Terminal sign = sign

abbrev pub word : Grade → List ℕ
word Error = codes "error: "
word Note = codes "note: "

abbrev pub colour : Grade → List ℕ
colour Error = 27 ∷ codes "[31m"
colour Note = 27 ∷ codes "[36m"

-- what is printed before a sentence at this place
abbrev pub head : Colours → List ℕ → Grade → List ℕ
head colours place grade =
    painted colours (27 ∷ codes "[1m") ++ (printed place ++ (codes ": " ++ (painted colours (colour grade) ++ (word grade ++ painted colours (27 ∷ codes "[0m")))))
