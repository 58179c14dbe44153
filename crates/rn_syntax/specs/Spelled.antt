-- What is said of the tokens of a text beside what the grammar sees: that each is spelled as its kind says, and places.
use Rattle.std.specs.Prelude.{◌≡◌, ℕ, List, [], ◌∷◌, true}
use Rattle.std.specs.List.{All}
use Rattle.std.specs.Str.{chars}
use Rattle.rn_text.specs.declared.source.Token.{Token}
use Rattle.rn_text.specs.declared.parts.Part.TheVariants as part
use Rattle.rn_text.specs.Parts.{spells}
use Rattle.rn_syntax.specs.Terminal.{◌#◌}
use Rattle.rn_syntax.specs.Grammar.{Tokens}

-- a token is spelled as its kind says
abbrev pub SpellsItsKind : Token → Type 0
SpellsItsKind x = spells (part.Token x.kind) (chars x.text.now) ≡ true

abbrev pub AreSpelled : List Token → Type 0
AreSpelled xs = All SpellsItsKind xs

-- the byte at which the last token ends
abbrev pub last_end : List Token → ℕ
last_end [] = 0
last_end (x ∷ []) = x.end
last_end (x ∷ y ∷ xs) = last_end (y ∷ xs)

-- the byte at which these of the tokens begin; where none is left, that at which the last one ends
abbrev pub BeginAt : List Token → Tokens → ℕ → Type 0
BeginAt xs [] at = at ≡ last_end xs
BeginAt xs (x # i ∷ ts) at = at ≡ i
