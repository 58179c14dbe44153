-- Where the pieces of a compact text come from.
use Rattle.std.specs.Prelude.{ℕ, ◌+◌, ◌≤◌, List, [], ◌∷◌, nat_le, if◌then◌else◌}
use Rattle.std.specs.Coded.{×_prop, le_prop}
use Rattle.rn_translate.specs.declared.draft.Origin.{Origin}

-- the pieces begin one after another from this byte on, and before the byte `next`, each for a byte of a source of so many, or its end
abbrev pub AreRising : (next source from : ℕ) → List Origin → Type 0
AreRising next source from [] = from ≤ next
AreRising next source from (p ∷ ps) = (from ≤ p.from) × ((p.at ≤ source) × AreRising next source (p.from + 1) ps)

pub AreRising-prop : (next source from : ℕ) (ps : List Origin) → IsProp (AreRising next source from ps)
AreRising-prop next source from [] = le_prop
AreRising-prop next source from (p ∷ ps) = ×_prop le_prop (×_prop le_prop (AreRising-prop next source (p.from + 1) ps))

-- the first piece begins with the text; a text of no pieces has no bytes, and a piece may begin with it
abbrev pub BeginsWithText : (next length : ℕ) → List Origin → Type 0
BeginsWithText next length [] = next + length ≤ 0
BeginsWithText next length (p ∷ ps) = p.from ≤ 0

pub BeginsWithText-prop : (next length : ℕ) (ps : List Origin) → IsProp (BeginsWithText next length ps)
BeginsWithText-prop next length [] = le_prop
BeginsWithText-prop next length (p ∷ ps) = le_prop

-- the pieces of a text of so many bytes: they rise, the first one begins with the text, and each is for a byte of a source of so many
abbrev pub AreOrigins : (length source : ℕ) → List Origin → Type 0
AreOrigins length source ps = AreRising (length + 1) source 0 ps × BeginsWithText 0 length ps

-- no piece begins before this byte, and none before one that stands before it
abbrev pub AreInOrder : (from : ℕ) → List Origin → Type 0
AreInOrder from [] = 0 ≤ from
AreInOrder from (p ∷ ps) = (from ≤ p.from) × AreInOrder p.from ps

pub AreInOrder-prop : (from : ℕ) (ps : List Origin) → IsProp (AreInOrder from ps)
AreInOrder-prop from [] = le_prop
AreInOrder-prop from (p ∷ ps) = ×_prop le_prop (AreInOrder-prop p.from ps)

-- what the last of these pieces that begins at a byte or before it is for; if none does, what was found before
abbrev pub origin_from : ℕ → ℕ → List Origin → ℕ
origin_from found at [] = found
origin_from found at (p ∷ ps) = origin_from (if nat_le p.from at then p.at else found) at ps

-- the byte of the source that a byte of the text was made for
abbrev pub origin_of : List Origin → ℕ → ℕ
origin_of ps at = origin_from 0 at ps
