-- What readers leave of a text.
use Rattle.std.specs.Prelude.{ℕ, ◌<◌, ◌≤◌, List, length, Option, IfSome, Result, MatchResult}
use Rattle.std.specs.Borrow.{Bor}
use Rattle.std.specs.Str.{chars}
use Rattle.rn_text.specs.Texts.{Text}
use Rattle.rn_xml.specs.XmlCharacters.{lines_of}
use Rattle.rn_xml.specs.declared.stop.Stop.{Stop}

-- the characters of a text, as a document has them
abbrev pub source : Text → List ℕ
source text = lines_of (chars text)

-- a place of the text where a reader stopped
abbrev pub StopsWithin : Text → Stop → Type 0
StopsWithin text stop = stop.left ≤ length text

-- the rest of a text, which is shorter
abbrev pub IsShorter : Text → Bor Text → Type 0
IsShorter text rest = length rest.now < length text

-- the rest of a text, or all of it
abbrev pub IsNoLonger : Text → Bor Text → Type 0
IsNoLonger text rest = length rest.now ≤ length text

-- a reader that answers what is left went on in the text, or stopped within it
abbrev pub GoesPast : Text → Result (Bor Text) Stop → Type 0
GoesPast text result = MatchResult result (IsShorter text) (StopsWithin text)

-- the same, where nothing need be read
abbrev pub MayGoPast : Text → Result (Bor Text) Stop → Type 0
MayGoPast text result = MatchResult result (IsNoLonger text) (StopsWithin text)

-- the same, where something is read if it is there
abbrev pub GoesPastSome : Text → Result (Option (Bor Text)) Stop → Type 0
GoesPastSome text result = MatchResult result (λ found. IfSome found (IsShorter text)) (StopsWithin text)

-- a reader that answers a value and what is left went on in the text, or stopped within it
abbrev pub GoesOn : {A : Type 0} → Text → Result (A × Bor Text) Stop → Type 0
GoesOn text result = MatchResult result (λ p. IsShorter text p.1) (StopsWithin text)
