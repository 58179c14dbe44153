-- Tokens behind others, and the object of a message behind other lines.
use Rattle.std.specs.Prelude.{◌≡◌, ℕ, List, [], ◌∷◌, ◌++◌, Option}
use Rattle.json.specs.Print.{print}
use Rattle.json.specs.Token.{Token}
use Rattle.json.specs.Written.{Written}
use Rattle.rn_report.specs.JsonMessages.{AreSpotMembers, IsObject}
use Rattle.rn_report.specs.declared.report.Message.{Message}
use Rattle.rn_report.specs.declared.report.Page.{Page}
use Rattle.rn_report.specs.declared.report.Spot.{Spot}

-- the tokens are written behind those that were written
abbrev pub AddsTokens : Written → Written → List Token → Type 0
AddsTokens old new tokens = (new.before ≡ old.before) × (new.tokens ≡ old.tokens ++ tokens)

-- tokens of which this holds are written
abbrev pub AddsMembers : (List Token → Type 0) → Written → Written → Type 0
AddsMembers P old new = (tokens : List Token) × P tokens × AddsTokens old new tokens

-- nothing is said of the tokens
abbrev pub Anything : List Token → Type 0
Anything tokens = Unit {0}

-- the members of a place are written, if there is one
abbrev pub AddsSpot : List Page → Option Spot → Written → Written → Type 0
AddsSpot pages spot old new = AddsMembers (AreSpotMembers pages spot) old new

-- lines and then the object of a message
abbrev pub AddsObject : List Page → Message → (before after : List ℕ) → Type 0
AddsObject pages message before after = (object : List Token) × IsObject pages message object × (after ≡ before ++ (print object ++ (10 ∷ [])))
