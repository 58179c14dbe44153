-- What the front of some characters is, as far as it tells where a piece of a document ends, or that none is whole.
use Rattle.std.specs.Prelude.{◌≡◌, ◌⊎◌, ℕ, Bool, true, not, ◌&&◌, ◌||◌, ◌==◌, List, [], ◌∷◌, ◌++◌, false}
use Rattle.rn_text.specs.Characters.{is_name_char}
use Rattle.rn_text.specs.Segments.{begins_with}
use Rattle.rn_xml.specs.XmlCharacters.{IsValue, IsSection, IsCharacters, AreMisc}
use Rattle.rn_xml.specs.XmlTags.{IsQName}
use Rattle.rn_xml.specs.inside.Pieces.{IsPiece}

-- a tag may begin: `<` with neither `!` nor `?` behind it
abbrev pub opens_tag : List ℕ → Bool
opens_tag [] = false
opens_tag (c ∷ cs) = c == 60 && begins_with (λ d. not (d == 33 || d == 63)) cs

-- a comment, a CDATA section or a processing instruction may begin: `<` with `!` or `?` behind it
abbrev pub opens_markup : List ℕ → Bool
opens_markup [] = false
opens_markup (c ∷ cs) = c == 60 && begins_with (λ d. d == 33 || d == 63) cs

-- one of these may begin, and none that is whole does
pub record IsBroken (cs : List ℕ) : Type 0 where
  pub opens : opens_markup cs ≡ true
  pub no_piece : (rest : List ℕ) → ¬ IsPiece cs rest
  pub no_section : (inside rest : List ℕ) → ¬ IsSection cs inside rest

-- none of the characters of an element begin
abbrev pub IsBare : List ℕ → Type 0
IsBare cs = (text rest : List ℕ) → IsCharacters cs text rest → rest ≡ cs

-- neither white space nor a comment nor a processing instruction begins
abbrev pub LacksMisc : List ℕ → Type 0
LacksMisc cs = (rest : List ℕ) → AreMisc cs rest → rest ≡ cs

-- a tag, or the end of the text
abbrev pub IsRootOrEnd : List ℕ → Type 0
IsRootOrEnd cs = (cs ≡ []) ⊎ (opens_tag cs ≡ true)

-- no tag follows the characters of an element
abbrev pub ReachNoTag : List ℕ → Type 0
ReachNoTag cs = (text rest : List ℕ) → IsCharacters cs text rest → ¬ (opens_tag rest ≡ true)

-- the end of a tag: `>` or `/>`
abbrev pub closes_tag : List ℕ → Bool
closes_tag [] = false
closes_tag (c ∷ cs) = c == 62 || (c == 47 && begins_with (λ d. d == 62) cs)

-- what ends the attributes of a tag
abbrev pub is_tag_end : ℕ → Bool
is_tag_end c = c == 62 || c == 47

-- neither an attribute nor white space follows
abbrev pub ends_attributes : List ℕ → Bool
ends_attributes [] = true
ends_attributes (c ∷ cs) = is_tag_end c

-- no name goes on
abbrev pub ends_name : List ℕ → Bool
ends_name cs = not (begins_with (λ c. is_name_char c || c == 58) cs)

-- a name as it is written, its prefix and its local part, and what follows it
pub record BeginsName (cs written prefix local behind : List ℕ) : Type 0 where
  pub is_name : IsQName written prefix local
  pub splits : cs ≡ written ++ behind
  pub ends : ends_name behind ≡ true

-- where a value ends here, it does so from the rest
abbrev pub LeavesValue : ℕ → List ℕ → List ℕ → Type 0
LeavesValue quote cs rest = (value after : List ℕ) → IsValue quote cs value after → (more : List ℕ) × IsValue quote rest more after
