-- The encoding that a text declares.
use Rattle.std.specs.Prelude.{◌≡◌, ◌⊎◌, ℕ, Bool, true, not, List, ◌∷◌, ◌++◌, codes}
use Rattle.std.specs.List.{list_all}
use Rattle.rn_text.specs.Segments.{is_delimiter}
use Rattle.rn_text.specs.Texts.{Text}
use Rattle.rn_xml.specs.XmlCharacters.{MaySpace, IsSpace, AreMisc}
use Rattle.rn_xml.specs.XmlDocuments.{IsVersionInfo, MayDeclareEncoding, MayBeStandalone, MayDeclare}
use Rattle.rn_xml.specs.inside.Fronts.{opens_tag}
use Rattle.rn_xml.specs.Encodings.{NamesEncoding, IsCalled}
use Rattle.rn_xml.specs.inside.Pieces.{IsNamedField}
use Rattle.rn_xml.specs.inside.Rests.{source}
use Rattle.rn_xml.specs.declared.xml_fault.Encoding.{Encoding}
use Rattle.rn_xml.specs.declared.xml_fault.Encoding.TheVariants.{Utf16}

-- the text names no encoding
abbrev pub NamesNone : Text → Type 0
NamesNone text = (name : List ℕ) → ¬ NamesEncoding (source text) name

-- the text names this encoding
abbrev pub Names : Text → Encoding → Type 0
Names text encoding = (name : List ℕ) × NamesEncoding (source text) name × IsCalled encoding name

-- the encoding is the one that is named, and the one that is meant where none is named. Only UTF-16 is named where UTF-16 is meant
pub record IsDeclared (text : Text) (meant encoding : Encoding) : Type 0 where
  pub named : Names text encoding ⊎ (NamesNone text × (encoding ≡ meant))
  pub fits : meant ≡ Utf16 → encoding ≡ Utf16
  pub only : encoding ≡ Utf16 → meant ≡ Utf16

-- there is no field of this name
abbrev pub LacksField : List ℕ → List ℕ → Type 0
LacksField name cs = (value rest : List ℕ) → ¬ IsNamedField name cs value rest

abbrev pub is_unquoted : ℕ → Bool
is_unquoted c = not (is_delimiter c)

-- there is no other field of this name without quotes in its value
abbrev pub IsOnlyField : List ℕ → List ℕ → List ℕ → List ℕ → Type 0
IsOnlyField name cs value rest = (v r : List ℕ) → IsNamedField name cs v r → list_all is_unquoted v ≡ true → (v ≡ value) × (r ≡ rest)

-- no XML declaration begins
abbrev pub OpensNone : List ℕ → Type 0
OpensNone cs = (behind rest : List ℕ) → cs ≡ codes "<?xml" ++ behind → ¬ IsSpace behind rest

-- the end of an XML declaration, and before that whether it stands alone
abbrev pub ClosesDeclaration : List ℕ → List ℕ → Type 0
ClosesDeclaration cs rest = (behind : List ℕ) × MayBeStandalone cs behind × MaySpace behind (63 ∷ 62 ∷ rest)

-- the same, and before that its encoding
abbrev pub EndsDeclaration : List ℕ → List ℕ → Type 0
EndsDeclaration cs rest = (after : List ℕ) × MayDeclareEncoding cs after × ClosesDeclaration after rest

-- the same, and before that its version: all of it behind `<?xml`
abbrev pub IsDeclaration : List ℕ → List ℕ → Type 0
IsDeclaration cs rest = (mid : List ℕ) × IsVersionInfo cs mid × EndsDeclaration mid rest

-- a root follows the XML declaration, if there is one, with comments and the like before it
abbrev pub HasRoot : List ℕ → List ℕ → Type 0
HasRoot cs root = (mid : List ℕ) × MayDeclare cs mid × AreMisc mid root × (opens_tag root ≡ true)
