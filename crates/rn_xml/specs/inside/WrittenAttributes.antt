-- Attributes as they are written, before their namespaces are known.
use Rattle.std.specs.Prelude.{◌≡◌, ℕ, List, [], ◌∷◌, Option, Some, None, string_bytes, encode_utf8_all}
use Rattle.std.specs.Str.{chars}
use Rattle.rn_text.specs.Texts.{Text}
use Rattle.rn_xml.specs.XmlCharacters.{MaySpace}
use Rattle.rn_xml.specs.XmlTags.{WrittenAttribute, AreAttributes, declared_prefix}
use Rattle.rn_xml.specs.declared.characters.QName.{QName}
use Rattle.rn_xml.specs.declared.document.XmlAttribute.{XmlAttribute}

-- an attribute of this name and this value, as it is written
abbrev pub written_as : QName → List ℕ → WrittenAttribute
written_as name value = record { prefix = chars name.prefix.now; local = chars name.local.now; value = value }

-- an attribute as far as it is known before its namespace
pub record Unnamed : Type 0 where
  pub prefix : Text
  pub local : Text
  pub value : Text

abbrev pub unnamed_of : XmlAttribute → Unnamed
unnamed_of a = record { prefix = a.name.prefix.now; local = a.name.local.now; value = string_bytes a.value }

abbrev pub unnamed_before : WrittenAttribute → Option (List ℕ) → List Unnamed → List Unnamed
unnamed_before a None more = record { prefix = encode_utf8_all a.prefix; local = encode_utf8_all a.local; value = encode_utf8_all a.value } ∷ more
unnamed_before a (Some prefix) more = more

-- the attributes that declare no namespace
abbrev pub unnamed : List WrittenAttribute → List Unnamed
unnamed [] = []
unnamed (a ∷ written) = unnamed_before a (declared_prefix a) (unnamed written)

-- the attribute declares this prefix for this namespace
abbrev pub DeclaresAs : WrittenAttribute → Text → Text → Type 0
DeclaresAs a prefix uri = (p : List ℕ) × (declared_prefix a ≡ Some p) × (encode_utf8_all p ≡ prefix) × (encode_utf8_all a.value ≡ uri)

-- the attribute declares nothing, and has this name and this value
abbrev pub NamesAs : WrittenAttribute → Text → Text → Text → Type 0
NamesAs a prefix local value = (declared_prefix a ≡ None) × (encode_utf8_all a.prefix ≡ prefix) × (encode_utf8_all a.local ≡ local) × (encode_utf8_all a.value ≡ value)

-- attributes and white space
abbrev pub AreSpacedAttributes : List ℕ → List WrittenAttribute → List ℕ → Type 0
AreSpacedAttributes cs written rest = (mid : List ℕ) × AreAttributes cs written mid × MaySpace mid rest
