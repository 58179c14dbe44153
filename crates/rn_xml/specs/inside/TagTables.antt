-- What the tables get of a tag.
use Rattle.std.specs.Prelude.{◌≡◌, ℕ, ◌≤◌, true, slice_get, List, [], ◌∷◌, ◌++◌, Option, Some, All, String, vec_len, length, ◌==◌, if◌then◌else◌, map}
use Rattle.std.specs.declared.alloc.Global.{Global}
use Rattle.rn_text.specs.Texts.{Text}
use Rattle.rn_xml.specs.PrefixScopes.{around, innermost, uri_at}
use Rattle.rn_xml.specs.Infoset.{Attribute, Binding}
use Rattle.rn_xml.specs.XmlCharacters.{MaySpace}
use Rattle.rn_xml.specs.XmlTags.{WrittenAttribute, Scope, MayBind, AreAttributes, AreDistinct, AreNamed, AreUnique, bindings}
use Rattle.rn_xml.specs.DocumentTrees.{binding_of, attribute_of}
use Rattle.rn_xml.specs.declared.document.XmlAttribute.{XmlAttribute}
use Rattle.rn_xml.specs.declared.document.XmlDeclaration.{XmlDeclaration}
use Rattle.rn_xml.specs.declared.scopes.Scopes.{Scopes}
use Rattle.rn_xml.specs.declared.tags.TagReader.{TagReader}
use Rattle.rn_xml.specs.inside.Fronts.{closes_tag}
use Rattle.rn_xml.specs.inside.KnownTexts.{KnowsUris}
use Rattle.rn_xml.specs.inside.OpenTables.{binding_at, Denotes}
use Rattle.rn_xml.specs.inside.WrittenAttributes.{unnamed_of, unnamed}

-- the prefix means a declaration from this one on
abbrev pub IsRecent : Scopes → ℕ → Text → Type 0
IsRecent scopes first prefix = (n : ℕ) × (innermost (around scopes prefix) ≡ Some n) × (first ≤ n)

-- one of these declares the prefix
abbrev pub IsBoundIn : List Binding → Text → Type 0
IsBoundIn bound prefix = (k : ℕ) × (b : Binding) × (slice_get bound k ≡ Some b) × (b.prefix ≡ prefix)

-- the new reader has what the old one has, and behind it these attributes of one tag, in this scope around; its declarations begin with this one
pub record HasAttributes (old new : TagReader) (outer : Scope) (first : ℕ) (written : List WrittenAttribute) : Type 0 where
  pub starts : first ≡ vec_len old.tables.document.declarations
  pub len : new.len ≡ old.len
  pub opened : new.opened ≡ old.opened
  pub elements : new.tables.document.elements ≡ old.tables.document.elements
  pub texts : new.tables.document.texts ≡ old.tables.document.texts
  pub more_uris : List (String Global)
  pub uris : new.tables.document.uris.items ≡ old.tables.document.uris.items ++ more_uris
  pub more_attributes : List XmlAttribute
  pub attributes : new.tables.document.attributes.items ≡ old.tables.document.attributes.items ++ more_attributes
  pub are_unnamed : map unnamed_of more_attributes ≡ unnamed written
  pub more_declarations : List XmlDeclaration
  pub declarations : new.tables.document.declarations.items ≡ old.tables.document.declarations.items ++ more_declarations
  pub are_bound : map (binding_of new.tables.document) more_declarations ≡ bindings written
  pub knows : KnowsUris new.tables
  pub denotes : (q : Text) → Denotes (binding_at new.tables.document) q (bindings written ++ outer) (around new.scopes q)
  pub may_bind : All MayBind (bindings written)
  pub distinct : AreDistinct (bindings written)
  pub recent : All (λ b. IsRecent new.scopes first b.prefix) (bindings written)
  pub only : (q : Text) → IsRecent new.scopes first q → IsBoundIn (bindings written) q

-- whatever the old reader has of a tag, the new one has, and this attribute behind it
abbrev pub Adds : TagReader → TagReader → ℕ → WrittenAttribute → Type 0
Adds old new first a = (r : TagReader) (outer : Scope) (written : List WrittenAttribute) → HasAttributes r old outer first written → HasAttributes r new outer first (written ++ a ∷ [])

-- no tag has this attribute behind these: it declares what may not be declared, or a prefix that one of these declares
abbrev pub CannotAdd : List WrittenAttribute → WrittenAttribute → Type 0
CannotAdd written a = All MayBind (bindings (written ++ a ∷ [])) → ¬ AreDistinct (bindings (written ++ a ∷ []))

-- the same, whatever the reader has of the tag
abbrev pub NeverAdds : TagReader → ℕ → WrittenAttribute → Type 0
NeverAdds now first a = (r : TagReader) (outer : Scope) (written : List WrittenAttribute) → HasAttributes r now outer first written → CannotAdd written a

-- attributes and white space up to the end of a tag
pub record AreUpToEnd (cs : List ℕ) (written : List WrittenAttribute) (rest : List ℕ) : Type 0 where
  pub mid : List ℕ
  pub are : AreAttributes cs written mid
  pub space : MaySpace mid rest
  pub closes : closes_tag rest ≡ true

-- no tag has such attributes
abbrev pub LacksAttributes : List ℕ → Type 0
LacksAttributes cs = (written : List WrittenAttribute) (rest : List ℕ) → AreUpToEnd cs written rest → All MayBind (bindings written) → ¬ AreDistinct (bindings written)

-- the attributes that are written have no names, or two have the same one
abbrev pub LackNames : Scope → List WrittenAttribute → Type 0
LackNames scope written = (attributes : List Attribute) → AreNamed scope written attributes → ¬ AreUnique attributes

-- the index of the namespace that a prefix means here, and that of an attribute with this prefix
abbrev pub uri_index : TagReader → Text → Option ℕ
uri_index r q = uri_at r.tables.document.declarations.items r.scopes q

abbrev pub attribute_index : TagReader → Text → Option ℕ
attribute_index r q = if length q == 0 then Some 0 else uri_index r q

-- the new reader has what the old one has, and behind it this tag, whose attributes have their names
pub record HasTag (old new : TagReader) (outer : Scope) (written : List WrittenAttribute) : Type 0 where
  pub len : new.len ≡ old.len
  pub opened : new.opened ≡ old.opened
  pub elements : new.tables.document.elements ≡ old.tables.document.elements
  pub texts : new.tables.document.texts ≡ old.tables.document.texts
  pub more_uris : List (String Global)
  pub uris : new.tables.document.uris.items ≡ old.tables.document.uris.items ++ more_uris
  pub more_attributes : List XmlAttribute
  pub attributes : new.tables.document.attributes.items ≡ old.tables.document.attributes.items ++ more_attributes
  pub are_named : All MayBind outer → AreNamed (bindings written ++ outer) written (map (attribute_of new.tables.document) more_attributes)
  pub unique : AreUnique (map (attribute_of new.tables.document) more_attributes)
  pub more_declarations : List XmlDeclaration
  pub declarations : new.tables.document.declarations.items ≡ old.tables.document.declarations.items ++ more_declarations
  pub are_bound : map (binding_of new.tables.document) more_declarations ≡ bindings written
  pub knows : KnowsUris new.tables
  pub denotes : (q : Text) → Denotes (binding_at new.tables.document) q (bindings written ++ outer) (around new.scopes q)
  pub may_bind : All MayBind (bindings written)
  pub distinct : AreDistinct (bindings written)
