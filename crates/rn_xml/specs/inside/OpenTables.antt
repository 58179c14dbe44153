-- The tables of a document of which elements are open.
use Rattle.std.specs.Prelude.{◌≡◌, ℕ, ◌+◌, ◌<◌, true, false, List, [], ◌∷◌, ◌++◌, Option, Some, map, slice_get, bytes_eq}
use Rattle.std.specs.Option.{option_map}
use Rattle.std.specs.Str.{chars, IsUtf8}
use Rattle.rn_text.specs.Texts.{Text}
use Rattle.rn_xml.specs.Infoset.{Binding, Node, element, Nodes, no_nodes, more_nodes}
use Rattle.rn_xml.specs.TableRows.{rows_of}
use Rattle.rn_xml.specs.XmlTags.{Scope, IsQName}
use Rattle.rn_xml.specs.DocumentTrees.{name_of, binding_of, attribute_of, AreChildren, HoldsRoot, ComesBeforeText}
use Rattle.rn_xml.specs.declared.document.XmlElement.{XmlElement}
use Rattle.rn_xml.specs.declared.document.XmlText.{XmlText}
use Rattle.rn_xml.specs.declared.document.XmlDocument.{XmlDocument}
use Rattle.rn_xml.specs.inside.OpenElements.{OpenElement, joined, parent_of}

-- the element of this row, with these children
abbrev pub node_of : XmlDocument → XmlElement → Nodes → Node
node_of d row k = element (name_of d row.name) (map (binding_of d) (rows_of row.declarations d.declarations.items)) (map (attribute_of d) (rows_of row.attributes d.attributes.items)) k

-- the tables have the row of this open element, in this parent
pub record IsOpenRow (d : XmlDocument) (e : OpenElement) (parent : Option ℕ) : Type 0 where
  pub row : XmlElement
  pub there : slice_get d.elements.items e.index ≡ Some row
  pub has_parent : row.parent ≡ parent
  pub before : ComesBeforeText d row.at e.texts
  pub is : (k : Nodes) → node_of d row k ≡ element e.name e.bound e.attributes k
  pub named : IsQName e.qname (chars e.name.prefix) (chars e.name.local) × IsUtf8 e.name.prefix × IsUtf8 e.name.local

-- the tables hold these open elements and the children that are read, up to this element and this text
abbrev pub HoldsOpen : XmlDocument → List OpenElement → ℕ → ℕ → Type 0
HoldsOpen d [] behind after = (behind ≡ 0) × (after ≡ 0)
HoldsOpen d (e ∷ around) behind after = IsOpenRow d e (parent_of around) × AreChildren d e.index (e.index + 1) e.texts e.children behind after
    × HoldsOpen d around e.index e.texts

-- the same, where this element follows as a child of the innermost, or as the root
abbrev pub HoldsClosed : XmlDocument → List OpenElement → Node → ℕ → ℕ → Type 0
HoldsClosed d [] x behind after = HoldsRoot d x
HoldsClosed d (e ∷ around) x behind after = HoldsOpen d (record e { children = joined e.children (more_nodes x no_nodes) } ∷ around) behind after

-- all elements and texts begin before this place
pub record ArePlacedBefore (d : XmlDocument) (place : ℕ) : Type 0 where
  pub elements : (k : ℕ) (row : XmlElement) → slice_get d.elements.items k ≡ Some row → row.at < place
  pub texts : (k : ℕ) (row : XmlText) → slice_get d.texts.items k ≡ Some row → row.at < place

-- what the declaration of this index declares
abbrev pub binding_at : XmlDocument → ℕ → Option Binding
binding_at d n = option_map (binding_of d) (slice_get d.declarations.items n)

-- the declarations of a prefix in a scope, the innermost last, where each index means a declaration
pub data Denotes (means : ℕ → Option Binding) (q : Text) : Scope → List ℕ → Type 0 where
  nothing : Denotes means q [] []
  other : {b : Binding} {scope : Scope} {ns : List ℕ} → bytes_eq b.prefix q ≡ false → Denotes means q scope ns → Denotes means q (b ∷ scope) ns
  this : {b : Binding} {scope : Scope} {ns : List ℕ} (n : ℕ) → bytes_eq b.prefix q ≡ true → means n ≡ Some b → Denotes means q scope ns
      → Denotes means q (b ∷ scope) (ns ++ n ∷ [])
