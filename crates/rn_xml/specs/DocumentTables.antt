-- The tables of a document: each index in them is that of a row that is there, and an element comes behind its parent.
use Rattle.std.specs.Prelude.{◌≡◌, ℕ, ◌<◌, ◌≤◌, List, Some, None, All, length, vec_len, string_len, slice_index_or}
use Rattle.rn_xml.specs.declared.document.Rows.{Rows}
use Rattle.rn_xml.specs.declared.document.XmlElement.{XmlElement}
use Rattle.rn_xml.specs.declared.document.XmlDocument.{XmlDocument}

-- rows of a table that has so many
abbrev pub AreRows : ℕ → Rows → Type 0
AreRows count rows = (rows.from ≤ rows.to) × (rows.to ≤ count)

-- an element of this index, where the tables have so many namespaces, attributes, declarations and elements: the first has no
-- parent, and each other one a parent before it
pub record IsElementRow (uris attributes declarations elements index : ℕ) (e : XmlElement) : Type 0 where
  pub namespace : e.name.uri < uris
  pub parent : (p : ℕ) → e.parent ≡ Some p → p < index
  pub root : e.parent ≡ None → index ≡ 0
  pub has_attributes : AreRows attributes e.attributes
  pub has_declarations : AreRows declarations e.declarations
  pub within : index < e.end
  pub ends : e.end ≤ elements

-- each element is such a row
abbrev pub AreElementRows : ℕ → ℕ → ℕ → List XmlElement → Type 0
AreElementRows uris attributes declarations elements =
    (k : ℕ) (d : XmlElement) → k < length elements → IsElementRow uris attributes declarations (length elements) k (slice_index_or elements k d)

-- the tables refer to one another: the namespaces begin with none and that of `xml:`, and no text is empty
pub record AreTables (d : XmlDocument) : Type 0 where
  pub reserved : 2 ≤ vec_len d.uris
  pub elements : AreElementRows (vec_len d.uris) (vec_len d.attributes) (vec_len d.declarations) d.elements.items
  pub attributes : All (λ a. a.name.uri < vec_len d.uris) d.attributes.items
  pub declarations : All (λ n. n.uri < vec_len d.uris) d.declarations.items
  pub texts : All (λ t. (t.parent < vec_len d.elements) × (0 < string_len t.content)) d.texts.items
