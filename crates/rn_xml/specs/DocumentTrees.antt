-- The infoset that the tables of a document hold: an element is followed by its descendants, up to its `end`, and the texts are in
-- text order.
use Rattle.std.specs.Prelude.{◌≡◌, ℕ, ◌+◌, ◌<◌, List, [], Some, None, IfSome, length, slice_get, map, string_bytes}
use Rattle.std.specs.Option.{option_map_or}
use Rattle.rn_text.specs.Texts.{Text}
use Rattle.rn_xml.specs.Infoset.{Name, Attribute, Binding, Node, element, characters, Nodes, no_nodes, more_nodes}
use Rattle.rn_xml.specs.TableRows.{rows_of}
use Rattle.rn_xml.specs.XmlDocuments.{IsXmlDocument}
use Rattle.rn_xml.specs.declared.document.XmlName.{XmlName}
use Rattle.rn_xml.specs.declared.document.XmlElement.{XmlElement}
use Rattle.rn_xml.specs.declared.document.XmlAttribute.{XmlAttribute}
use Rattle.rn_xml.specs.declared.document.XmlDeclaration.{XmlDeclaration}
use Rattle.rn_xml.specs.declared.document.XmlText.{XmlText}
use Rattle.rn_xml.specs.declared.document.XmlDocument.{XmlDocument}

-- the name of the namespace of this index
abbrev pub uri_at_index : XmlDocument → ℕ → Text
uri_at_index d k = option_map_or (λ s. string_bytes s) (slice_get d.uris.items k) []

abbrev pub name_of : XmlDocument → XmlName → Name
name_of d n = record { uri = uri_at_index d n.uri; prefix = n.prefix.now; local = n.local.now }

abbrev pub attribute_of : XmlDocument → XmlAttribute → Attribute
attribute_of d a = record { name = name_of d a.name; value = string_bytes a.value }

abbrev pub binding_of : XmlDocument → XmlDeclaration → Binding
binding_of d b = record { prefix = b.prefix.now; uri = uri_at_index d b.uri }

-- no element from this one on begins before the place; no text does
abbrev pub ComesBeforeElement : XmlDocument → ℕ → ℕ → Type 0
ComesBeforeElement d at e = IfSome (slice_get d.elements.items e) (λ row. at < row.at)

abbrev pub ComesBeforeText : XmlDocument → ℕ → ℕ → Type 0
ComesBeforeText d at t = IfSome (slice_get d.texts.items t) (λ row. at < row.at)

-- the children of an element, from this element and this text on, and the element and the text that follow them
pub data AreChildren (d : XmlDocument) : (parent e t : ℕ) → Nodes → (behind after : ℕ) → Type 0 where
  none : {parent e t : ℕ} → AreChildren d parent e t no_nodes e t
  text : {parent e t behind after : ℕ} {row : XmlText} {k : Nodes} → slice_get d.texts.items t ≡ Some row → row.parent ≡ parent
      → ComesBeforeElement d row.at e → AreChildren d parent e (t + 1) k behind after
      → AreChildren d parent e t (more_nodes (characters (string_bytes row.content)) k) behind after
  child : {parent e t mid behind after : ℕ} {row : XmlElement} {inside k : Nodes} → slice_get d.elements.items e ≡ Some row → row.parent ≡ Some parent
      → ComesBeforeText d row.at t → AreChildren d e (e + 1) t inside row.end mid → AreChildren d parent row.end mid k behind after
      → AreChildren d parent e t (more_nodes (element (name_of d row.name) (map (binding_of d) (rows_of row.declarations d.declarations.items))
      (map (attribute_of d) (rows_of row.attributes d.attributes.items)) inside) k) behind after

-- the tables hold this root, and nothing else
pub data HoldsRoot (d : XmlDocument) : Node → Type 0 where
  root : {row : XmlElement} {inside : Nodes} → slice_get d.elements.items 0 ≡ Some row → row.parent ≡ None → row.end ≡ length d.elements.items
      → AreChildren d 0 1 0 inside (length d.elements.items) (length d.texts.items)
      → HoldsRoot d (element (name_of d row.name) (map (binding_of d) (rows_of row.declarations d.declarations.items))
      (map (attribute_of d) (rows_of row.attributes d.attributes.items)) inside)

-- the tables hold what these characters are as a document
pub record IsReadFrom (cs : List ℕ) (d : XmlDocument) : Type 0 where
  pub root : Node
  pub is_document : IsXmlDocument cs root
  pub holds : HoldsRoot d root
