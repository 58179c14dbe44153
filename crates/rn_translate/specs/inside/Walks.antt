-- The walk over the tables of a document, and the tree that they hold.
use Rattle.std.specs.Prelude.{◌≡◌, ◌≢◌, ◌==◌, ℕ, ◌+◌, ◌<◌, ◌≤◌, [], Some, if◌then◌else◌, map, slice_get, string_bytes}
use Rattle.std.specs.Option.{option_map_or}
use Rattle.rn_xml.specs.Infoset.{Node, element, characters, Nodes, more_nodes}
use Rattle.rn_xml.specs.TableRows.{rows_of}
use Rattle.rn_xml.specs.DocumentTrees.{AreChildren, ComesBeforeElement, ComesBeforeText, name_of, binding_of, attribute_of}
use Rattle.rn_xml.specs.declared.document.XmlElement.{XmlElement}
use Rattle.rn_xml.specs.declared.document.XmlText.{XmlText}
use Rattle.rn_xml.specs.declared.document.XmlDocument.{XmlDocument}
use Rattle.rn_text.specs.Texts.{Text}

-- an element ends behind itself
abbrev pub AreNested : XmlDocument → Type 0
AreNested d = (k : ℕ) (row : XmlElement) → slice_get d.elements.items k ≡ Some row → k < row.end

-- the element of this row, with these children
abbrev pub node_at : XmlDocument → XmlElement → Nodes → Node
node_at d row inside = element (name_of d row.name) (map (binding_of d) (rows_of row.declarations d.declarations.items))
    (map (attribute_of d) (rows_of row.attributes d.attributes.items)) inside

-- the nodes without characters at their front
pub data Skips : Nodes → Nodes → Type 0 where
  nothing : {k : Nodes} → Skips k k
  text : {x : Text} {k j : Nodes} → Skips k j → Skips (more_nodes (characters x) k) j

-- the children begin with characters and the child of this index; `mid` is the text behind it
pub record NextChild (d : XmlDocument) (parent e t : ℕ) (k : Nodes) (behind after : ℕ) : Type 0 where
  pub row : XmlElement
  pub inside : Nodes
  pub rest : Nodes
  pub text : ℕ
  pub mid : ℕ
  pub there : slice_get d.elements.items e ≡ Some row
  pub has_parent : row.parent ≡ Some parent
  pub before : ComesBeforeText d row.at text
  pub inner : AreChildren d e (e + 1) text inside row.end mid
  pub outer : AreChildren d parent row.end mid rest behind after
  pub skips : Skips k (more_nodes (node_at d row inside) rest)

-- the content of the text of this index, if it is in the element of that index
abbrev pub content_at : XmlDocument → ℕ → ℕ → Text
content_at d t e = option_map_or (λ (row : XmlText). if row.parent == e then string_bytes row.content else []) (slice_get d.texts.items t) []

-- the children of the element of this index, which are no elements: from this text on, up to one that isn't in it
pub record IsContent (d : XmlDocument) (e t : ℕ) (k : Nodes) (after : ℕ) : Type 0 where
  pub children : AreChildren d e (e + 1) t k (e + 1) after
  pub ends : (row : XmlText) → slice_get d.texts.items after ≡ Some row → row.parent ≢ e

-- the text of this index is in none of the elements from the first up to the second
abbrev pub IsOutside : XmlDocument → (from behind t : ℕ) → Type 0
IsOutside d from behind t = (row : XmlText) → slice_get d.texts.items t ≡ Some row → from ≤ row.parent → behind ≤ row.parent

-- no text of the element `parent` from this one on comes before the element `e` any more
abbrev pub AreTextsPassed : XmlDocument → (parent e t : ℕ) → Type 0
AreTextsPassed d parent e t = (row : XmlText) → slice_get d.texts.items t ≡ Some row → row.parent ≡ parent → ¬ ComesBeforeElement d row.at e

-- what is left of the children behind characters at their front
pub record TextsSkipped (d : XmlDocument) (parent e t : ℕ) (k : Nodes) (behind after : ℕ) : Type 0 where
  pub rest : Nodes
  pub children : AreChildren d parent e t rest behind after
  pub skips : Skips k rest
