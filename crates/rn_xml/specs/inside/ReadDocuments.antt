-- A document as far as it is read.
use Rattle.std.specs.Prelude.{◌≡◌, ℕ, ◌-◌, Bool, List, [], ◌∷◌, All, length, if◌then◌else◌}
use Rattle.rn_text.specs.Texts.{Text}
use Rattle.rn_xml.specs.Infoset.{Node, no_nodes}
use Rattle.rn_xml.specs.PrefixScopes.{around}
use Rattle.rn_xml.specs.XmlTags.{MayBind, IsTagFront}
use Rattle.rn_xml.specs.XmlDocuments.{IsElement}
use Rattle.rn_xml.specs.DocumentTrees.{HoldsRoot}
use Rattle.rn_xml.specs.declared.document.XmlDocument.{XmlDocument}
use Rattle.rn_xml.specs.declared.tags.TagReader.{TagReader}
use Rattle.rn_xml.specs.inside.Fronts.{IsBare}
use Rattle.rn_xml.specs.inside.KnownTexts.{KnowsUris}
use Rattle.rn_xml.specs.inside.OpenElements.{OpenElement, scope_of, rows_opened, Needs, Reads, TakesElement, TakesEnd}
use Rattle.rn_xml.specs.inside.OpenTables.{HoldsOpen, HoldsClosed, ArePlacedBefore, binding_at, Denotes}
use Rattle.rn_xml.specs.inside.Rests.{source}

-- the reader has these elements open and what is read of them, all before this place
pub record AreOpen (r : TagReader) (opened : List OpenElement) (place : ℕ) : Type 0 where
  pub holds : HoldsOpen r.tables.document opened (length r.tables.document.elements.items) (length r.tables.document.texts.items)
  pub rows : r.opened.items ≡ rows_opened opened
  pub denotes : (q : Text) → Denotes (binding_at r.tables.document) q (scope_of opened) (around r.scopes q)
  pub may_bind : All MayBind (scope_of opened)
  pub placed : ArePlacedBefore r.tables.document place
  pub knows : KnowsUris r.tables

-- the same, where this element has ended in them
pub record IsClosed (r : TagReader) (opened : List OpenElement) (x : Node) (place : ℕ) : Type 0 where
  pub holds : HoldsClosed r.tables.document opened x (length r.tables.document.elements.items) (length r.tables.document.texts.items)
  pub rows : r.opened.items ≡ rows_opened opened
  pub denotes : (q : Text) → Denotes (binding_at r.tables.document) q (scope_of opened) (around r.scopes q)
  pub may_bind : All MayBind (scope_of opened)
  pub placed : ArePlacedBefore r.tables.document place
  pub knows : KnowsUris r.tables

-- the place behind which so much of the reader's text is left
abbrev pub place_of : TagReader → Text → ℕ
place_of r rest = r.len - length rest

-- the characters are a root, which the tables hold, and then the rest
abbrev pub IsRootRead : List ℕ → XmlDocument → List ℕ → Type 0
IsRootRead cs d rest = (x : Node) × IsElement [] cs x rest × HoldsRoot d x

-- the characters are read up to this rest: within open elements, or the root has ended
pub data IsReading (cs : List ℕ) (r : TagReader) (rest : Text) : Type 0 where
  within : (e : OpenElement) (outer : List OpenElement) → Reads cs e outer (source rest) → Needs cs (e ∷ outer) (source rest) → AreOpen r (e ∷ outer) (place_of r rest) → IsReading cs r rest
  done : r.opened.items ≡ [] → IsRootRead cs r.tables.document (source rest) → Needs cs [] (source rest) → IsReading cs r rest

-- a start tag, or that of an element without content, was read, and its element is open
pub record OpensTag (old new : TagReader) (opened : List OpenElement) (tag rest : Text) (is_empty : Bool) : Type 0 where
  pub e : OpenElement
  pub none : e.children ≡ no_nodes
  pub front : IsTagFront (scope_of opened) (source tag) e.qname e.name e.bound e.attributes (if is_empty then 47 ∷ 62 ∷ source rest else 62 ∷ source rest)
  pub opens : AreOpen new (e ∷ opened) (place_of new rest)

-- the characters are read up to a tag in the element of this row, which may be an element's or its end
pub record IsAtTag (cs : List ℕ) (r : TagReader) (parent : ℕ) (tag : Text) : Type 0 where
  pub e : OpenElement
  pub outer : List OpenElement
  pub is_parent : parent ≡ e.index
  pub opens : AreOpen r (e ∷ outer) (place_of r tag)
  pub takes : TakesElement cs (e ∷ outer) (source tag)
  pub ends : TakesEnd cs e outer (source tag)
  pub needs : Needs cs (e ∷ outer) (source tag)
  pub bare : IsBare (source tag)
