-- The elements that are open in the middle of a document, and the terms that are still to be added.
use Rattle.std.specs.Prelude.{◌≡◌, ℕ, ◌<◌, Some, List, [], ◌∷◌, ◌++◌, is_some, slice_get, codes}
use Rattle.rn_xml.specs.Infoset.{Nodes}
use Rattle.rn_xml.specs.XmlTags.{Scope, AreDistinct}
use Rattle.rn_xml.specs.DocumentTrees.{AreChildren}
use Rattle.rn_xml.specs.declared.document.XmlElement.{XmlElement}
use Rattle.rn_xml.specs.declared.document.XmlDocument.{XmlDocument}
use Rattle.rn_translate.specs.Terms.{Term}
use Rattle.rn_translate.specs.SchemaElements.{value_of}
use Rattle.rn_translate.specs.Layouts.{Written, layout}
use Rattle.rn_translate.specs.Translation.{children}
use Rattle.rn_translate.specs.inside.Meanings.{known, layout_meant, sign_terms, terms_meant, uri_meant}
use Rattle.rn_translate.specs.inside.Walks.{AreNested, IsOutside}
use Rattle.rn_translate.specs.inside.ElementsMeant.{IsInScope, attributes_at, declared_at}
use Rattle.rn_translate.specs.declared.translator.Level.{Level}
use Rattle.rn_translate.specs.declared.translator.Open.{Open}
use Rattle.rn_translate.specs.declared.translator.Translator.{Translator}

-- each element ends behind itself, and none declares a prefix twice
pub record AreSound (d : XmlDocument) : Type 0 where
  pub nested : AreNested d
  pub distinct : (k : ℕ) (row : XmlElement) → slice_get d.elements.items k ≡ Some row → AreDistinct (declared_at d row)

-- nothing is walked yet
pub record IsAtStart (t : Translator) : Type 0 where
  pub text : t.text ≡ 0
  pub terms : t.terms.items ≡ []
  pub scope : IsInScope t []

-- ---- what is still to be added

-- an element that is open: how it is written, how many of its children have begun, those that haven't, and the terms that come behind it
-- in the element around it
pub record OpenElement : Type 0 where
  pub written : Written
  pub begun : ℕ
  pub left : Nodes
  pub behind : List Term

-- the terms that are left of these elements, the innermost first
abbrev pub terms_left : List OpenElement → List Term
terms_left [] = []
terms_left (o ∷ around) = children o.written (layout o.written o.written.kind) o.begun o.left
    ++ ((layout o.written o.written.kind).behind ++ (o.behind ++ terms_left around))

-- what the prefixes mean in the innermost
abbrev pub scope_in : List OpenElement → Scope
scope_in [] = []
scope_in (o ∷ around) = o.written.context.scope

-- ---- levels of the code

-- it is of the element of this row and index
pub record IsOpenOf (row : XmlElement) (index : ℕ) (o : Open) : Type 0 where
  pub index_is : o.index ≡ index
  pub end_is : o.«end» ≡ row.«end»

-- none of its children has begun
pub record IsLevelOf (row : XmlElement) (index : ℕ) (l : Level) : Type 0 where
  pub opened : IsOpenOf row index l.«open»
  pub begun : l.begun.count ≡ 0

-- the level is of the element of this row, which is written so, with so many children begun and these terms behind it
pub record IsLevel (t : Translator) (row : XmlElement) (l : Level) (e : Written) (begun : ℕ) (behind : List Term) : Type 0 where
  pub there : slice_get t.document.now.elements.items l.«open».index ≡ Some row
  pub end_is : l.«open».«end» ≡ row.«end»
  pub kind : l.«open».holder.kind ≡ e.kind
  pub named : l.«open».holder.is_named ≡ is_some (value_of (codes "name") e.attributes)
  pub attributes : e.attributes ≡ attributes_at t.document.now row
  pub count : l.«open».children.count ≡ e.count
  pub except : l.«open».children.has_except ≡ e.has_except
  pub standing : l.«open».place.standing ≡ e.place.standing
  pub is_first : l.«open».place.is_first ≡ e.place.is_first
  pub is_last : l.«open».place.is_last ≡ e.place.is_last
  pub is_root : l.«open».place.is_root ≡ e.place.is_root
  pub default : uri_meant t.uris t.default ≡ Some e.default
  pub namespace : uri_meant t.uris l.«open».context.namespace ≡ Some e.context.namespace
  pub library : uri_meant t.uris l.«open».context.library ≡ Some e.context.library
  pub bare : uri_meant t.uris l.«open».context.bare ≡ Some e.context.bare
  pub layout_is : layout_meant l.layout ≡ layout e e.kind
  pub begun_is : l.begun.count ≡ begun
  pub behind_is : sign_terms l.behind ≡ behind

-- the levels, the innermost last, are these open elements, where this element and this text come next
pub data AreOpen (t : Translator) : List Level → (next text : ℕ) → List OpenElement → Type 0 where
  none : {next text : ℕ} → AreOpen t [] next text []
  more : {levels outer : List Level} {l : Level} {row : XmlElement} {o : OpenElement} {around : List OpenElement} {next text after : ℕ} → levels ≡ outer ++ l ∷ []
      → IsLevel t row l o.written o.begun o.behind → AreChildren t.document.now l.«open».index next text o.left row.«end» after
      → IsOutside t.document.now l.«open».index row.«end» after → l.«open».index < next → l.begun.count < next
      → o.written.context.scope ≡ declared_at t.document.now row ++ scope_in around → AreOpen t outer row.«end» after around
      → AreOpen t levels next text (o ∷ around)

-- since the start only terms, scopes and the next text have changed. The terms so far and those that are left are the whole
pub record IsWalked (start now : Translator) (levels : List Level) (next : ℕ) (whole : List Term) : Type 0 where
  pub same : now ≡ record start { terms = now.terms; scopes = now.scopes; text = now.text }
  pub sound : AreSound start.document.now
  pub opened : List OpenElement
  pub are_open : AreOpen start levels next now.text opened
  pub scope : IsInScope now (scope_in opened)
  pub terms : terms_meant now.uris now.terms.items ++ known (terms_left opened) ≡ known whole
