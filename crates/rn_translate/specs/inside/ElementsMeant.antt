-- Elements of the code, and what they mean.
use Rattle.std.specs.Prelude.{◌≡◌, ℕ, ◌+◌, true, Some, List, map, is_some, unwrap_or, slice_get, codes}
use Rattle.rn_text.specs.Texts.{Text}
use Rattle.rn_xml.specs.Infoset.{Attribute, Binding, Nodes}
use Rattle.rn_xml.specs.XmlTags.{Scope, AreDistinct}
use Rattle.rn_xml.specs.PrefixScopes.{around}
use Rattle.rn_xml.specs.TableRows.{rows_of}
use Rattle.rn_xml.specs.DocumentTrees.{AreChildren, attribute_of, binding_of, uri_at_index}
use Rattle.rn_xml.specs.inside.OpenTables.{binding_at, Denotes}
use Rattle.rn_xml.specs.declared.document.XmlElement.{XmlElement}
use Rattle.rn_xml.specs.declared.document.XmlDocument.{XmlDocument}
use Rattle.rn_translate.specs.Terms.{Namespace, uri}
use Rattle.rn_translate.specs.SchemaElements.{Context, holds_text, text_of, value_of}
use Rattle.rn_translate.specs.Layouts.{Place, Written, layout}
use Rattle.rn_translate.specs.inside.UriTables.{HasUrisOf, IsTable, empty_uri}
use Rattle.rn_translate.specs.inside.Meanings.{layout_meant, uri_meant}
use Rattle.rn_translate.specs.inside.Walks.{AreNested, content_at}
use Rattle.rn_translate.specs.Translation.{place_of, written}
use Rattle.rn_translate.specs.declared.kinds.Kind.{Kind}
use Rattle.rn_translate.specs.declared.translator.Context.{Context as CodeContext}
use Rattle.rn_translate.specs.declared.translator.Place.{Place as CodePlace}
use Rattle.rn_translate.specs.declared.translator.Level.{Level}
use Rattle.rn_translate.specs.declared.translator.Open.{Open}
use Rattle.rn_translate.specs.declared.translator.Translator.{Translator}

-- the URIs of the document are known
pub record KnowsUris (t : Translator) : Type 0 where
  pub table : IsTable t.uris
  pub has : HasUrisOf t.uris t.document.now
  pub known : (k : ℕ) → uri_meant t.uris (unwrap_or (slice_get t.document_uris.items k) empty_uri) ≡ Some (uri (uri_at_index t.document.now k))

-- each prefix means what this scope says
pub record IsInScope (t : Translator) (scope : Scope) : Type 0 where
  pub knows : KnowsUris t
  pub declared : (q : Text) → Denotes (binding_at t.document.now) q scope (around t.scopes q)

-- what an element of the code inherits is what the definition says
pub record IsInherited (t : Translator) (around : CodeContext) (schema_default : Namespace) (c : Context) : Type 0 where
  pub default : uri_meant t.uris t.default ≡ Some schema_default
  pub namespace : uri_meant t.uris around.namespace ≡ Some c.namespace
  pub library : uri_meant t.uris around.library ≡ Some c.library
  pub bare : uri_meant t.uris around.bare ≡ Some c.bare
  pub scope : IsInScope t c.scope

-- where it is, too
pub record IsPlaced (p : CodePlace) (q : Place) : Type 0 where
  pub standing : p.standing ≡ q.standing
  pub is_first : p.is_first ≡ q.is_first
  pub is_last : p.is_last ≡ q.is_last
  pub is_root : p.is_root ≡ q.is_root

-- the attributes of an element
abbrev pub attributes_at : XmlDocument → XmlElement → List Attribute
attributes_at d row = map (attribute_of d) (rows_of row.attributes d.attributes.items)

-- the namespaces that it declares, in the order of the text
abbrev pub declared_at : XmlDocument → XmlElement → List Binding
declared_at d row = map (binding_of d) (rows_of row.declarations d.declarations.items)

-- the element of this index and this kind has these children
pub record HasInside (t : Translator) (row : XmlElement) (index : ℕ) (kind : Kind) (inside : Nodes) : Type 0 where
  pub nested : AreNested t.document.now
  pub after : ℕ
  pub children : AreChildren t.document.now index (index + 1) t.text inside row.end after
  pub text : holds_text kind ≡ true → text_of inside ≡ content_at t.document.now t.text index
  pub distinct : AreDistinct (declared_at t.document.now row)

-- an element that comes next is what is written: in what it inherits, where it is and with what it holds
pub record Comes (t : Translator) (row : XmlElement) (index : ℕ) (kind : Kind) (around : CodeContext) (place : CodePlace) (e : Written) : Type 0 where
  pub default : Namespace
  pub context : Context
  pub place_meant : Place
  pub inside : Nodes
  pub is_inherited : IsInherited t around default context
  pub is_placed : IsPlaced place place_meant
  pub has_inside : HasInside t row index kind inside
  pub is : e ≡ written default context place_meant kind (declared_at t.document.now row) (attributes_at t.document.now row) inside

-- the open element is what is written
pub record IsMeant (t : Translator) (row : XmlElement) (o : Open) (e : Written) : Type 0 where
  pub kind : o.holder.kind ≡ e.kind
  pub named : o.holder.is_named ≡ is_some (value_of (codes "name") e.attributes)
  pub attributes : e.attributes ≡ attributes_at t.document.now row
  pub text : holds_text e.kind ≡ true → e.text ≡ content_at t.document.now t.text o.index
  pub count : o.children.count ≡ e.count
  pub except : o.children.has_except ≡ e.has_except
  pub standing : o.place.standing ≡ e.place.standing
  pub is_first : o.place.is_first ≡ e.place.is_first
  pub is_last : o.place.is_last ≡ e.place.is_last
  pub is_root : o.place.is_root ≡ e.place.is_root
  pub default : uri_meant t.uris t.default ≡ Some e.default
  pub namespace : uri_meant t.uris o.context.namespace ≡ Some e.context.namespace
  pub library : uri_meant t.uris o.context.library ≡ Some e.context.library
  pub bare : uri_meant t.uris o.context.bare ≡ Some e.context.bare
  pub scope : IsInScope t e.context.scope

-- a child of the innermost level is what is written next, after the children that have begun
pub record IsChildOf (t : Translator) (row : XmlElement) (level : Level) (child : XmlElement) (index : ℕ) (kind : Kind) (f e : Written) : Type 0 where
  pub around : IsMeant t row level.«open» f
  pub layout_is : layout_meant level.layout ≡ layout f f.kind
  pub inside : Nodes
  pub has_inside : HasInside t child index kind inside
  pub is : e ≡ written f.default f.context (place_of f (layout f f.kind) level.begun.count) kind (declared_at t.document.now child) (attributes_at t.document.now child) inside
