-- The tables hold the open elements behind a start tag, a text and an end tag.
use Rattle.std.proofs.Common.{◌≡◌, ℕ, ◌+◌, ◌<◌, ◌≤◌, List, [], ◌∷◌, ◌++◌, length, sym, ap, ◌∙◌, subst, arith, ⊎_elim, length-append, Some}
use Rattle.std.specs.Prelude.{IfSome, All, slice_get, map, string_bytes, vec_len, String}
use Rattle.std.specs.Option.{option_map_or}
use Rattle.std.proofs.lemmas.Option.{none-some, slice_get_within, get_or_from_slice_get}
use Rattle.std.proofs.lemmas.List.{append-nil}
use Rattle.std.specs.declared.alloc.Global.{Global}
use Rattle.rn_text.specs.Texts.{Text}
use Rattle.rn_xml.specs.Infoset.{Name, Binding, Attribute, Node, element, Nodes, no_nodes}
use Rattle.rn_xml.specs.TableRows.{rows_of}
use Rattle.std.specs.Str.{chars, IsUtf8}
use Rattle.rn_xml.specs.XmlTags.{IsQName}
use Rattle.rn_xml.specs.DocumentTables.{IsElementRow, AreTables}
use Rattle.rn_xml.specs.DocumentTrees.{name_of, binding_of, attribute_of, uri_at_index, AreChildren}
use Rattle.rn_xml.specs.declared.document.Rows.{Rows}
use Rattle.rn_xml.specs.declared.document.XmlName.{XmlName}
use Rattle.rn_xml.specs.declared.document.XmlElement.{XmlElement}
use Rattle.rn_xml.specs.declared.document.XmlAttribute.{XmlAttribute}
use Rattle.rn_xml.specs.declared.document.XmlDeclaration.{XmlDeclaration}
use Rattle.rn_xml.specs.declared.document.XmlText.{XmlText}
use Rattle.rn_xml.specs.declared.document.XmlDocument.{XmlDocument}
use Rattle.rn_xml.specs.inside.OpenElements.{OpenElement, parent_of}
use Rattle.rn_xml.specs.inside.OpenTables.{node_of, HoldsOpen, ArePlacedBefore}
use Rattle.rn_xml.proofs.RowReads.{got_left, got_last, got_cases, if_some, got_more, rows_grow_longer, rows_all, map_same, got_within}
use Rattle.rn_xml.proofs.TableGrowth.{IsKept, kept_open}

-- the tables of names, attributes and declarations go on
pub record NamesGrow (d new : XmlDocument) : Type 0 where
  pub more_uris : List (String Global)
  pub uris : new.uris.items ≡ d.uris.items ++ more_uris
  pub more_attributes : List XmlAttribute
  pub attributes : new.attributes.items ≡ d.attributes.items ++ more_attributes
  pub more_declarations : List XmlDeclaration
  pub declarations : new.declarations.items ≡ d.declarations.items ++ more_declarations

module _ (d new : XmlDocument) (grow : NamesGrow d new) where
  pub uri_grows : (k : ℕ) → k < vec_len d.uris → uri_at_index new k ≡ uri_at_index d k
  uri_grows k within =
      ap (λ l. option_map_or (λ (s : String Global). string_bytes s) (slice_get l k) []) grow.uris
      ∙ ap (λ o. option_map_or (λ (s : String Global). string_bytes s) o []) (got_within d.uris.items grow.more_uris k (omega (arith, d.uris.ok.0)))

  pub name_grows : (n : XmlName) → n.uri < vec_len d.uris → name_of new n ≡ name_of d n
  name_grows n within =
      let make : Text → Name = λ u. record { uri = u; prefix = n.prefix.now; local = n.local.now } in
      ap make (uri_grows n.uri within)

  pub binding_grows : (b : XmlDeclaration) → b.uri < vec_len d.uris → binding_of new b ≡ binding_of d b
  binding_grows b within =
      let make : Text → Binding = λ u. record { prefix = b.prefix.now; uri = u } in
      ap make (uri_grows b.uri within)

  attribute_grows : (a : XmlAttribute) → a.name.uri < vec_len d.uris → attribute_of new a ≡ attribute_of d a
  attribute_grows a within =
      let make : Name → Attribute = λ n. record { name = n; value = string_bytes a.value } in
      ap make (name_grows a.name within)

  bindings_grow : (r : Rows) → r.from ≤ r.to → r.to ≤ vec_len d.declarations → All (λ (b : XmlDeclaration). b.uri < vec_len d.uris) d.declarations.items
      → map (binding_of new) (rows_of r new.declarations.items) ≡ map (binding_of d) (rows_of r d.declarations.items)
  bindings_grow r ordered within all =
      let inside : r.to ≤ length d.declarations.items = omega (arith, d.declarations.ok.0) in
      ap (λ l. map (binding_of new) (rows_of r l)) grow.declarations
      ∙ ap (map (binding_of new)) (rows_grow_longer r d.declarations.items grow.more_declarations ordered inside)
      ∙ map_same (λ (b : XmlDeclaration). b.uri < vec_len d.uris) (binding_of new) (binding_of d) (rows_of r d.declarations.items) binding_grows
      (rows_all (λ (b : XmlDeclaration). b.uri < vec_len d.uris) r d.declarations.items ordered inside all)

  attributes_grow : (r : Rows) → r.from ≤ r.to → r.to ≤ vec_len d.attributes → All (λ (a : XmlAttribute). a.name.uri < vec_len d.uris) d.attributes.items
      → map (attribute_of new) (rows_of r new.attributes.items) ≡ map (attribute_of d) (rows_of r d.attributes.items)
  attributes_grow r ordered within all =
      let inside : r.to ≤ length d.attributes.items = omega (arith, d.attributes.ok.0) in
      ap (λ l. map (attribute_of new) (rows_of r l)) grow.attributes
      ∙ ap (map (attribute_of new)) (rows_grow_longer r d.attributes.items grow.more_attributes ordered inside)
      ∙ map_same (λ (a : XmlAttribute). a.name.uri < vec_len d.uris) (attribute_of new) (attribute_of d) (rows_of r d.attributes.items) attribute_grows
      (rows_all (λ (a : XmlAttribute). a.name.uri < vec_len d.uris) r d.attributes.items ordered inside all)

  -- an element's node is the same
  pub nodes_grow : AreTables d → (i : ℕ) (row : XmlElement) (k : Nodes) → slice_get d.elements.items i ≡ Some row → node_of new row k ≡ node_of d row k
  nodes_grow tables i row k there =
      let sound : IsElementRow (vec_len d.uris) (vec_len d.attributes) (vec_len d.declarations) (length d.elements.items) i row =
      subst (IsElementRow (vec_len d.uris) (vec_len d.attributes) (vec_len d.declarations) (length d.elements.items) i)
      (get_or_from_slice_get d.elements.items i row row there) (tables.elements i row (slice_get_within d.elements.items i row there)) in
      let make : Name → List Binding → List Attribute → Node = λ n b a. element n b a k in
      ap (λ n. make n (map (binding_of new) (rows_of row.declarations new.declarations.items)) (map (attribute_of new) (rows_of row.attributes new.attributes.items))) (name_grows row.name sound.namespace)
      ∙ ap (λ b. make (name_of d row.name) b (map (attribute_of new) (rows_of row.attributes new.attributes.items))) (bindings_grow row.declarations sound.has_declarations.0 sound.has_declarations.1 tables.declarations)
      ∙ ap (make (name_of d row.name) (map (binding_of d) (rows_of row.declarations d.declarations.items))) (attributes_grow row.attributes sound.has_attributes.0 sound.has_attributes.1 tables.attributes)

-- elements and texts come behind those that are there, placed behind them
pub record RowsGrow (d new : XmlDocument) (place : ℕ) : Type 0 where
  pub more_elements : List XmlElement
  pub elements : new.elements.items ≡ d.elements.items ++ more_elements
  pub elements_behind : (k : ℕ) (row : XmlElement) → slice_get more_elements k ≡ Some row → place ≤ row.at
  pub more_texts : List XmlText
  pub texts : new.texts.items ≡ d.texts.items ++ more_texts
  pub texts_behind : (k : ℕ) (row : XmlText) → slice_get more_texts k ≡ Some row → place ≤ row.at

pub grown_keeps : (d new : XmlDocument) (place : ℕ) → NamesGrow d new → RowsGrow d new place → AreTables d → IsKept d new place (length d.elements.items)
grown_keeps d new place names rows tables = record {
  elements = λ k row other there. subst (λ l. slice_get l k ≡ Some row) (sym rows.elements) (got_left d.elements.items rows.more_elements k row there);
  texts = λ k row there. subst (λ l. slice_get l k ≡ Some row) (sym rows.texts) (got_left d.texts.items rows.more_texts k row there);
  nodes = λ i row k there. nodes_grow d new names tables i row k there;
  before_element = λ at e low before. subst (λ l. IfSome (slice_get l e) (λ (row : XmlElement). at < row.at)) (sym rows.elements)
      (got_more (λ (row : XmlElement). at < row.at) d.elements.items rows.more_elements e (λ i row h. let behind : place ≤ row.at = rows.elements_behind i row h in omega arith) before);
  before_text = λ at t low before. subst (λ l. IfSome (slice_get l t) (λ (row : XmlText). at < row.at)) (sym rows.texts)
      (got_more (λ (row : XmlText). at < row.at) d.texts.items rows.more_texts t (λ i row h. let behind : place ≤ row.at = rows.texts_behind i row h in omega arith) before);
}

pub no_row_there : {X : Type 0} (xs : List X) (P : X → Type 0) (n : ℕ) → n ≡ length xs → IfSome (slice_get xs n) P
no_row_there xs P n e = if_some P (slice_get xs n) (λ x h. absurd (let within : n < length xs = slice_get_within xs n x h in omega arith))

-- the row of a start tag comes behind
pub open_holds : (d new : XmlDocument) (place : ℕ) (e : OpenElement) (opened : List OpenElement) (row : XmlElement) → NamesGrow d new
    → new.elements.items ≡ d.elements.items ++ row ∷ [] → new.texts.items ≡ d.texts.items → place ≤ row.at → AreTables d → ArePlacedBefore d place
    → row.parent ≡ parent_of opened → ((k : Nodes) → node_of new row k ≡ element e.name e.bound e.attributes k) → e.children ≡ no_nodes → IsQName e.qname (chars e.name.prefix) (chars e.name.local) × IsUtf8 e.name.prefix × IsUtf8 e.name.local
    → e.index ≡ length d.elements.items → e.texts ≡ length d.texts.items
    → HoldsOpen d opened (length d.elements.items) (length d.texts.items) → HoldsOpen new (e ∷ opened) (length new.elements.items) (length new.texts.items)
open_holds d new place e opened row names elements texts behind tables placed parent is none named index at_texts holds =
    let rows : RowsGrow d new place = record {
      more_elements = row ∷ [];
      elements = elements;
      elements_behind = λ k x h. ⊎_elim (λ before. absurd (none-some x before)) (λ same. let is_row : row ≡ x = same.1 in subst (λ (y : XmlElement). place ≤ y.at) is_row behind) (got_cases [] row k x h);
      more_texts = [];
      texts = texts ∙ sym (append-nil d.texts.items);
      texts_behind = λ k x h. absurd (none-some x h);
    } in
    let count : length new.elements.items ≡ e.index + 1 = omega (arith, ap (length {A = XmlElement}) elements, length-append d.elements.items (row ∷ []), index) in
    let count_texts : length new.texts.items ≡ e.texts = ap (length {A = XmlText}) texts ∙ sym at_texts in
    let there : slice_get new.elements.items e.index ≡ Some row = ap (λ n. slice_get new.elements.items n) index ∙ ap (λ l. slice_get l (length d.elements.items)) elements ∙ got_last d.elements.items row in
    let around : HoldsOpen new opened (length d.elements.items) (length d.texts.items) =
    kept_open d new place (length d.elements.items) (grown_keeps d new place names rows tables) placed opened (length d.elements.items) (length d.texts.items) (omega arith) holds in
    let children : AreChildren new e.index (e.index + 1) e.texts e.children (length new.elements.items) (length new.texts.items) =
    subst (λ k. AreChildren new e.index (e.index + 1) e.texts k (length new.elements.items) (length new.texts.items)) (sym none)
    (subst (λ n. AreChildren new e.index (e.index + 1) e.texts no_nodes n (length new.texts.items)) (sym count)
    (subst (λ t. AreChildren new e.index (e.index + 1) e.texts no_nodes (e.index + 1) t) (sym count_texts) AreChildren.none)) in (
      record { row = row; there = there; has_parent = parent; before = no_row_there new.texts.items (λ (x : XmlText). row.at < x.at) e.texts (sym count_texts); is = is; named = named },
      children,
      subst (λ t. HoldsOpen new opened e.index t) (sym at_texts) (subst (λ n. HoldsOpen new opened n (length d.texts.items)) (sym index) around),
    )
