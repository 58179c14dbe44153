-- The tables hold the open elements behind a text and behind an element that ends.
use Rattle.std.proofs.Common.{◌≡◌, ℕ, ◌+◌, ◌<◌, ◌≤◌, ◌≢◌, List, [], ◌∷◌, ◌++◌, length, set, refl, sym, ap, ◌∙◌, subst, arith, ⊎_elim, inr, length-append, Some}
use Rattle.std.specs.Prelude.{IfSome, slice_get, string_bytes, encode_utf8_all}
use Rattle.std.proofs.lemmas.Option.{none-some}
use Rattle.std.proofs.lemmas.List.{append-nil, length-set}
use Rattle.rn_xml.specs.Infoset.{element, characters, no_nodes, more_nodes}
use Rattle.rn_xml.specs.XmlDocuments.{with_characters}
use Rattle.rn_xml.specs.DocumentTables.{AreTables}
use Rattle.rn_xml.specs.DocumentTrees.{AreChildren, HoldsRoot, ComesBeforeElement, ComesBeforeText}
use Rattle.rn_xml.specs.declared.document.XmlElement.{XmlElement}
use Rattle.rn_xml.specs.declared.document.XmlText.{XmlText}
use Rattle.rn_xml.specs.declared.document.XmlDocument.{XmlDocument}
use Rattle.rn_xml.specs.inside.OpenElements.{OpenElement, joined, finished, with_children, parent_of}
use Rattle.rn_xml.specs.inside.OpenTables.{node_of, HoldsOpen, HoldsClosed, ArePlacedBefore}
use Rattle.rn_xml.proofs.Openings.OpenSteps.{joined_nil}
use Rattle.rn_xml.proofs.RowReads.{got_last, got_cases, set_same, set_other, set_keeps}
use Rattle.rn_xml.proofs.TableGrowth.{IsKept, children_joined, kept_children, kept_open}
use Rattle.rn_xml.proofs.Openings.OpenRows.{NamesGrow, nodes_grow, RowsGrow, grown_keeps, no_row_there}

-- nothing is added to the innermost
pub same_holds : (d : XmlDocument) (e : OpenElement) (around : List OpenElement) (n t : ℕ) → HoldsOpen d (e ∷ around) n t → HoldsOpen d (with_children e no_nodes ∷ around) n t
same_holds d e around n t holds = (
  record { row = holds.0.row; there = holds.0.there; has_parent = holds.0.has_parent; before = holds.0.before; is = holds.0.is; named = holds.0.named },
  subst (λ k. AreChildren d e.index (e.index + 1) e.texts k n t) (sym (joined_nil e.children)) holds.1,
  holds.2,
)

-- the row of a text comes behind
pub text_holds : (d new : XmlDocument) (place : ℕ) (e : OpenElement) (around : List OpenElement) (row : XmlText) → NamesGrow d new
    → new.elements.items ≡ d.elements.items → new.texts.items ≡ d.texts.items ++ row ∷ [] → place ≤ row.at → AreTables d → ArePlacedBefore d place
    → row.parent ≡ e.index → HoldsOpen d (e ∷ around) (length d.elements.items) (length d.texts.items)
    → HoldsOpen new (with_children e (more_nodes (characters (string_bytes row.content)) no_nodes) ∷ around) (length new.elements.items) (length new.texts.items)
text_holds d new place e around row names elements texts behind tables placed parent holds =
    let rows : RowsGrow d new place = record {
      more_elements = [];
      elements = elements ∙ sym (append-nil d.elements.items);
      elements_behind = λ k x h. absurd (none-some x h);
      more_texts = row ∷ [];
      texts = texts;
      texts_behind = λ k x h. ⊎_elim (λ before. absurd (none-some x before)) (λ same. let is_row : row ≡ x = same.1 in subst (λ (y : XmlText). place ≤ y.at) is_row behind) (got_cases [] row k x h);
    } in
    let count : length new.elements.items ≡ length d.elements.items = ap (length {A = XmlElement}) elements in
    let count_texts : length new.texts.items ≡ length d.texts.items + 1 = omega (arith, ap (length {A = XmlText}) texts, length-append d.texts.items (row ∷ [])) in
    let kept : HoldsOpen new (e ∷ around) (length d.elements.items) (length d.texts.items) =
    kept_open d new place (length d.elements.items) (grown_keeps d new place names rows tables) placed (e ∷ around) (length d.elements.items) (length d.texts.items) (omega arith) holds in
    let there : slice_get new.texts.items (length d.texts.items) ≡ Some row = ap (λ l. slice_get l (length d.texts.items)) texts ∙ got_last d.texts.items row in
    let before : ComesBeforeElement new row.at (length d.elements.items) = no_row_there new.elements.items (λ (x : XmlElement). row.at < x.at) (length d.elements.items) (sym count) in
    let one : AreChildren new e.index (length d.elements.items) (length d.texts.items) (more_nodes (characters (string_bytes row.content)) no_nodes) (length d.elements.items) (length d.texts.items + 1) =
    AreChildren.text there parent before AreChildren.none in
    let children : AreChildren new e.index (e.index + 1) e.texts (joined e.children (more_nodes (characters (string_bytes row.content)) no_nodes)) (length new.elements.items) (length new.texts.items) =
    subst (λ n. AreChildren new e.index (e.index + 1) e.texts (joined e.children (more_nodes (characters (string_bytes row.content)) no_nodes)) n (length new.texts.items)) (sym count)
    (subst (λ t. AreChildren new e.index (e.index + 1) e.texts (joined e.children (more_nodes (characters (string_bytes row.content)) no_nodes)) (length d.elements.items) t) (sym count_texts)
    (children_joined kept.1 one)) in
    (record { row = kept.0.row; there = kept.0.there; has_parent = kept.0.has_parent; before = kept.0.before; is = kept.0.is; named = kept.0.named }, children, kept.2)

-- the characters of a text as a child
pub with_text : (cs : List ℕ) (content : List ℕ) → content ≡ encode_utf8_all cs → cs ≢ [] → more_nodes (characters content) no_nodes ≡ with_characters cs no_nodes
with_text [] content e some = absurd (some refl)
with_text (c ∷ cs) content e some = ap (λ t. more_nodes (characters t) no_nodes) e

-- the row of an element ends
pub record IsEnded (d new : XmlDocument) (index : ℕ) : Type 0 where
  pub row : XmlElement
  pub there : slice_get d.elements.items index ≡ Some row
  pub elements : new.elements.items ≡ set d.elements.items index (record row { end = length d.elements.items })
  pub texts : new.texts.items ≡ d.texts.items
  pub names : NamesGrow d new

pub ended_keeps : (d new : XmlDocument) (place index : ℕ) → IsEnded d new index → AreTables d → IsKept d new place index
ended_keeps d new place index ended tables =
    let ends : XmlElement = record ended.row { end = length d.elements.items } in
    record {
      elements = λ k row other there. subst (λ l. slice_get l k ≡ Some row) (sym ended.elements) (set_other d.elements.items index k ends other ∙ there);
      texts = λ k row there. subst (λ l. slice_get l k ≡ Some row) (sym ended.texts) there;
      nodes = λ i row k there. nodes_grow d new ended.names tables i row k there;
      before_element = λ at e low before. subst (λ l. IfSome (slice_get l e) (λ (row : XmlElement). at < row.at)) (sym ended.elements)
          (set_keeps (λ (row : XmlElement). at < row.at) d.elements.items index e ended.row ends ended.there (λ h. h) before);
      before_text = λ at t low before. subst (λ l. IfSome (slice_get l t) (λ (row : XmlText). at < row.at)) (sym ended.texts) before;
    }

-- an element that is open ends
pub close_holds : (d new : XmlDocument) (place : ℕ) (e : OpenElement) (around : List OpenElement) → IsEnded d new e.index → AreTables d → ArePlacedBefore d place
    → HoldsOpen d (e ∷ around) (length d.elements.items) (length d.texts.items)
    → HoldsClosed new around (finished e no_nodes) (length new.elements.items) (length new.texts.items)
close_holds d new place e around ended tables placed holds =
    let keeps : IsKept d new place e.index = ended_keeps d new place e.index ended tables in
    let ends : XmlElement = record ended.row { end = length d.elements.items } in
    let row : XmlElement = holds.0.row in
    let same_row : ended.row ≡ row = let h : Some ended.row ≡ Some row = sym ended.there ∙ holds.0.there in cc in
    let there : slice_get new.elements.items e.index ≡ Some ends = ap (λ l. slice_get l e.index) ended.elements ∙ set_same d.elements.items e.index ended.row ends ended.there in
    let count : length new.elements.items ≡ length d.elements.items = ap (length {A = XmlElement}) ended.elements ∙ length-set d.elements.items e.index ends in
    let count_texts : length new.texts.items ≡ length d.texts.items = ap (length {A = XmlText}) ended.texts in
    let parent : ends.parent ≡ parent_of around = ap (λ (r : XmlElement). r.parent) same_row ∙ holds.0.has_parent in
    let inside : AreChildren new e.index (e.index + 1) e.texts e.children (length d.elements.items) (length d.texts.items) =
    kept_children d new place e.index keeps placed holds.1 (inr (omega arith)) in
    let is : node_of new ends e.children ≡ finished e no_nodes =
    keeps.nodes e.index ended.row e.children ended.there ∙ ap (λ r. node_of d r e.children) same_row ∙ holds.0.is e.children
    ∙ ap (λ k. element e.name e.bound e.attributes k) (sym (joined_nil e.children)) in
    elim around as (λ l. parent_of around ≡ parent_of l → HoldsOpen d l e.index e.texts → HoldsClosed new l (finished e no_nodes) (length new.elements.items) (length new.texts.items)) [
      | [] ↦ λ same outer.
          let root_there : slice_get new.elements.items 0 ≡ Some ends = subst (λ i. slice_get new.elements.items i ≡ Some ends) outer.0 there in
          let at_root : AreChildren new 0 1 0 e.children (length d.elements.items) (length d.texts.items) =
          subst (λ t. AreChildren new 0 1 t e.children (length d.elements.items) (length d.texts.items)) outer.1
          (subst (λ i. AreChildren new i (i + 1) e.texts e.children (length d.elements.items) (length d.texts.items)) outer.0 inside) in
          subst (HoldsRoot new) is
          (HoldsRoot.root root_there (parent ∙ same) (sym count)
          (subst (λ n. AreChildren new 0 1 0 e.children n (length new.texts.items)) (sym count)
          (subst (λ t. AreChildren new 0 1 0 e.children (length d.elements.items) t) (sym count_texts) at_root)))
      | g ∷ gs ↦ λ same outer.
          let kept : HoldsOpen new (g ∷ gs) e.index e.texts = kept_open d new place e.index keeps placed (g ∷ gs) e.index e.texts (omega arith) outer in
          let before : ComesBeforeText new ends.at e.texts = keeps.before_text ends.at e.texts (placed.elements e.index ended.row ended.there)
          (subst (λ (r : XmlElement). ComesBeforeText d r.at e.texts) (sym same_row) holds.0.before) in
          let one : AreChildren new g.index e.index e.texts (more_nodes (finished e no_nodes) no_nodes) (length d.elements.items) (length d.texts.items) =
          subst (λ x. AreChildren new g.index e.index e.texts (more_nodes x no_nodes) (length d.elements.items) (length d.texts.items)) is
          (AreChildren.child there (parent ∙ same) before inside AreChildren.none) in
          let children : AreChildren new g.index (g.index + 1) g.texts (joined g.children (more_nodes (finished e no_nodes) no_nodes)) (length new.elements.items) (length new.texts.items) =
          subst (λ n. AreChildren new g.index (g.index + 1) g.texts (joined g.children (more_nodes (finished e no_nodes) no_nodes)) n (length new.texts.items)) (sym count)
          (subst (λ t. AreChildren new g.index (g.index + 1) g.texts (joined g.children (more_nodes (finished e no_nodes) no_nodes)) (length d.elements.items) t) (sym count_texts)
          (children_joined kept.1 one)) in
          (record { row = kept.0.row; there = kept.0.there; has_parent = kept.0.has_parent; before = kept.0.before; is = kept.0.is; named = kept.0.named }, children, kept.2)
    ] refl holds.2
