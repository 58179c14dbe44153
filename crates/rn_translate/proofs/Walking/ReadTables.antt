-- The tables of a document that is read: elements end behind themselves, and declare each prefix once.
use Rattle.std.proofs.Common.{◌≡◌, ℕ, ◌+◌, ◌<◌, ◌≤◌, List, [], ◌∷◌, sym, ap, ◌∙◌, subst, arith, ⊎_elim, Some}
use Rattle.std.specs.Prelude.{◌==◌, slice_get, nat_lt}
use Rattle.std.proofs.lemmas.Bool.{cases_Bool}
use Rattle.std.proofs.lemmas.Bool.Decides.{nat_tests}
use Rattle.std.proofs.lemmas.Option.{same_Some, slice_get_within}
use Rattle.rn_xml.specs.Infoset.{Name, Binding, Attribute, Node, element, characters, Nodes, no_nodes, more_nodes}
use Rattle.rn_xml.specs.XmlTags.{AreDistinct, Scope}
use Rattle.rn_xml.specs.XmlDocuments.{IsElement, IsContent, IsProduced, with_characters}
use Rattle.rn_xml.specs.DocumentTrees.{AreChildren, HoldsRoot, IsReadFrom}
use Rattle.rn_xml.specs.declared.document.XmlElement.{XmlElement}
use Rattle.rn_xml.specs.declared.document.XmlDocument.{XmlDocument}
use Rattle.rn_translate.specs.inside.ElementsMeant.{declared_at}
use Rattle.rn_translate.specs.inside.OpenLevels.{AreSound}
use Rattle.rn_translate.proofs.Walking.TreeTexts.{ends_behind}

-- ---- in the tree

mutual
  -- the element declares each prefix once, and those in it do
  data IsDistinct : Node → Type 0 where
    of_characters : {text : List ℕ} → IsDistinct (characters text)
    of_element : {n : Name} {bound : List Binding} {attributes : List Attribute} {k : Nodes} → AreDistinct bound → AreAllDistinct k → IsDistinct (element n bound attributes k)

  data AreAllDistinct : Nodes → Type 0 where
    no_more : AreAllDistinct no_nodes
    and_more : {x : Node} {k : Nodes} → IsDistinct x → AreAllDistinct k → AreAllDistinct (more_nodes x k)

with_distinct : (text : List ℕ) {k : Nodes} → AreAllDistinct k → AreAllDistinct (with_characters text k)
with_distinct [] all = all
with_distinct (c ∷ cs) all = AreAllDistinct.and_more IsDistinct.of_characters all

mutual
  element_distinct : {around : Scope} {cs rest : List ℕ} {x : Node} → IsElement around cs x rest → IsDistinct x
  element_distinct (IsElement.empty front) = IsDistinct.of_element front.distinct AreAllDistinct.no_more
  element_distinct (IsElement.tags front content end) = IsDistinct.of_element front.distinct (content_distinct content)

  content_distinct : {around : Scope} {cs rest : List ℕ} {k : Nodes} → IsContent around cs k rest → AreAllDistinct k
  content_distinct (IsContent.last {text = text} are) = with_distinct text AreAllDistinct.no_more
  content_distinct (IsContent.more {text = text} are first others) = with_distinct text (AreAllDistinct.and_more (element_distinct first) (content_distinct others))

document_distinct : {cs : List ℕ} {x : Node} → IsProduced cs x → IsDistinct x
document_distinct (IsProduced.document declares before root behind) = element_distinct root

-- ---- in the tables

rows_nested : {d : XmlDocument} {p e t behind after : ℕ} {k : Nodes} → AreChildren d p e t k behind after → (i : ℕ) (row : XmlElement) → e ≤ i → i < behind
    → slice_get d.elements.items i ≡ Some row → i < row.«end»
rows_nested AreChildren.none i row from to here = absurd (omega (arith, from, to))
rows_nested (AreChildren.text there is before more) i row from to here = rows_nested more i row from to here
rows_nested {d = d} {e = e} (AreChildren.child {row = first} there is before inner more) i row from to here = ⊎_elim
    (λ this.
    let at : e ≡ i = grind (arith, nat_tests) in
    let same : first ≡ row = same_Some first row (sym there ∙ ap (slice_get d.elements.items) at ∙ here) in
    omega (arith, at, ends_behind inner, ap (λ (r : XmlElement). r.«end») same))
    (λ other.
    let later : e + 1 ≤ i = grind (arith, nat_tests) in
    ⊎_elim (λ low. rows_nested inner i row later (grind (arith, nat_tests)) here) (λ high. rows_nested more i row (grind (arith, nat_tests)) to here) (cases_Bool (nat_lt i first.«end»)))
    (cases_Bool (e == i))

rows_distinct : {d : XmlDocument} {p e t behind after : ℕ} {k : Nodes} → AreChildren d p e t k behind after → AreAllDistinct k → (i : ℕ) (row : XmlElement) → e ≤ i → i < behind
    → slice_get d.elements.items i ≡ Some row → AreDistinct (declared_at d row)
rows_distinct AreChildren.none all i row from to here = absurd (omega (arith, from, to))
rows_distinct (AreChildren.text there is before more) (AreAllDistinct.and_more first all) i row from to here = rows_distinct more all i row from to here
rows_distinct {d = d} {e = e} (AreChildren.child {row = first} there is before inner more) (AreAllDistinct.and_more (IsDistinct.of_element distinct within) all) i row from to here = ⊎_elim
    (λ this.
    let at : e ≡ i = grind (arith, nat_tests) in
    let same : first ≡ row = same_Some first row (sym there ∙ ap (slice_get d.elements.items) at ∙ here) in
    subst (λ (r : XmlElement). AreDistinct (declared_at d r)) same distinct)
    (λ other.
    let later : e + 1 ≤ i = grind (arith, nat_tests) in
    ⊎_elim (λ low. rows_distinct inner within i row later (grind (arith, nat_tests)) here) (λ high. rows_distinct more all i row (grind (arith, nat_tests)) to here)
    (cases_Bool (nat_lt i first.«end»)))
    (cases_Bool (e == i))

sound_root : {d : XmlDocument} {x : Node} → HoldsRoot d x → IsDistinct x → AreSound d
sound_root {d = d} (HoldsRoot.root {row = first} there parent end inner) (IsDistinct.of_element distinct within) = record {
  nested = λ i row here. ⊎_elim
      (λ this.
      let at : 0 ≡ i = grind (arith, nat_tests) in
      let same : first ≡ row = same_Some first row (sym there ∙ ap (slice_get d.elements.items) at ∙ here) in
      omega (arith, at, end, slice_get_within d.elements.items i row here, ap (λ (r : XmlElement). r.«end») same))
      (λ other. rows_nested inner i row (grind (arith, nat_tests)) (slice_get_within d.elements.items i row here) here)
      (cases_Bool (0 == i));
  distinct = λ i row here. ⊎_elim
      (λ this.
      let at : 0 ≡ i = grind (arith, nat_tests) in
      let same : first ≡ row = same_Some first row (sym there ∙ ap (slice_get d.elements.items) at ∙ here) in
      subst (λ (r : XmlElement). AreDistinct (declared_at d r)) same distinct)
      (λ other. rows_distinct inner within i row (grind (arith, nat_tests)) (slice_get_within d.elements.items i row here) here)
      (cases_Bool (0 == i));
}

pub sound_tables : (cs : List ℕ) (d : XmlDocument) → IsReadFrom cs d → AreSound d
sound_tables cs d is = sound_root is.holds (document_distinct is.is_document)
