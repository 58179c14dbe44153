-- The texts of an element and of those in it, among the texts of a document.
use Rattle.std.proofs.Common.{◌≡◌, ℕ, ◌+◌, ◌<◌, ◌≤◌, sym, ap, ◌∙◌, subst, arith, ⊎_elim, true≢false, refl, Some, None, true, false}
use Rattle.std.specs.Prelude.{◌≢◌, ◌==◌, Option, IfSome, slice_get, nat_lt}
use Rattle.std.specs.Option.{option_map_or}
use Rattle.std.proofs.lemmas.Option.{same_Some}
use Rattle.std.proofs.lemmas.Bool.{cases_Bool}
use Rattle.std.proofs.lemmas.Bool.Decides.{nat_tests}
use Rattle.rn_xml.specs.Infoset.{Nodes, no_nodes, more_nodes}
use Rattle.rn_xml.specs.DocumentTrees.{AreChildren, ComesBeforeElement}
use Rattle.rn_xml.specs.declared.document.XmlElement.{XmlElement}
use Rattle.rn_xml.specs.declared.document.XmlText.{XmlText}
use Rattle.rn_xml.specs.declared.document.XmlDocument.{XmlDocument}
use Rattle.rn_translate.specs.inside.Walks.{AreTextsPassed, IsOutside, Skips, TextsSkipped, node_at}

-- ---- where elements and texts are

pub ends_behind : {d : XmlDocument} {p e t behind after : ℕ} {k : Nodes} → AreChildren d p e t k behind after → e ≤ behind
ends_behind AreChildren.none = omega arith
ends_behind (AreChildren.text there is before more) = ends_behind more
ends_behind {e = e} (AreChildren.child {row = row} there is before inner more) = omega (arith, ends_behind inner, ends_behind more)

texts_rise : {d : XmlDocument} {p e t behind after : ℕ} {k : Nodes} → AreChildren d p e t k behind after → t ≤ after
texts_rise AreChildren.none = omega arith
texts_rise (AreChildren.text there is before more) = omega (arith, texts_rise more)
texts_rise (AreChildren.child there is before inner more) = omega (arith, texts_rise inner, texts_rise more)

-- a text is there, and it is in one of the elements from this one up to that one
record IsWithin (d : XmlDocument) (from behind t : ℕ) : Type 0 where
  pub row : XmlText
  pub there : slice_get d.texts.items t ≡ Some row
  pub from_is : from ≤ row.parent
  pub behind_is : row.parent < behind

texts_within : {d : XmlDocument} {p e t behind after : ℕ} {k : Nodes} → AreChildren d p e t k behind after → p < e → (i : ℕ) → t ≤ i → i < after → IsWithin d p behind i
texts_within AreChildren.none below i from to = absurd (omega (arith, from, to))
texts_within {d = d} {p = p} {t = t} {behind = behind} (AreChildren.text {row = row} there is before more) below i from to = ⊎_elim
    (λ same. let at : t ≡ i = grind (arith, nat_tests) in
    record { row = row; there = ap (slice_get d.texts.items) (sym at) ∙ there; from_is = omega (arith, is); behind_is = omega (arith, is, below, ends_behind more) })
    (λ other. texts_within more below i (grind (arith, nat_tests)) to)
    (cases_Bool (t == i))
texts_within {e = e} {behind = behind} (AreChildren.child {mid = mid} {row = row} there is before inner more) below i from to = ⊎_elim
    (λ low. let w = texts_within inner (omega arith) i from (grind (arith, nat_tests)) in
    record { row = w.row; there = w.there; from_is = omega (arith, w.from_is, below); behind_is = omega (arith, w.behind_is, ends_behind more) })
    (λ high. texts_within more (omega (arith, below, ends_behind inner)) i (grind (arith, nat_tests)) to)
    (cases_Bool (nat_lt i mid))

-- a text that is next, and neither in this element nor in one behind those that have been, is behind them all
next_outside : {d : XmlDocument} {p e t behind after : ℕ} {k : Nodes} → AreChildren d p e t k behind after → (row : XmlText) → slice_get d.texts.items t ≡ Some row
    → row.parent ≢ p → row.parent < e → slice_get d.texts.items after ≡ Some row
next_outside AreChildren.none row here other low = here
next_outside {d = d} {p = p} (AreChildren.text {row = first} there is before more) row here other low =
    absurd (other (ap (λ (x : XmlText). x.parent) (sym (same_Some first row (sym there ∙ here))) ∙ is))
next_outside {e = e} (AreChildren.child {row = element} there is before inner more) row here other low =
    next_outside more row (next_outside inner row here (λ same. omega (arith, same, low)) (omega (arith, low))) other (omega (arith, low, ends_behind inner))

-- the text behind a child isn't in it
pub child_outside : {d : XmlDocument} {p e mid end behind after : ℕ} {k : Nodes} → p < e → e < end → AreChildren d p end mid k behind after → IsOutside d p behind after → IsOutside d e end mid
child_outside {d = d} {p = p} {end = end} {behind = behind} below within more outside = λ row here from. ⊎_elim
    (λ inside.
    let low : row.parent < end = grind (arith, nat_tests) in
    let last = next_outside more row here (λ same. omega (arith, same, from, below)) low in
    absurd (omega (arith, outside row last (omega (arith, from, below)), low, ends_behind more)))
    (λ high. grind (arith, nat_tests))
    (cases_Bool (nat_lt row.parent end))

-- ---- the texts of a foreign element

pub foreign_texts : {d : XmlDocument} {e t end after : ℕ} {k : Nodes} → AreChildren d e (e + 1) t k end after → t ≤ after
foreign_texts are = texts_rise are

-- a text of the element isn't behind them all
pub more_foreign : {d : XmlDocument} {e t end after : ℕ} {k : Nodes} (row : XmlText) (i : ℕ) → AreChildren d e (e + 1) t k end after → IsOutside d e end after → i ≤ after
    → slice_get d.texts.items i ≡ Some row → e ≤ row.parent → row.parent < end → i + 1 ≤ after
more_foreign {d = d} {after = after} row i are outside upto here from low = ⊎_elim
    (λ same. let at : i ≡ after = grind (arith, nat_tests) in
    absurd (omega (arith, low, outside row (ap (slice_get d.texts.items) (sym at) ∙ here) from)))
    (λ other. grind (arith, nat_tests))
    (cases_Bool (i == after))

-- where none is next, all are passed
pub no_foreign : {d : XmlDocument} {e t end after : ℕ} {k : Nodes} (i : ℕ) → AreChildren d e (e + 1) t k end after → t ≤ i → i ≤ after
    → ((row : XmlText) → slice_get d.texts.items i ≡ Some row → e ≤ row.parent → end ≤ row.parent) → i ≡ after
no_foreign {after = after} i are from upto none = ⊎_elim
    (λ below.
    let w = texts_within are (omega arith) i from (grind (arith, nat_tests)) in
    absurd (omega (arith, none w.row w.there w.from_is, w.behind_is)))
    (λ there. grind (arith, nat_tests))
    (cases_Bool (nat_lt i after))

-- ---- the texts before a child

pub none_skipped : {d : XmlDocument} {p e t behind after : ℕ} {k : Nodes} → AreChildren d p e t k behind after → TextsSkipped d p e t k behind after
none_skipped {k = k} are = record { rest = k; children = are; skips = Skips.nothing }

skips_one : {k j : Nodes} → Skips k j → (i : Nodes) → Skips j i → Skips k i
skips_one Skips.nothing i more = more
skips_one (Skips.text rest) i more = Skips.text (skips_one rest i more)

one_passed : {d : XmlDocument} {p e t behind after : ℕ} {k : Nodes} (row : XmlText) → AreChildren d p e t k behind after → p < e → IsOutside d p behind after
    → slice_get d.texts.items t ≡ Some row → row.parent ≡ p → ComesBeforeElement d row.at e → TextsSkipped d p e (t + 1) k behind after
one_passed row AreChildren.none below outside here is before = absurd (omega (arith, outside row here (omega (arith, is)), is, below))
one_passed row (AreChildren.text there of at more) below outside here is before = record { rest = _; children = more; skips = Skips.text Skips.nothing }
one_passed {d = d} row (AreChildren.child {row = element} there of at inner more) below outside here is before =
    let first : element.at < row.at = subst (λ o. IfSome o (λ (x : XmlText). element.at < x.at)) here at in
    let second : row.at < element.at = subst (λ o. IfSome o (λ (x : XmlElement). row.at < x.at)) there before in
    absurd (omega (arith, first, second))

pub one_skipped : {d : XmlDocument} {p e t behind after : ℕ} {k : Nodes} (row : XmlText) → TextsSkipped d p e t k behind after → p < e → IsOutside d p behind after
    → slice_get d.texts.items t ≡ Some row → row.parent ≡ p → ComesBeforeElement d row.at e → TextsSkipped d p e (t + 1) k behind after
one_skipped row s below outside here is before =
    let one = one_passed row s.children below outside here is before in
    record { rest = one.rest; children = one.children; skips = skips_one s.skips one.rest one.skips }

-- what the test says
pub before_element : (at : ℕ) (o : Option XmlElement) → option_map_or (λ (x : XmlElement). nat_lt at x.at) o true ≡ true → IfSome o (λ (x : XmlElement). at < x.at)
before_element at None so = tt
before_element at (Some x) so = grind (arith, nat_tests)

pub not_before : (at : ℕ) (o : Option XmlElement) → option_map_or (λ (x : XmlElement). nat_lt at x.at) o true ≡ false → ¬ IfSome o (λ (x : XmlElement). at < x.at)
not_before at None so = λ before. absurd (true≢false so)
not_before at (Some x) so = λ before. let low : at < x.at = before in absurd (grind (arith, nat_tests))

-- ---- what is next where the texts are passed

-- the child that comes next, with its children and those behind it
pub record IsNext (d : XmlDocument) (p e t : ℕ) (k : Nodes) (behind after : ℕ) : Type 0 where
  pub row : XmlElement
  pub inside : Nodes
  pub rest : Nodes
  pub mid : ℕ
  pub there : slice_get d.elements.items e ≡ Some row
  pub inner : AreChildren d e (e + 1) t inside row.«end» mid
  pub outer : AreChildren d p row.«end» mid rest behind after
  pub is : k ≡ more_nodes (node_at d row inside) rest

pub child_next : {d : XmlDocument} {p e t behind after : ℕ} {k : Nodes} → AreChildren d p e t k behind after → AreTextsPassed d p e t → e < behind → IsNext d p e t k behind after
child_next AreChildren.none passed within = absurd (omega (arith, within))
child_next (AreChildren.text {row = row} there is before more) passed within = absurd (passed row there is before)
child_next (AreChildren.child {mid = mid} {row = row} {inside = inside} {k = rest} there is before inner more) passed within =
    record { row = row; inside = inside; rest = rest; mid = mid; there = there; inner = inner; outer = more; is = refl }

-- behind the last child
pub none_next : {d : XmlDocument} {p e t behind after : ℕ} {k : Nodes} → AreChildren d p e t k behind after → AreTextsPassed d p e t → behind ≤ e → (k ≡ no_nodes) × (e ≡ behind) × (t ≡ after)
none_next AreChildren.none passed end = (refl, refl, refl)
none_next (AreChildren.text {row = row} there is before more) passed end = absurd (passed row there is before)
none_next {e = e} (AreChildren.child there is before inner more) passed end = absurd (omega (arith, end, ends_behind inner, ends_behind more))
