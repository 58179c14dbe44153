-- The children that tables hold stay, where rows come behind them or the end of another row changes.
use Rattle.std.proofs.Common.{◌≡◌, ℕ, ◌+◌, ◌<◌, ◌≤◌, ◌≢◌, List, [], ◌∷◌, ◌∙◌, subst, arith, ⊎_elim, inl, inr, Some}
use Rattle.std.specs.Prelude.{◌⊎◌, Option, slice_get}
use Rattle.rn_xml.specs.Infoset.{Nodes, more_nodes}
use Rattle.rn_xml.specs.DocumentTrees.{AreChildren, ComesBeforeElement, ComesBeforeText}
use Rattle.rn_xml.specs.declared.document.XmlElement.{XmlElement}
use Rattle.rn_xml.specs.declared.document.XmlText.{XmlText}
use Rattle.rn_xml.specs.declared.document.XmlDocument.{XmlDocument}
use Rattle.rn_xml.specs.inside.OpenElements.{OpenElement, joined, parent_of}
use Rattle.rn_xml.specs.inside.OpenTables.{node_of, IsOpenRow, HoldsOpen, ArePlacedBefore}

-- children and then more
pub children_joined : {d : XmlDocument} {p e t e' t' e'' t'' : ℕ} {j k : Nodes} → AreChildren d p e t j e' t' → AreChildren d p e' t' k e'' t'' → AreChildren d p e t (joined j k) e'' t''
children_joined AreChildren.none more = more
children_joined (AreChildren.text there parent before rest) more = AreChildren.text there parent before (children_joined rest more)
children_joined (AreChildren.child there parent before inside rest) more = AreChildren.child there parent before inside (children_joined rest more)

-- they go on in the tables
pub children_range : {d : XmlDocument} {p e t e' t' : ℕ} {k : Nodes} → AreChildren d p e t k e' t' → e ≤ e'
children_range AreChildren.none = omega arith
children_range (AreChildren.text there parent before rest) = children_range rest
children_range (AreChildren.child there parent before inside rest) = let h = children_range inside in let g = children_range rest in omega (arith, h, g)

-- tables that have what others have, but for the row of one element, whose place and whose node stay; what comes behind is placed behind
pub record IsKept (d new : XmlDocument) (place changed : ℕ) : Type 0 where
  pub elements : (k : ℕ) (row : XmlElement) → k ≢ changed → slice_get d.elements.items k ≡ Some row → slice_get new.elements.items k ≡ Some row
  pub texts : (k : ℕ) (row : XmlText) → slice_get d.texts.items k ≡ Some row → slice_get new.texts.items k ≡ Some row
  pub nodes : (i : ℕ) (row : XmlElement) (k : Nodes) → slice_get d.elements.items i ≡ Some row → node_of new row k ≡ node_of d row k
  pub before_element : (at e : ℕ) → at < place → ComesBeforeElement d at e → ComesBeforeElement new at e
  pub before_text : (at t : ℕ) → at < place → ComesBeforeText d at t → ComesBeforeText new at t

module _ (d new : XmlDocument) (place changed : ℕ) (keeps : IsKept d new place changed) (placed : ArePlacedBefore d place) where
  pub kept_children : {p e t e' t' : ℕ} {k : Nodes} → AreChildren d p e t k e' t' → (e' ≤ changed) ⊎ (changed < e) → AreChildren new p e t k e' t'
  kept_children AreChildren.none apart = AreChildren.none
  kept_children (AreChildren.text {t = t} {row = row} there parent before rest) apart =
      AreChildren.text (keeps.texts t row there) parent (keeps.before_element row.at _ (placed.texts t row there) before) (kept_children rest apart)
  kept_children (AreChildren.child {parent = p} {e = e} {t = t} {behind = e'} {after = t'} {row = row} {inside = inside} {k = k} there parent before within rest) apart =
      let first : e + 1 ≤ row.end = children_range within in
      let next : row.end ≤ e' = children_range rest in
      let other : e ≢ changed = omega (arith, first, next, apart) in
      let apart_within : (row.end ≤ changed) ⊎ (changed < e + 1) = ⊎_elim (λ low. inl (omega arith)) (λ high. inr (omega arith)) apart in
      let apart_rest : (e' ≤ changed) ⊎ (changed < row.end) = ⊎_elim (λ low. inl low) (λ high. inr (omega arith)) apart in
      subst (λ x. AreChildren new p e t (more_nodes x k) e' t') (keeps.nodes e row inside there)
      (AreChildren.child (keeps.elements e row other there) parent (keeps.before_text row.at t (placed.elements e row there) before)
      (kept_children within apart_within) (kept_children rest apart_rest))

  pub kept_row : (e : OpenElement) (parent : Option ℕ) → e.index ≢ changed → IsOpenRow d e parent → IsOpenRow new e parent
  kept_row e parent other row = record {
    row = row.row;
    there = keeps.elements e.index row.row other row.there;
    has_parent = row.has_parent;
    before = keeps.before_text row.row.at e.texts (placed.elements e.index row.row row.there) row.before;
    is = λ k. keeps.nodes e.index row.row k row.there ∙ row.is k;
    named = row.named;
  }

  pub kept_open : (opened : List OpenElement) (e t : ℕ) → e ≤ changed → HoldsOpen d opened e t → HoldsOpen new opened e t
  kept_open [] e t low holds = holds
  kept_open (x ∷ around) e t low holds =
      let within : x.index + 1 ≤ e = children_range holds.1 in
      (kept_row x (parent_of around) (omega (arith, within, low)) holds.0, kept_children holds.1 (inl low), kept_open around x.index x.texts (omega (arith, within, low)) holds.2)
