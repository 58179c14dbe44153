-- What is reached in a grammar, and comes back to itself, by the numbers of keys.
use Rattle.std.proofs.Common.{◌≡◌, ℕ, suc, ◌<◌, inl, inr, Bool, true, false, cond, List, [], length, Some, None, refl, sym, ap, ◌∙◌, subst, arith, Contains, Less}
use Rattle.std.specs.Prelude.{IsSomeAnd, Decides}
use Rattle.std.specs.List.Sorted.{IsStrictlySortedBy}
use Rattle.std.proofs.lemmas.Bool.{cases_eq, cases_lt}
use Rattle.rn_pattern.specs.Tree.{Tree}
use Rattle.rn_text.specs.Texts.{Text, text_cmp}
use Rattle.rn_pattern.specs.Matching.{Grammar, definition_of}
use Rattle.rn_pattern.specs.Reached.{RefersTo, IsReached, by_start, by_definition}
use Rattle.rn_pattern.specs.References.{RefersOutside, by_one, by_more, LeadsTo, IsRecursive}
use Rattle.rn_pattern.proofs.Ordered.InOrder.{text_no_less}
use Rattle.rn_graph.specs.Graph.{row, is_marked, Reached, at_first, along}
use Rattle.rn_graph.specs.Ranks.{Leads, by_edge, and_edge, HasNoLoop, IsFirstLoop}
use Rattle.rn_graph.proofs.Graphs.FirstLoop.{source_within}
use Rattle.rn_assemble.specs.Components.{name_key, Component}
use Rattle.rn_assemble.specs.Combine.{joined_pattern, joined_grammar}
use Rattle.rn_assemble.specs.inside.Keyed.{IsNameNumber, key_at}
use Rattle.rn_assemble.specs.inside.Referred.{AreAllReferences, IsLeastRecursive}
use Rattle.rn_assemble.proofs.Referring.KeyNumbers.{same_name, names_rise, not_itself, same_number}
use Rattle.rn_assemble.proofs.Expansion.LongerPaths.{lead_first, reach_last}
use Rattle.rn_assemble.proofs.Referring.JoinedReferences.{refers_in_definition, definition_refers_to, outside_in_definition, definition_refers_outside, outside_anywhere, some_definition}

module _ (names : List Text) (sorted : IsStrictlySortedBy text_cmp names) (cs : List Component) (all outer : List (List ℕ)) (refs : AreAllReferences names cs all outer) where
  abbrev G : Grammar
  G = joined_grammar cs

  -- what a reached name is joined of
  body_of : (y : Text) (p : Tree) (x : Text) → definition_of G y ≡ Some p → RefersTo x p → RefersTo x (joined_pattern cs (name_key y))
  body_of y p x e h = definition_refers_to x cs y (subst (λ o. IsSomeAnd o (RefersTo x)) (sym e) h)

  abbrev Found : Text → Type 0
  Found x = (n : ℕ) × IsNameNumber names x n × Reached all (row all 0) n

  pub found : (x : Text) → IsReached G x → Found x
  found x (by_start h) = let m = refs.anywhere.all 0 x (omega arith) h in (m.0, m.1, at_first m.2)
  found x (by_definition {y = y} p r e h) =
      let n = found y r in
      let m = refs.anywhere.all n.0 x n.1.within (subst (λ k. RefersTo x (joined_pattern cs k)) (sym n.1.is) (body_of y p x e h)) in
      (m.0, m.1, along n.2 m.2)

  pub reached : (n : ℕ) → Reached all (row all 0) n → (x : Text) × IsNameNumber names x n × IsReached G x
  reached n (at_first c) = let x = refs.anywhere.only 0 n c in (x.0, x.1, by_start x.2)
  reached m (along {x = n} {y = k} r c) =
      let y = reached n r in
      let x = refs.anywhere.only n m c in
      let d = some_definition G x.0 y.0 (definition_of G y.0) refl (refers_in_definition x.0 cs y.0 (subst (λ k. RefersTo x.0 (joined_pattern cs k)) y.1.is x.2)) in
      (x.0, x.1, by_definition d.0 y.2 d.1 d.2)

  -- references outside elements are references
  pub inner : (k m : ℕ) → k < suc (length names) → Contains (row outer k) m → Contains (row all k) m
  inner k m h c =
      let x = refs.outside.only k m c in
      let n = refs.anywhere.all k x.0 h (outside_anywhere x.0 (joined_pattern cs (key_at names k)) x.2) in
      subst (Contains (row all k)) (same_number names sorted x.0 n.0 m n.1 x.1) n.2

  -- ---- steps outside elements

  step : (a b : Text) (n : ℕ) → IsNameNumber names a n → IsSomeAnd (definition_of G a) (RefersOutside b) → (m : ℕ) × IsNameNumber names b m × Contains (row outer n) m
  step a b n i h = refs.outside.all n b i.within (subst (λ k. RefersOutside b (joined_pattern cs k)) (sym i.is) (definition_refers_outside b cs a h))

  back : (a : Text) (n m : ℕ) → IsNameNumber names a n → Contains (row outer n) m → (b : Text) × IsNameNumber names b m × IsSomeAnd (definition_of G a) (RefersOutside b)
  back a n m i c =
      let b = refs.outside.only n m c in
      (b.0, b.1, outside_in_definition b.0 cs a (subst (λ k. RefersOutside b.0 (joined_pattern cs k)) i.is b.2))

  pub leads : (a b : Text) (n : ℕ) → IsNameNumber names a n → LeadsTo G a b → (m : ℕ) × IsNameNumber names b m × Leads outer n m
  leads a b n i (by_one s) = let m = step a b n i s in (m.0, m.1, by_edge m.2)
  leads a c n i (by_more {a = p} {b = b} {c = q} s r) =
      let m = step a b n i s in
      let l = leads b c m.0 m.1 r in
      (l.0, l.1, lead_first m.2 l.2)

  pub leads_to : (n m : ℕ) (a : Text) → IsNameNumber names a n → Leads outer n m → (b : Text) × IsNameNumber names b m × LeadsTo G a b
  leads_to n m a i (by_edge c) = let b = back a n m i c in (b.0, b.1, by_one b.2)
  leads_to n m a i (and_edge {x = x} {y = k} {z = z} l c) =
      let b = leads_to n k a i l in
      let d = back b.0 k m b.1 c in
      (d.0, d.1, reach_last b.2 d.2)

  -- ---- the rows of what is reached alone

  module _ (seen : List Bool) (marked : (n : ℕ) → Decides (is_marked seen n) (Reached all (row all 0) n)) (kept : List (List ℕ)) (rows : (n : ℕ) → row kept n ≡ cond (is_marked seen n) (row outer n) []) where
    at_kept : (b : Bool) (n m : ℕ) → is_marked seen n ≡ b → Contains (cond b (row outer n) []) m → (is_marked seen n ≡ true) × Contains (row outer n) m
    at_kept true n m e c = (e, c)
    at_kept false n m e c = absurd (omega (arith, c.1))

    kept_edge : (n m : ℕ) → Contains (row kept n) m → Reached all (row all 0) n × Contains (row outer n) m
    kept_edge n m c = let k = at_kept (is_marked seen n) n m refl (subst (λ l. Contains l m) (rows n) c) in ((marked n).0 k.0, k.1)

    pub edge_kept : (n m : ℕ) → Reached all (row all 0) n → Contains (row outer n) m → Contains (row kept n) m
    edge_kept n m r c = subst (λ l. Contains l m) (sym (rows n ∙ ap (λ b. cond b (row outer n) []) ((marked n).1 r))) c

    kept_leads : {n m : ℕ} → Leads kept n m → Reached all (row all 0) n × Leads outer n m
    kept_leads (by_edge {x = n} {y = m} c) = let k = kept_edge n m c in (k.0, by_edge k.1)
    kept_leads (and_edge {x = n} {y = k} {z = m} l c) = let i = kept_leads l in (i.0, and_edge i.1 (kept_edge k m c).1)

    in_range : (n m : ℕ) → Contains (row outer n) m → n < suc (length names)
    in_range n m c = omega (arith, source_within outer n m c, refs.outside.size)

    leads_kept : {n m : ℕ} → Reached all (row all 0) n → Leads outer n m → Leads kept n m × Reached all (row all 0) m
    leads_kept r (by_edge {x = n} {y = m} c) = (by_edge (edge_kept n m r c), along r (inner n m (in_range n m c) c))
    leads_kept r (and_edge {x = n} {y = k} {z = m} l c) = let i = leads_kept r l in (and_edge i.0 (edge_kept k m i.1 c), along i.1 (inner k m (in_range k m c) c))

    -- a number on a loop is that of a recursive name
    recursive_at : (n : ℕ) → Leads kept n n → (x : Text) × IsNameNumber names x n × IsRecursive G x
    recursive_at n l =
        let k = kept_leads l in
        let x = reached n k.0 in
        let b = leads_to n n x.0 x.1 k.1 in
        (x.0, x.1, (x.2, subst (LeadsTo G x.0) (same_name names b.0 x.0 n b.1 x.1) b.2))

    loop_of : (x : Text) → IsRecursive G x → (n : ℕ) × IsNameNumber names x n × Leads kept n n
    loop_of x r =
        let n = found x r.0 in
        let m = leads x x n.0 n.1 r.1 in
        (n.0, n.1, (leads_kept n.2 (subst (Leads outer n.0) (same_number names sorted x m.0 n.0 m.1 n.1) m.2)).0)

    pub none_recursive : HasNoLoop kept → IsLeastRecursive names cs None
    none_recursive h x r = let n = loop_of x r in h n.0 n.2

    pub least_recursive : (n : ℕ) → IsFirstLoop kept n → IsLeastRecursive names cs (Some n)
    least_recursive n h =
        let x = recursive_at n h.holds in (
          x.0,
          x.1,
          record {
            holds = x.2;
            least = λ y r l. let m = loop_of y r in least_at y m.0 m.1 m.2 x.0 x.1 l;
          },
        )
      where
        least_at : (y : Text) (m : ℕ) → IsNameNumber names y m → Leads kept m m → (x : Text) → IsNameNumber names x n → text_cmp y x ≡ Less → ⊥
        least_at y m i k x j l = elim (cases_lt m n) [
          | inl lt ↦ h.least m lt k
          | inr ge ↦ elim (cases_eq m n) [
            | inl e ↦ not_itself x (subst (λ z. text_cmp z x ≡ Less) (same_name names y x n (subst (IsNameNumber names y) e i) j) l)
            | inr ne ↦ text_no_less x y (names_rise names sorted x y n m j i (omega (arith, ge, ne))) l
          ]
        ]
