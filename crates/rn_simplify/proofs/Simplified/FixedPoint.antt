-- A canonical grammar that is opened has itself as its canonical grammar, and no other.
use Rattle.std.proofs.Common.{◌≡◌, ◌↔◌, ℕ, zero, suc, false, List, [], ◌∷◌, length, map, Option, Some, None, option_map, refl, sym, ap, ◌∙◌, subst, Contains}
use Rattle.std.specs.List.{AllByRecursion}
use Rattle.rn_pattern.specs.Tree.{Tree, ref}
use Rattle.rn_text.specs.Texts.{Text}
use Rattle.rn_pattern.specs.Matching.{Grammar, definition_of}
use Rattle.rn_pattern.specs.Canonical.{canonical, ref_unless_settled, settled_within}
use Rattle.rn_pattern.specs.Opened.{opened, opened_grammar}
use Rattle.rn_pattern.specs.Reached.{RefersTo, IsReached, by_start, by_definition, all_canonical, IsCanonicalOf}
use Rattle.rn_pattern.specs.CanonicalShape.{IsCanonical}
use Rattle.rn_pattern.proofs.CanonicalForms.CanonicalForm.{canonical_is, canonical_refers}
use Rattle.rn_pattern.proofs.CanonicalForms.Fixed.{opened_fixed}
use Rattle.rn_pattern.proofs.CanonicalForms.Settled.{is_settled, next, settled_canonical, definition_solid, solid_stand_in}
use Rattle.rn_pattern.proofs.Matches.Validity.{lookup-map}
use Rattle.rn_pattern.proofs.Matches.Pruned.{reached_definition}
use Rattle.rn_pattern.proofs.Ordered.InOrder.{each_contained, sorted_by_name, one_by_name}
use Rattle.rn_simplify.proofs.Simplified.Forms.{found_in, form_source}

module _ (G N : Grammar) (c : IsCanonicalOf G N) where
  abbrev A : Grammar
  A = all_canonical G

  abbrev s : Text → Tree
  s = settled_within (length G.definitions) G

  -- a reference to the name stays
  abbrev Named : Text → Type 0
  Named x = s x ≡ ref x

  form_is : (p : Tree) → IsCanonical Named (canonical s p)
  form_is p = canonical_is Named s (λ x. settled_canonical G Named (length G.definitions) x (λ h. h)) p

  definition_is : (x : Text) (p : Tree) → definition_of A x ≡ Some p → IsCanonical Named p
  definition_is x p e = let (q, f, is) = form_source s G x p e in subst (IsCanonical Named) is (form_is q)

  reached_named : (x : Text) → IsReached A x → Named x
  reached_named x (by_start h) = canonical_refers Named x A.start (form_is G.start) h
  reached_named x (by_definition {y = y} p r e h) = canonical_refers Named x p (definition_is y p e) h

  -- canonical, and neither notAllowed nor empty
  abbrev IsSolid : Tree → Type 0
  IsSolid p = IsCanonical Named p × (is_settled p ≡ false)

  pub solid : (x : Text) (p : Tree) → Contains N.definitions (x, p) → IsSolid p
  solid x p h =
      let (r, e) = (c.definitions x p).0 h in
      let (q, f, is) = form_source s G x p e in
      (definition_is x p e, ap is_settled (sym is) ∙ definition_solid G x q f (reached_named x r))

  abbrev O : Grammar
  O = opened_grammar N

  stays_at : (j : ℕ) (x : Text) (o : Option Tree) → definition_of N x ≡ o → ((y : Text) → settled_within j O y ≡ ref y) → next O (settled_within j O) x (option_map opened o) ≡ ref x
  stays_at j x None e ih = refl
  stays_at j x (Some p) e ih =
      let k = solid x p (found_in N x p e) in
      ap (ref_unless_settled x) (opened_fixed Named (settled_within j O) (λ y _. ih y) p k.0) ∙ solid_stand_in x p k.1

  -- every reference stays
  pub stays : (j : ℕ) (x : Text) → settled_within j O x ≡ ref x
  stays zero x = refl
  stays (suc j) x = ap (next O (settled_within j O) x) (lookup-map x opened N.definitions) ∙ stays_at j x (definition_of N x) refl (stays j)

  abbrev t : Text → Tree
  t = settled_within (length O.definitions) O

  form_opened : (p : Tree) → IsCanonical Named p → canonical t (opened p) ≡ p
  form_opened p h = opened_fixed Named t (λ y _. stays (length O.definitions) y) p h

  same_definitions : (ds : List (Text × Tree)) → AllByRecursion (λ d. IsSolid d.1) ds → map (λ (d : Text × Tree). (d.0, canonical t d.1)) (map (λ (d : Text × Tree). (d.0, opened d.1)) ds) ≡ ds
  same_definitions [] h = refl
  same_definitions (d ∷ ds) h = let e = form_opened d.1 h.0.0 in let r = same_definitions ds h.1 in λ i. (d.0, e i) ∷ r i

  -- each pattern of it is the canonical form of what it is opened to
  pub same_grammar : all_canonical O ≡ N
  same_grammar =
      let start = form_opened N.start (subst (IsCanonical Named) (sym c.start) (form_is G.start)) in
      let definitions = same_definitions N.definitions (each_contained (λ d. IsSolid d.1) N.definitions (λ d h. solid d.0 d.1 h)) in
      λ i. record { start = start i; definitions = definitions i }

  reached_still : (x : Text) → IsReached A x → IsReached N x
  reached_still x (by_start h) = by_start (subst (RefersTo x) (sym c.start) h)
  reached_still x (by_definition {y = y} p r e h) = by_definition p (reached_still y r) (sym (reached_definition G N c y r) ∙ e) h

  own_definitions : (x : Text) (p : Tree) → Contains N.definitions (x, p) ↔ IsReached N x × (definition_of N x ≡ Some p)
  own_definitions x p = (into, λ h. found_in N x p h.1)
    where
      into : Contains N.definitions (x, p) → IsReached N x × (definition_of N x ≡ Some p)
      into h = let (r, e) = (c.definitions x p).0 h in (reached_still x r, sym (reached_definition G N c x r) ∙ e)

  -- the canonical grammar of a canonical grammar that is opened is that grammar
  pub fixed_point : IsCanonicalOf (opened_grammar N) N
  fixed_point = record {
    start = ap (λ g. g.start) (sym same_grammar);
    definitions = λ x p. subst (λ g. Contains N.definitions (x, p) ↔ IsReached g x × (definition_of g x ≡ Some p)) (sym same_grammar) (own_definitions x p);
    in_order = c.in_order;
  }

-- a grammar has one canonical grammar
pub one_canonical : (G N M : Grammar) → IsCanonicalOf G N → IsCanonicalOf G M → N ≡ M
one_canonical G N M n m =
    let start = n.start ∙ sym m.start in
    let definitions = one_by_name N.definitions M.definitions (sorted_by_name N.definitions n.in_order) (sorted_by_name M.definitions m.in_order)
    (λ x h. (m.definitions x.0 x.1).1 ((n.definitions x.0 x.1).0 h)) (λ x h. (n.definitions x.0 x.1).1 ((m.definitions x.0 x.1).0 h)) in
    λ i. record { start = start i; definitions = definitions i }

-- the canonical grammar of a canonical grammar that is opened is no other
pub read_back_fixed : (G N M : Grammar) → IsCanonicalOf G N → IsCanonicalOf (opened_grammar N) M → M ≡ N
read_back_fixed G N M n m = one_canonical (opened_grammar N) M N m (fixed_point G N n)
