-- What a grammar promises its canonical grammar promises, and that promises it when it is opened: definitions, no loops, excepts, name classes.
use Rattle.std.proofs.Common.{◌≡◌, ◌⊎◌, inl, inr, List, [], ◌∷◌, length, map, Option, Some, None, refl, sym, ap, ◌∙◌, subst, arith, Contains, IsSomeAnd}
use Rattle.rn_pattern.specs.Tree.{Parameters, Tree, datum_but}
use Rattle.rn_text.specs.Texts.{Text}
use Rattle.rn_pattern.specs.Matching.{Grammar, definition_of}
use Rattle.rn_pattern.specs.Canonical.{canonical, settled_within}
use Rattle.rn_pattern.specs.Opened.{opened, opened_grammar}
use Rattle.rn_pattern.specs.Excepts.{HasExcepts}
use Rattle.rn_pattern.specs.Reached.{RefersTo, IsReached, by_start, by_definition, all_canonical, IsCanonicalOf}
use Rattle.rn_pattern.specs.References.{RefersOutside, IsUndefined, LeadsTo, by_one, by_more, IsRecursive}
use Rattle.rn_pattern.specs.NameRules.{KeepsNameRules}
use Rattle.rn_pattern.proofs.Matches.Validity.{lookup-map}
use Rattle.rn_pattern.proofs.Matches.Pruned.{reached_definition}
use Rattle.rn_simplify.proofs.Simplified.Forms.{found_in, none_before, some_before, form_source, form_kept, refers_back, outside_back, reached_source}
use Rattle.rn_pattern.proofs.Ordered.InOrder.{contains_front, contains_behind, contains_cases}
use Rattle.rn_pattern.proofs.CanonicalForms.KeptByForms.{IsKept, opened_kept}
use Rattle.rn_pattern.proofs.CanonicalForms.KeptRules.{RefersIn, RefersOutsideIn, refers_kept, outside_kept, excepts_kept, canonical_except, opened_except, name_rules_kept}

pub opened_entry : (ds : List (Text × Tree)) (x : Text) (o : Tree) → Contains {X = Text × Tree} (map (λ (d : Text × Tree). (d.0, opened d.1)) ds) (x, o) → (p : Tree) × Contains {X = Text × Tree} ds (x, p) × (opened p ≡ o)
opened_entry [] x o (i, l, is) = absurd (omega (arith, l))
opened_entry (d ∷ ds) x o c = by_case (contains_cases (d.0, opened d.1) (x, o) (map (λ (d : Text × Tree). (d.0, opened d.1)) ds) c) (opened_entry ds x o)
  where
    by_case : (◌≡◌ {A = Text × Tree} (d.0, opened d.1) (x, o)) ⊎ Contains {X = Text × Tree} (map (λ (e : Text × Tree). (e.0, opened e.1)) ds) (x, o)
        → (Contains {X = Text × Tree} (map (λ (e : Text × Tree). (e.0, opened e.1)) ds) (x, o) → (p : Tree) × Contains {X = Text × Tree} ds (x, p) × (opened p ≡ o)) → (p : Tree) × Contains {X = Text × Tree} (d ∷ ds) (x, p) × (opened p ≡ o)
    by_case (inl e) ih = (d.1, subst (λ y. Contains {X = Text × Tree} (d ∷ ds) (y, d.1)) (ap (λ (t : Text × Tree). t.0) e) (contains_front d ds), ap (λ (t : Text × Tree). t.1) e)
    by_case (inr h) ih = let (p, in_ds, is) = ih h in (p, contains_behind d (x, p) ds in_ds, is)

-- from a grammar to its canonical one
module _ (G N : Grammar) (c : IsCanonicalOf G N) where
  abbrev A : Grammar
  A = all_canonical G

  abbrev s : Text → Tree
  s = settled_within (length G.definitions) G

  -- a canonical definition is reached, and the form of one of the grammar
  normal_source : (x : Text) (p : Tree) → Contains N.definitions (x, p) → IsReached A x × (q : Tree) × (definition_of G x ≡ Some q) × (definition_of A x ≡ Some p) × (canonical s q ≡ p)
  normal_source x p h = let (r, e) = (c.definitions x p).0 h in let (q, g, is) = form_source s G x p e in (r, q, g, e, is)

  module _ (Q : Tree → Type 0) (k : IsKept Q) (excepts : (l x : Text) (ps : Parameters) (p : Tree) → (Q p → Q (canonical s p)) → Q (datum_but l x ps p) → Q (datum_but l x ps (canonical s p))) where
    pub normal_start_kept : Q G.start → Q N.start
    normal_start_kept h = subst Q (sym c.start) (form_kept G Q k excepts G.start h)

    pub normal_kept : ((x : Text) (q : Tree) → definition_of G x ≡ Some q → Q q) → (x : Text) (p : Tree) → definition_of N x ≡ Some p → Q p
    normal_kept h x p e = let (r, q, g, a, is) = normal_source x p (found_in N x p e) in subst Q is (form_kept G Q k excepts q (h x q g))

  reached_before : (x : Text) → IsReached N x → IsReached A x
  reached_before x (by_start h) = by_start (subst (RefersTo x) c.start h)
  reached_before x (by_definition {y = y} p r e h) = let (k, q, g, a, is) = normal_source y p (found_in N y p e) in by_definition p k a h

  still_defined : (x : Text) → IsReached A x → definition_of N x ≡ None → definition_of G x ≡ None
  still_defined x r e = none_before (definition_of G x) (canonical s) (sym (lookup-map x (canonical s) G.definitions) ∙ reached_definition G N c x r ∙ e)

  -- every reference has a definition (4.18)
  pub normal_defined : ((x : Text) → ¬ IsUndefined G x) → (x : Text) → ¬ IsUndefined N x
  normal_defined all x (inl h, n) =
      let here : RefersTo x A.start = subst (RefersTo x) c.start h in
      all x (inl (refers_back G x G.start here), still_defined x (by_start here) n)
  normal_defined all x (inr (y, p, inside, h), n) =
      let (r, q, g, a, is) = normal_source y p inside in
      all x (inr (y, q, found_in G y q g, refers_back G x q (subst (RefersTo x) (sym is) h)), still_defined x (by_definition p r a h) n)

  step_at : (a b : Text) (d : Option Tree) → definition_of N a ≡ d → IsSomeAnd d (RefersOutside b) → IsSomeAnd (definition_of G a) (RefersOutside b)
  step_at a b None e h = absurd h
  step_at a b (Some p) e h =
      let (r, q, g, f, is) = normal_source a p (found_in N a p e) in
      subst (λ d. IsSomeAnd d (RefersOutside b)) (sym g) (outside_back G b q (subst (RefersOutside b) (sym is) h))

  leads_back : (a b : Text) → LeadsTo N a b → LeadsTo G a b
  leads_back a b (by_one h) = by_one (step_at a b (definition_of N a) refl h)
  leads_back a c (by_more {b = b} h l) = by_more (step_at a b (definition_of N a) refl h) (leads_back b c l)

  -- no name that is reached comes back to itself outside elements (4.19)
  pub normal_loop_free : ((x : Text) → ¬ IsRecursive G x) → (x : Text) → ¬ IsRecursive N x
  normal_loop_free all x (r, l) = all x (reached_source G x (reached_before x r), leads_back x x l)

  -- excepts stay excepts
  pub normal_excepts_start : HasExcepts G.start → HasExcepts N.start
  normal_excepts_start = normal_start_kept HasExcepts excepts_kept (λ l x ps p f h. canonical_except s p h)

  pub normal_excepts : ((x : Text) (q : Tree) → definition_of G x ≡ Some q → HasExcepts q) → (x : Text) (p : Tree) → definition_of N x ≡ Some p → HasExcepts p
  normal_excepts = normal_kept HasExcepts excepts_kept (λ l x ps p f h. canonical_except s p h)

  -- name classes keep their restrictions (4.16)
  pub normal_names_start : KeepsNameRules G.start → KeepsNameRules N.start
  normal_names_start = normal_start_kept KeepsNameRules name_rules_kept (λ l x ps p f h. f h)

  pub normal_names : ((x : Text) (q : Tree) → definition_of G x ≡ Some q → KeepsNameRules q) → (x : Text) (p : Tree) → definition_of N x ≡ Some p → KeepsNameRules p
  normal_names = normal_kept KeepsNameRules name_rules_kept (λ l x ps p f h. f h)

-- from any grammar to what it is opened to
module _ (N : Grammar) where
  abbrev O : Grammar
  O = opened_grammar N

  opened_source : (x : Text) (o : Tree) → definition_of O x ≡ Some o → (p : Tree) × (definition_of N x ≡ Some p) × (opened p ≡ o)
  opened_source x o e = some_before (definition_of N x) opened o (sym (lookup-map x opened N.definitions) ∙ e)

  module _ (Q : Tree → Type 0) (k : IsKept Q) (excepts : (l x : Text) (ps : Parameters) (p : Tree) → (Q p → Q (opened p)) → Q (datum_but l x ps p) → Q (datum_but l x ps (opened p))) where
    pub opened_definitions_kept : ((x : Text) (p : Tree) → definition_of N x ≡ Some p → Q p) → (x : Text) (o : Tree) → definition_of O x ≡ Some o → Q o
    opened_definitions_kept h x o e = let (p, f, is) = opened_source x o e in subst Q is (opened_kept Q k excepts p (h x p f))

  opened_refers : (x : Text) (p : Tree) → RefersTo x (opened p) → RefersTo x p
  opened_refers x p h = opened_kept (RefersIn (λ y. RefersTo y p)) (refers_kept (λ y. RefersTo y p)) (λ l t ps q f k. f k) p (λ y k. k) x h

  opened_outside : (x : Text) (p : Tree) → RefersOutside x (opened p) → RefersOutside x p
  opened_outside x p h = opened_kept (RefersOutsideIn (λ y. RefersOutside y p)) (outside_kept (λ y. RefersOutside y p)) (λ l t ps q f k. f k) p (λ y k. k) x h

  opened_reached : (x : Text) → IsReached O x → IsReached N x
  opened_reached x (by_start h) = by_start (opened_refers x N.start h)
  opened_reached x (by_definition {y = y} o r e h) = let (p, f, is) = opened_source y o e in by_definition p (opened_reached y r) f (opened_refers x p (subst (RefersTo x) (sym is) h))

  opened_none : (x : Text) → definition_of O x ≡ None → definition_of N x ≡ None
  opened_none x e = none_before (definition_of N x) opened (sym (lookup-map x opened N.definitions) ∙ e)

  pub opened_defined : ((x : Text) → ¬ IsUndefined N x) → (x : Text) → ¬ IsUndefined O x
  opened_defined all x (inl h, n) = all x (inl (opened_refers x N.start h), opened_none x n)
  opened_defined all x (inr (y, o, inside, h), n) =
      let (p, there, is) = opened_entry N.definitions y o inside in
      all x (inr (y, p, there, opened_refers x p (subst (RefersTo x) (sym is) h)), opened_none x n)

  opened_step : (a b : Text) (d : Option Tree) → definition_of O a ≡ d → IsSomeAnd d (RefersOutside b) → IsSomeAnd (definition_of N a) (RefersOutside b)
  opened_step a b None e h = absurd h
  opened_step a b (Some o) e h = let (p, f, is) = opened_source a o e in subst (λ d. IsSomeAnd d (RefersOutside b)) (sym f) (opened_outside b p (subst (RefersOutside b) (sym is) h))

  opened_leads : (a b : Text) → LeadsTo O a b → LeadsTo N a b
  opened_leads a b (by_one h) = by_one (opened_step a b (definition_of O a) refl h)
  opened_leads a c (by_more {b = b} h l) = by_more (opened_step a b (definition_of O a) refl h) (opened_leads b c l)

  pub opened_loop_free : ((x : Text) → ¬ IsRecursive N x) → (x : Text) → ¬ IsRecursive O x
  opened_loop_free all x (r, l) = all x (opened_reached x r, opened_leads x x l)

  pub opened_excepts_start : HasExcepts N.start → HasExcepts O.start
  opened_excepts_start h = opened_kept HasExcepts excepts_kept (λ l x ps p f k. opened_except p k) N.start h

  pub opened_excepts : ((x : Text) (p : Tree) → definition_of N x ≡ Some p → HasExcepts p) → (x : Text) (o : Tree) → definition_of O x ≡ Some o → HasExcepts o
  opened_excepts = opened_definitions_kept HasExcepts excepts_kept (λ l x ps p f k. opened_except p k)

  pub opened_names_start : KeepsNameRules N.start → KeepsNameRules O.start
  opened_names_start h = opened_kept KeepsNameRules name_rules_kept (λ l x ps p f k. f k) N.start h

  pub opened_names : ((x : Text) (p : Tree) → definition_of N x ≡ Some p → KeepsNameRules p) → (x : Text) (o : Tree) → definition_of O x ≡ Some o → KeepsNameRules o
  opened_names = opened_definitions_kept KeepsNameRules name_rules_kept (λ l x ps p f k. f k)
