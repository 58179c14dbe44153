-- References do not see URIs: a renamed grammar has the same names undefined and recursive.
use mathlib.Core.Logic.Iff
use Rattle.std.proofs.Common.{◌≡◌, ◌↔◌, Option, Some, None, option_map, Contains, refl, sym, ap, ◌∙◌, subst}
use Rattle.std.specs.Prelude.{bytes_eq, IsSomeAnd}
use Rattle.std.proofs.lemmas.Map.Made.{lookup-map_values}
use Rattle.rn_text.specs.Texts.{Text}
use Rattle.rn_pattern.specs.Tree.{Tree, Trees, datum_but, list, attribute, element, one_or_more, group, interleave, choice, no_trees, more_trees}
use Rattle.rn_pattern.specs.Matching.{Grammar, definition_of}
use Rattle.rn_pattern.specs.Reached.{RefersTo, SomeRefersTo, IsReached, by_start, by_definition}
use Rattle.rn_pattern.specs.References.{RefersOutside, SomeRefersOutside, IsUndefined, Reaches, by_one, by_more, IsRecursive}
use Rattle.rn_assemble.specs.Renamed.{renamed_tree, renamed_trees, renamed_definition, renamed_grammar}
use Rattle.rn_assemble.proofs.Referring.ListMembers.{map_contains, map_contained}
use Rattle.rn_assemble.proofs.Renaming.AlikeFacts.{either}

-- ---- what a mapped option says

pub mapped_some : {X Y : Type 0} (f : X → Y) (o : Option X) (y : Y)
    → option_map f o ≡ Some y → (x : X) × (o ≡ Some x) × (f x ≡ y)
mapped_some f None y e = cc
mapped_some f (Some x) y e = (x, refl, cc)

mapped_none : {X Y : Type 0} (f : X → Y) (o : Option X) → (option_map f o ≡ None) ↔ (o ≡ None)
mapped_none f None = (λ e. refl, λ e. refl)
mapped_none f (Some x) = (λ e. cc, λ e. cc)

mapped_and : {X Y : Type 0} (f : X → Y) (P : Y → Type 0) (Q : X → Type 0) → ((x : X) → P (f x) ↔ Q x)
    → (o : Option X) → IsSomeAnd (option_map f o) P ↔ IsSomeAnd o Q
mapped_and f P Q e None = Iff.rfl
mapped_and f P Q e (Some x) = e x

-- ---- steps

pub reaches_by : {S R : Text → Text → Type 0} → ((a b : Text) → S a b → R a b)
    → (a b : Text) → Reaches S a b → Reaches R a b
reaches_by to a b (by_one s) = by_one (to a b s)
reaches_by to a c (by_more {b = b} s more) = by_more (to a b s) (reaches_by to b c more)

pub reaches_alike : {S R : Text → Text → Type 0} → ((a b : Text) → S a b ↔ R a b)
    → (a b : Text) → Reaches S a b ↔ Reaches R a b
reaches_alike e a b = (reaches_by (λ x y. (e x y).0) a b, reaches_by (λ x y. (e x y).1) a b)

module _ (named : Text → Text) where
  module _ (x : Text) where
    mutual
      refers_to-renamed : (p : Tree) → RefersTo x (renamed_tree named p) ↔ RefersTo x p
      refers_to-renamed (datum_but library type params p) = refers_to-renamed p
      refers_to-renamed (list p) = refers_to-renamed p
      refers_to-renamed (attribute c p) = refers_to-renamed p
      refers_to-renamed (element c p) = refers_to-renamed p
      refers_to-renamed (one_or_more p) = refers_to-renamed p
      refers_to-renamed (group ps) = some_refers_to-renamed ps
      refers_to-renamed (interleave ps) = some_refers_to-renamed ps
      refers_to-renamed (choice ps) = some_refers_to-renamed ps
      refers_to-renamed p = Iff.rfl

      some_refers_to-renamed : (ps : Trees) → SomeRefersTo x (renamed_trees named ps) ↔ SomeRefersTo x ps
      some_refers_to-renamed no_trees = Iff.rfl
      some_refers_to-renamed (more_trees p ps) = either (refers_to-renamed p) (some_refers_to-renamed ps)

    mutual
      refers_outside-renamed : (p : Tree) → RefersOutside x (renamed_tree named p) ↔ RefersOutside x p
      refers_outside-renamed (datum_but library type params p) = refers_outside-renamed p
      refers_outside-renamed (list p) = refers_outside-renamed p
      refers_outside-renamed (attribute c p) = refers_outside-renamed p
      refers_outside-renamed (one_or_more p) = refers_outside-renamed p
      refers_outside-renamed (group ps) = some_refers_outside-renamed ps
      refers_outside-renamed (interleave ps) = some_refers_outside-renamed ps
      refers_outside-renamed (choice ps) = some_refers_outside-renamed ps
      refers_outside-renamed p = Iff.rfl

      some_refers_outside-renamed : (ps : Trees) → SomeRefersOutside x (renamed_trees named ps) ↔ SomeRefersOutside x ps
      some_refers_outside-renamed no_trees = Iff.rfl
      some_refers_outside-renamed (more_trees p ps) = either (refers_outside-renamed p) (some_refers_outside-renamed ps)

  module _ (G : Grammar) where
    -- its URIs renamed
    abbrev R : Grammar
    R = renamed_grammar named G

    pub definition_of-renamed : (x : Text)
        → definition_of (renamed_grammar named G) x ≡ option_map (renamed_tree named) (definition_of G x)
    definition_of-renamed x = lookup-map_values (renamed_tree named) (bytes_eq x) G.definitions

    -- ---- names that are reached

    reached_to : (x : Text) → IsReached R x → IsReached G x
    reached_to x (by_start h) = by_start ((refers_to-renamed x G.start).0 h)
    reached_to x (by_definition {y = y} p s d h) =
        let (q, e, same) = mapped_some (renamed_tree named) (definition_of G y) p (sym (definition_of-renamed y) ∙ d) in
        by_definition q (reached_to y s) e ((refers_to-renamed x q).0 (subst (RefersTo x) (sym same) h))

    reached_from : (x : Text) → IsReached G x → IsReached R x
    reached_from x (by_start h) = by_start ((refers_to-renamed x G.start).1 h)
    reached_from x (by_definition {y = y} p s d h) =
        let defined = definition_of-renamed y ∙ ap (option_map (renamed_tree named)) d in
        by_definition (renamed_tree named p) (reached_from y s) defined ((refers_to-renamed x p).1 h)

    pub IsReached-renamed : (x : Text) → IsReached (renamed_grammar named G) x ↔ IsReached G x
    IsReached-renamed x = (reached_to x, reached_from x)

    -- ---- undefined names

    abbrev IsReferred : Grammar → Text → Type 0
    IsReferred H x = (y : Text) × (p : Tree) × Contains H.definitions (y, p) × RefersTo x p

    referred_to : (x : Text) → IsReferred R x → IsReferred G x
    referred_to x (y, p, c, h) =
        let (d, e, same) = map_contained (renamed_definition named) G.definitions (y, p) c in
        let body : renamed_tree named d.1 ≡ p = ap (λ (f : Text × Tree). f.1) same in
        (d.0, d.1, e, (refers_to-renamed x d.1).0 (subst (RefersTo x) (sym body) h))

    referred_from : (x : Text) → IsReferred G x → IsReferred R x
    referred_from x (y, p, c, h) =
        (y, renamed_tree named p, map_contains (renamed_definition named) G.definitions (y, p) c, (refers_to-renamed x p).1 h)

    undefined_alike : (x : Text) → (definition_of R x ≡ None) ↔ (definition_of G x ≡ None)
    undefined_alike x =
        let same = mapped_none (renamed_tree named) (definition_of G x) in
        (λ e. same.0 (sym (definition_of-renamed x) ∙ e), λ e. definition_of-renamed x ∙ same.1 e)

    pub IsUndefined-renamed : (x : Text) → IsUndefined (renamed_grammar named G) x ↔ IsUndefined G x
    IsUndefined-renamed x = Iff.and (either (refers_to-renamed x G.start) (referred_to x, referred_from x)) (undefined_alike x)

    -- ---- loops

    leads_alike : (a b : Text) → IsSomeAnd (definition_of R a) (RefersOutside b) ↔ IsSomeAnd (definition_of G a) (RefersOutside b)
    leads_alike a b =
        subst (λ (o : Option Tree). IsSomeAnd o (RefersOutside b) ↔ IsSomeAnd (definition_of G a) (RefersOutside b))
        (sym (definition_of-renamed a))
        (mapped_and (renamed_tree named) (RefersOutside b) (RefersOutside b) (refers_outside-renamed b) (definition_of G a))

    pub IsRecursive-renamed : (x : Text) → IsRecursive (renamed_grammar named G) x ↔ IsRecursive G x
    IsRecursive-renamed x = Iff.and (IsReached-renamed x) (reaches_alike leads_alike x x)
