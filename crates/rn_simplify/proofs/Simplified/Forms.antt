-- Definitions of a grammar and those of its forms, and what is kept from the one to the other.
use Rattle.std.proofs.Common.{◌≡◌, ℕ, zero, suc, length, Option, Some, None, option_map, refl, sym, ap, ◌∙◌, subst, Contains}
use Rattle.std.specs.Prelude.{bytes_eq}
use Rattle.std.specs.Option.{option_map_or}
use Rattle.std.specs.Cmp.Lexicographic.{bytes_decides}
use Rattle.std.proofs.lemmas.Map.Views.{Contains-from_lookup}
use Rattle.rn_pattern.specs.Tree.{Parameters, Tree, not_allowed, empty, ref, datum_but}
use Rattle.rn_text.specs.Texts.{Text}
use Rattle.rn_pattern.specs.Matching.{Grammar, definition_of}
use Rattle.rn_pattern.specs.Canonical.{canonical, ref_unless_settled, settled_within}
use Rattle.rn_pattern.specs.Reached.{RefersTo, IsReached, by_start, by_definition, formed, all_canonical}
use Rattle.rn_pattern.specs.References.{RefersOutside}
use Rattle.rn_pattern.proofs.Matches.Validity.{lookup-map}
use Rattle.rn_pattern.proofs.CanonicalForms.KeptByForms.{IsKept, canonical_kept}
use Rattle.rn_pattern.proofs.CanonicalForms.KeptRules.{RefersIn, RefersOutsideIn, refers_kept, outside_kept}

pub found_in : (N : Grammar) (x : Text) (p : Tree) → definition_of N x ≡ Some p → Contains N.definitions (x, p)
found_in N x p e = Contains-from_lookup {eq = bytes_eq} (λ y z h. (bytes_decides y z).0 h) x p N.definitions e

pub none_before : (d : Option Tree) (f : Tree → Tree) → option_map f d ≡ None → d ≡ None
none_before None f h = refl
none_before (Some p) f h = cc

pub some_before : (d : Option Tree) (f : Tree → Tree) (o : Tree) → option_map f d ≡ Some o → (p : Tree) × (d ≡ Some p) × (f p ≡ o)
some_before None f o h = cc
some_before (Some p) f o h = (p, refl, cc)

module _ (s : Text → Tree) (G : Grammar) where
  pub form_source : (x : Text) (p : Tree) → definition_of (formed s G) x ≡ Some p → (q : Tree) × (definition_of G x ≡ Some q) × (canonical s q ≡ p)
  form_source x p e = some_before (definition_of G x) (canonical s) p (sym (lookup-map x (canonical s) G.definitions) ∙ e)

  pub to_form : (x : Text) (q : Tree) → definition_of G x ≡ Some q → definition_of (formed s G) x ≡ Some (canonical s q)
  to_form x q e = lookup-map x (canonical s) G.definitions ∙ ap (option_map (canonical s)) e

module _ (Q : Tree → Type 0) (k : IsKept Q) where
  stand_in_kept : (x : Text) (p : Tree) → Q (ref x) → Q (ref_unless_settled x p)
  stand_in_kept x not_allowed h = k.of_none
  stand_in_kept x empty h = k.of_empty
  stand_in_kept x p h = h

  next_kept : (s : Text → Tree) (x : Text) (o : Option Tree) → Q (ref x) → Q (option_map_or (λ p. ref_unless_settled x (canonical s p)) o (ref x))
  next_kept s x None h = h
  next_kept s x (Some p) h = stand_in_kept x (canonical s p) h

  pub settled_kept : (j : ℕ) (G : Grammar) (x : Text) → Q (ref x) → Q (settled_within j G x)
  settled_kept zero G x h = h
  settled_kept (suc j) G x h = next_kept (settled_within j G) x (definition_of G x) h

-- the canonical forms of a grammar's patterns
module _ (G : Grammar) where
  abbrev s : Text → Tree
  s = settled_within (length G.definitions) G

  module _ (Q : Tree → Type 0) (k : IsKept Q) (excepts : (l x : Text) (ps : Parameters) (p : Tree) → (Q p → Q (canonical s p)) → Q (datum_but l x ps p) → Q (datum_but l x ps (canonical s p))) where
    pub form_kept : (p : Tree) → Q p → Q (canonical s p)
    form_kept p h = canonical_kept Q k s (settled_kept Q k (length G.definitions) G) excepts p h

  pub refers_back : (x : Text) (p : Tree) → RefersTo x (canonical s p) → RefersTo x p
  refers_back x p h = form_kept (RefersIn (λ y. RefersTo y p)) (refers_kept (λ y. RefersTo y p)) (λ l t ps q f k. f k) p (λ y k. k) x h

  pub outside_back : (x : Text) (p : Tree) → RefersOutside x (canonical s p) → RefersOutside x p
  outside_back x p h = form_kept (RefersOutsideIn (λ y. RefersOutside y p)) (outside_kept (λ y. RefersOutside y p)) (λ l t ps q f k. f k) p (λ y k. k) x h

  -- what is reached by forms is reached
  pub reached_source : (x : Text) → IsReached (all_canonical G) x → IsReached G x
  reached_source x (by_start h) = by_start (refers_back x G.start h)
  reached_source x (by_definition {y = y} p r e h) = let (q, g, is) = form_source s G y p e in by_definition q (reached_source y r) g (refers_back x q (subst (RefersTo x) (sym is) h))
