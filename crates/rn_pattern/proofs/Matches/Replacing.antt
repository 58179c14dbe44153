-- A reference that is replaced by notAllowed or empty, where its definition is worth that, is no matter for a grammar's documents.
use Rattle.std.proofs.Common.{◌≡◌, ◌↔◌, ℕ, zero, suc, List, [], ◌∷◌, Option, Some, None, option_map, refl, sym, ap, subst}
use Rattle.std.specs.Prelude.{IfSome, IsSomeAnd}
use Rattle.std.specs.Option.{option_map_or}
use Rattle.rn_pattern.specs.Tree.{Tree, Trees, not_allowed, empty, text, ref, value, datum, datum_but, list, attribute, element, one_or_more, group, interleave, choice, no_trees, more_trees}
use Rattle.rn_text.specs.Texts.{Text}
use Rattle.rn_pattern.specs.Document.{Attribute, Item}
use Rattle.rn_pattern.specs.Datatype.{Table}
use Rattle.rn_pattern.specs.Matching.{Matches, Grammar, definition_of, MatchesWithin, IsValid, Meaning}
use Rattle.rn_pattern.specs.Canonical.{canonical, canonical_all, canonical_name, choice_step, group_step, interleave_step, one_or_more_step, list_step, attribute_step, datum_but_step, ref_unless_settled, settled_within}
use Rattle.rn_pattern.specs.CanonicalShape.{AnyName}
use Rattle.rn_pattern.specs.Excepts.{IsExcept, AreExcepts, HasExcepts, HaveExcepts}
use Rattle.rn_pattern.specs.Reached.{formed}
use Rattle.rn_pattern.specs.Replaced.{replaced, replaced_all, replaced_grammar}
use Rattle.rn_pattern.proofs.Matches.CanonicalKeeps.{canonical_to, canonical_from}
use Rattle.rn_pattern.proofs.CanonicalForms.Fixed.{canonical_itself}
use Rattle.rn_pattern.proofs.CanonicalForms.Settled.{settled_canonical}
use Rattle.rn_pattern.proofs.Matches.Validity.{canonical_valid, lookup-map}

module _ (s : Text → Tree) where
  mutual
    except_replaced : (p : Tree) → IsExcept p → IsExcept (replaced s p)
    except_replaced not_allowed h = h
    except_replaced (value l x t) h = h
    except_replaced (datum l x ps) h = h
    except_replaced (datum_but l x ps p) h = except_replaced p h
    except_replaced (choice ps) h = excepts_replaced ps h
    except_replaced p h = absurd h

    excepts_replaced : (ps : Trees) → AreExcepts ps → AreExcepts (replaced_all s ps)
    excepts_replaced no_trees h = h
    excepts_replaced (more_trees p ps) h = (except_replaced p h.0, excepts_replaced ps h.1)

  -- where none stands for a reference, the excepts are what they were
  module _ (has : (x : Text) → HasExcepts (s x)) where
    mutual
      pub has_excepts : (p : Tree) → HasExcepts p → HasExcepts (replaced s p)
      has_excepts not_allowed h = h
      has_excepts empty h = h
      has_excepts text h = h
      has_excepts (ref x) h = has x
      has_excepts (value l x t) h = h
      has_excepts (datum l x ps) h = h
      has_excepts (datum_but l x ps p) h = except_replaced p h
      has_excepts (list p) h = has_excepts p h
      has_excepts (attribute c p) h = has_excepts p h
      has_excepts (element c p) h = has_excepts p h
      has_excepts (one_or_more p) h = has_excepts p h
      has_excepts (group ps) h = have_excepts ps h
      has_excepts (interleave ps) h = have_excepts ps h
      has_excepts (choice ps) h = have_excepts ps h

      have_excepts : (ps : Trees) → HaveExcepts ps → HaveExcepts (replaced_all s ps)
      have_excepts no_trees h = h
      have_excepts (more_trees p ps) h = (has_excepts p h.0, have_excepts ps h.1)

  -- the canonical form of what is replaced is that which replaces
  module _ (fixed : (x : Text) → canonical ref (s x) ≡ s x) where
    mutual
      pub replaced_form : (p : Tree) → canonical ref (replaced s p) ≡ canonical s p
      replaced_form not_allowed = refl
      replaced_form empty = refl
      replaced_form text = refl
      replaced_form (ref x) = fixed x
      replaced_form (value l x t) = refl
      replaced_form (datum l x ps) = refl
      replaced_form (datum_but l x ps p) = ap (datum_but_step l x ps) (replaced_form p)
      replaced_form (list p) = ap list_step (replaced_form p)
      replaced_form (attribute c p) = ap (attribute_step (canonical_name c)) (replaced_form p)
      replaced_form (element c p) = ap (element (canonical_name c)) (replaced_form p)
      replaced_form (one_or_more p) = ap one_or_more_step (replaced_form p)
      replaced_form (group ps) = ap group_step (replaced_forms ps)
      replaced_form (interleave ps) = ap interleave_step (replaced_forms ps)
      replaced_form (choice ps) = ap choice_step (replaced_forms ps)

      replaced_forms : (ps : Trees) → canonical_all ref (replaced_all s ps) ≡ canonical_all s ps
      replaced_forms no_trees = refl
      replaced_forms (more_trees p ps) = let here = replaced_form p in let more = replaced_forms ps in λ i. here i ∷ more i

ref_excepts : (x : Text) (p : Tree) → HasExcepts (ref_unless_settled x p)
ref_excepts x not_allowed = tt
ref_excepts x empty = tt
ref_excepts x p = tt

settled_excepts_at : (G : Grammar) (k : ℕ) (x : Text) (o : Option Tree) → HasExcepts (option_map_or (λ p. ref_unless_settled x (canonical (settled_within k G) p)) o (ref x))
settled_excepts_at G k x None = tt
settled_excepts_at G k x (Some p) = ref_excepts x (canonical (settled_within k G) p)

settled_excepts : (G : Grammar) (k : ℕ) (x : Text) → HasExcepts (settled_within k G x)
settled_excepts G zero x = tt
settled_excepts G (suc k) x = settled_excepts_at G k x (definition_of G x)

module _ (T : Table) (k : ℕ) (G : Grammar) (excepts : (x : Text) → IfSome (definition_of G x) HasExcepts) where
  abbrev s : Text → Tree
  s = settled_within k G

  abbrev R : Grammar
  R = replaced_grammar s G

  abbrev N : Grammar
  N = formed s G

  fixed : (x : Text) → canonical ref (s x) ≡ s x
  fixed x = canonical_itself (s x) (settled_canonical G AnyName k x (λ _. tt))

  to_form : (μ ν : Meaning) → ((x : Text) (a : List Attribute) (m : List Item) → μ x a m ↔ ν x a m) → (p : Tree) → HasExcepts p → (a : List Attribute) (m : List Item) → Matches T μ a m (replaced s p) ↔ Matches T ν a m (canonical s p)
  to_form μ ν same p h a m =
      let e = has_excepts s (settled_excepts G k) p h in
      let form = replaced_form s fixed p in (
        λ v. subst (λ q. Matches T ν a m q) form (canonical_to T μ ν ref (λ x b i. (same x b i).0) (replaced s p) e a m v),
        λ v. canonical_from T μ ν ref (λ x b i. (same x b i).1) (replaced s p) e a m (subst (λ q. Matches T ν a m q) (sym form) v),
      )

  by_definition : (n : ℕ) (o : Option Tree) → IfSome o HasExcepts → (a : List Attribute) (m : List Item) → ((x : Text) (b : List Attribute) (i : List Item) → MatchesWithin n R T x b i ↔ MatchesWithin n N T x b i)
      → IsSomeAnd (option_map (replaced s) o) (λ p. Matches T (MatchesWithin n R T) a m p) ↔ IsSomeAnd (option_map (canonical s) o) (λ p. Matches T (MatchesWithin n N T) a m p)
  by_definition n None e a m same = (λ h. h, λ h. h)
  by_definition n (Some p) e a m same = to_form (MatchesWithin n R T) (MatchesWithin n N T) same p e a m

  replaced_within : (n : ℕ) (x : Text) (a : List Attribute) (m : List Item) → MatchesWithin n R T x a m ↔ MatchesWithin n N T x a m
  replaced_within zero x a m = (λ h. h, λ h. h)
  replaced_within (suc n) x a m =
      let each = by_definition n (definition_of G x) (excepts x) a m (replaced_within n) in
      let old = lookup-map x (replaced s) G.definitions in
      let new = lookup-map x (canonical s) G.definitions in (
        λ h. subst (λ (o : Option Tree). IsSomeAnd o (λ p. Matches T (MatchesWithin n N T) a m p)) (sym new) (each.0 (subst (λ (o : Option Tree). IsSomeAnd o (λ p. Matches T (MatchesWithin n R T) a m p)) old h)),
        λ h. subst (λ (o : Option Tree). IsSomeAnd o (λ p. Matches T (MatchesWithin n R T) a m p)) (sym old) (each.1 (subst (λ (o : Option Tree). IsSomeAnd o (λ p. Matches T (MatchesWithin n N T) a m p)) new h)),
      )

  -- the grammar with its references replaced accepts the documents of the grammar
  pub replaced_valid : HasExcepts G.start → (doc : Item) → IsValid G T doc ↔ IsValid R T doc
  replaced_valid h doc =
      let formed_too = canonical_valid T G excepts k h doc in
      let start = λ (n : ℕ). to_form (MatchesWithin n R T) (MatchesWithin n N T) (replaced_within n) G.start h [] (doc ∷ []) in (
        λ v. let w = formed_too.0 v in (w.0, (start w.0).1 w.1),
        λ v. formed_too.1 (v.0, (start v.0).0 v.1),
      )
