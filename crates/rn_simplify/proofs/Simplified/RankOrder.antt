-- References settled in the order of ranks, and the forms pruned to those that are reached, give the canonical grammar.
use Rattle.std.proofs.Common.{◌≡◌, ℕ, length, Option, Some, None, option_map, refl, sym, ap, ◌∙◌, subst}
use Rattle.rn_pattern.specs.Tree.{Tree}
use Rattle.rn_text.specs.Texts.{Text}
use Rattle.rn_pattern.specs.Matching.{Grammar, definition_of}
use Rattle.rn_pattern.specs.Canonical.{canonical, settled_within}
use Rattle.rn_pattern.specs.Reached.{RefersTo, IsReached, by_start, by_definition, formed, all_canonical, IsPruned, IsCanonicalOf}
use Rattle.rn_pattern.proofs.Matches.Ranked.{canonical_same, settled_is}
use Rattle.rn_pattern.proofs.Matches.Validity.{lookup-map}
use Rattle.rn_assemble.proofs.Referring.JoinedReferences.{outside_anywhere}
use Rattle.rn_simplify.specs.Settling.{IsSettling}
use Rattle.rn_simplify.proofs.Simplified.Forms.{form_source, to_form, reached_source}

module _ (G : Grammar) (t : Text → Tree) (rank : Text → ℕ) (k : IsSettling G t rank) where
  abbrev A : Grammar
  A = all_canonical G

  abbrev F : Grammar
  F = formed t G

  abbrev s : Text → Tree
  s = settled_within (length G.definitions) G

  same_name : (x : Text) → IsReached G x → s x ≡ t x
  same_name x r = settled_is G t k.forms (IsReached G) rank k.made (λ y z p w e h. (by_definition p w e (outside_anywhere z p h), k.ranks.falls y z p w e h)) (length G.definitions) x r (k.ranks.below x r)

  same_form : (p : Tree) → ((x : Text) → RefersTo x p → IsReached G x) → canonical s p ≡ canonical t p
  same_form p f = canonical_same s t p (λ x h. same_name x (f x h))

  same_start : canonical s G.start ≡ canonical t G.start
  same_start = same_form G.start (λ x h. by_start h)

  same_body : (y : Text) (q : Tree) → IsReached G y → definition_of G y ≡ Some q → canonical s q ≡ canonical t q
  same_body y q r e = same_form q (λ x h. by_definition q r e h)

  pub into_canonical : (x : Text) → IsReached F x → IsReached A x
  into_canonical x (by_start h) = by_start (subst (RefersTo x) (sym same_start) h)
  into_canonical x (by_definition {y = y} p r e h) =
      let into = into_canonical y r in
      let (q, g, is) = form_source t G y p e in
      by_definition (canonical s q) into (to_form s G y q g) (subst (RefersTo x) (sym is ∙ sym (same_body y q (reached_source G y into) g)) h)

  out_of_canonical : (x : Text) → IsReached A x → IsReached F x
  out_of_canonical x (by_start h) = by_start (subst (RefersTo x) same_start h)
  out_of_canonical x (by_definition {y = y} p r e h) =
      let (q, g, is) = form_source s G y p e in
      by_definition (canonical t q) (out_of_canonical y r) (to_form t G y q g) (subst (RefersTo x) (sym is ∙ same_body y q (reached_source G y r) g) h)

  same_option : (x : Text) (o : Option Tree) → IsReached A x → definition_of G x ≡ o → option_map (canonical s) o ≡ option_map (canonical t) o
  same_option x None r e = refl
  same_option x (Some q) r e = ap (λ p. Some p) (same_body x q (reached_source G x r) e)

  same_definition : (x : Text) → IsReached A x → definition_of A x ≡ definition_of F x
  same_definition x r = lookup-map x (canonical s) G.definitions ∙ same_option x (definition_of G x) r refl ∙ sym (lookup-map x (canonical t) G.definitions)

  -- the forms that are reached through forms, in the order of their names
  pub normal_is : (N : Grammar) → IsPruned F N → IsCanonicalOf G N
  normal_is N n = record {
    start = n.start ∙ sym same_start;
    definitions = λ x p. (
      λ h. let (r, e) = (n.definitions x p).0 h in let into = into_canonical x r in (into, same_definition x into ∙ e),
      λ h. (n.definitions x p).1 (out_of_canonical x h.0, sym (same_definition x h.0) ∙ h.1),
    );
    in_order = n.in_order;
  }
