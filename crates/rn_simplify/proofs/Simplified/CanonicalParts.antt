-- The start and the definitions of the canonical grammar, from the forms of those that are reached.
use Rattle.std.proofs.Common.{◌≡◌, ℕ, List, Option, Some, None, refl, sym, ap, ◌∙◌, subst}
use Rattle.rn_pattern.specs.Canonical.{canonical}
use Rattle.rn_pattern.specs.Matching.{Grammar, definition_of}
use Rattle.rn_pattern.specs.Reached.{IsReached, by_start, by_definition, formed, IsCanonicalOf, IsPruned}
use Rattle.rn_pattern.specs.Tree.{Tree}
use Rattle.rn_text.specs.Texts.{Text}
use Rattle.rn_assemble.specs.WellFormed.{IsWellFormed}
use Rattle.rn_assemble.proofs.Referring.KeyOrders.{reached_refers}
use Rattle.rn_simplify.specs.Settling.{IsSettling}
use Rattle.rn_simplify.specs.inside.DefinitionForms.{HaveForms}
use Rattle.rn_simplify.proofs.Simplified.Forms.{reached_source, to_form}
use Rattle.rn_simplify.proofs.Simplified.RankOrder.{into_canonical, normal_is}

module _ (G : Grammar) (t : Text → Tree) (rank : Text → ℕ) (settling : IsSettling G t rank) (w : IsWellFormed G) (fs : List (Text × Tree)) (made : HaveForms G t fs) where
  -- all forms, and those of the definitions that are reached
  abbrev F : Grammar
  F = formed t G

  abbrev H : Grammar
  H = record { start = canonical t G.start; definitions = fs }

  reached_of : (x : Text) → IsReached F x → IsReached G x
  reached_of x r = reached_source G x (into_canonical G t rank settling x r)

  same_at : (x : Text) (o : Option Tree) → definition_of G x ≡ o → IsReached F x → definition_of H x ≡ definition_of F x
  same_at x None e r = absurd (w.defined x (reached_refers G x (reached_of x r), e))
  same_at x (Some p) e r = made x p (reached_of x r) e ∙ sym (to_form t G x p e)

  same : (x : Text) → IsReached F x → definition_of H x ≡ definition_of F x
  same x r = same_at x (definition_of G x) refl r

  from_forms : (x : Text) → IsReached H x → IsReached F x
  from_forms x (by_start h) = by_start h
  from_forms x (by_definition {y = y} p r e h) = let there = from_forms y r in by_definition p there (sym (same y there) ∙ e) h

  to_forms : (x : Text) → IsReached F x → IsReached H x
  to_forms x (by_start h) = by_start h
  to_forms x (by_definition {y = y} p r e h) = by_definition p (to_forms y r) (same y r ∙ e) h

  whole_pruned : (N : Grammar) → IsPruned H N → IsPruned F N
  whole_pruned N n = record {
    start = n.start;
    definitions = λ x p. (
      λ h. let (r, e) = (n.definitions x p).0 h in let there = from_forms x r in (there, sym (same x there) ∙ e),
      λ h. (n.definitions x p).1 (to_forms x h.0, same x h.0 ∙ h.1),
    );
    in_order = n.in_order;
  }

  -- what is reached of the forms of a grammar's bodies is its canonical grammar
  pub canonical_of : (p s : Tree) (vs : List (Text × Tree)) → p ≡ G.start → s ≡ canonical t p → IsPruned (record { start = s; definitions = fs }) (record { start = s; definitions = vs })
      → IsCanonicalOf G (record { start = s; definitions = vs })
  canonical_of p s vs e g pruned =
      let N : Grammar = record { start = s; definitions = vs } in
      normal_is G t rank settling N (whole_pruned N (subst (λ (q : Tree). IsPruned (record { start = q; definitions = fs }) N) (g ∙ ap (canonical t) e) pruned))
