-- The canonical grammar of a renamed grammar is the canonical grammar, renamed.
use Rattle.std.proofs.Common.{◌≡◌, ℕ, zero, suc, List, [], ◌∷◌, length, map, Option, Some, None, option_map, refl, sym, ap, ◌∙◌, subst}
use Rattle.std.specs.List.{AllByRecursion}
use Rattle.std.proofs.lemmas.List.{length-map}
use Rattle.rn_pattern.specs.Tree.{Tree, not_allowed, empty}
use Rattle.rn_text.specs.Texts.{Text}
use Rattle.rn_pattern.specs.Matching.{Grammar, definition_of}
use Rattle.rn_pattern.specs.Canonical.{canonical, ref_unless_settled, settled_within, settled_in}
use Rattle.rn_pattern.specs.Reached.{formed, all_canonical, IsPruned, IsCanonicalOf}
use Rattle.rn_pattern.proofs.CanonicalForms.Settled.{next}
use Rattle.rn_assemble.specs.Renamed.{renamed_tree, renamed_definition, renamed_grammar, HasKnownUris, IsOfKnownUris, IsRenaming}
use Rattle.rn_assemble.proofs.Renaming.RenamedReferences.{definition_of-renamed}
use Rattle.rn_simplify.proofs.Renaming.RenamedDefinitions.{known_definition}
use Rattle.rn_simplify.proofs.Renaming.PrunedGrammars.{pruned_renamed}
use Rattle.rn_simplify.proofs.Renaming.KnownUris.{settled_known}
use Rattle.rn_simplify.proofs.Renaming.CanonicalPatterns.{form-renamed}

module _ (named : Text → Text) (Known : Text → Type 0) (r : IsRenaming named Known) where
  abbrev called : Tree → Tree
  called = renamed_tree named

  stand_in-renamed : (x : Text) (p : Tree) → ref_unless_settled x (called p) ≡ called (ref_unless_settled x p)
  stand_in-renamed x not_allowed = refl
  stand_in-renamed x empty = refl
  stand_in-renamed x p = refl

  -- settled': what references become in the renamed grammar
  module _ (settled settled' : Text → Tree) (known : (x : Text) → HasKnownUris Known (settled x))
      (same : (x : Text) → settled' x ≡ called (settled x)) where
    form : (p : Tree) → HasKnownUris Known p → canonical settled' (called p) ≡ called (canonical settled p)
    form = form-renamed named Known r settled settled' known same

    next-renamed : (G : Grammar) (x : Text) (o : Option Tree) → ((p : Tree) → o ≡ Some p → HasKnownUris Known p)
        → next G settled' x (option_map called o) ≡ called (next G settled x o)
    next-renamed G x None h = refl
    next-renamed G x (Some p) h = ap (ref_unless_settled x) (form p (h p refl)) ∙ stand_in-renamed x (canonical settled p)

    definitions-renamed : (ds : List (Text × Tree)) → AllByRecursion (λ (d : Text × Tree). HasKnownUris Known d.1) ds
        → map (λ (d : Text × Tree). (d.0, canonical settled' d.1)) (map (renamed_definition named) ds)
        ≡ map (renamed_definition named) (map (λ (d : Text × Tree). (d.0, canonical settled d.1)) ds)
    definitions-renamed [] h = refl
    definitions-renamed (d ∷ ds) h =
        let e = form d.1 h.0 in
        let more = definitions-renamed ds h.1 in
        λ i. (d.0, e i) ∷ more i

    pub formed-renamed : (G : Grammar) → IsOfKnownUris Known G
        → formed settled' (renamed_grammar named G) ≡ renamed_grammar named (formed settled G)
    formed-renamed G w =
        let e = form G.start w.start in
        let f = definitions-renamed G.definitions w.definitions in
        λ i. record { start = e i; definitions = f i }

  module _ (G : Grammar) (w : IsOfKnownUris Known G) where
    abbrev R : Grammar
    R = renamed_grammar named G

    pub settled_within-renamed : (k : ℕ) (x : Text) → settled_within k R x ≡ called (settled_within k G x)
    settled_within-renamed zero x = refl
    settled_within-renamed (suc k) x =
        ap (next R (settled_within k R) x) (definition_of-renamed named G x)
        ∙ next-renamed (settled_within k G) (settled_within k R) (settled_known Known k G) (settled_within-renamed k)
        G x (definition_of G x) (known_definition Known G w x)

    pub settled_in-renamed : (x : Text) → settled_in R x ≡ called (settled_in G x)
    settled_in-renamed x =
        ap (λ k. settled_within k R x) (length-map G.definitions (renamed_definition named))
        ∙ settled_within-renamed (length G.definitions) x

    pub all_canonical-renamed : all_canonical R ≡ renamed_grammar named (all_canonical G)
    all_canonical-renamed =
        formed-renamed (settled_in G) (settled_in R) (settled_known Known (length G.definitions) G) settled_in-renamed G w

  pub canonical_renamed : (G N : Grammar) → IsOfKnownUris Known G → IsCanonicalOf G N
      → IsCanonicalOf (renamed_grammar named G) (renamed_grammar named N)
  canonical_renamed G N w c =
      subst (λ F. IsPruned F (renamed_grammar named N)) (sym (all_canonical-renamed G w))
      (pruned_renamed named (all_canonical G) N c)
