-- A pattern that is opened matches what it did, and so does a grammar.
use Rattle.std.proofs.Common.{◌↔◌, inl, inr, ⊎_elim, ℕ, zero, suc, List, [], ◌∷◌, Option, Some, None, option_map, sym, subst}
use Rattle.std.specs.Prelude.{IsSomeAnd}
use Rattle.rn_pattern.specs.Tree.{Tree, Trees, not_allowed, empty, text, ref, value, datum, datum_but, list, attribute, element, one_or_more, group, interleave, choice, no_trees, more_trees, list_of}
use Rattle.rn_text.specs.Texts.{Text}
use Rattle.rn_pattern.specs.Document.{Attribute, Item}
use Rattle.rn_pattern.specs.Datatype.{Table}
use Rattle.rn_pattern.specs.Matching.{Matches, SomeMatches, Grammar, definition_of, MatchesWithin, IsValid, MatchAlike, Meaning}
use Rattle.rn_pattern.specs.Opened.{pair, one_or_node, opened_choice, opened_interleave, opened, opened_all, opened_grammar}
use Rattle.rn_pattern.proofs.Matches.Products.{Product, product_one}
use Rattle.rn_pattern.proofs.Matches.Compositions.{Content, nothing, Mixed, mixed, mixed_swap, Matching, interleave_product, product_interleave}
use Rattle.rn_pattern.proofs.Matches.Alike.{Alike, AreAlike, datum_but_alike, list_alike, attribute_alike, element_alike, one_or_more_alike, group_alike, interleave_alike, choice_alike, then_alike}
use Rattle.rn_pattern.proofs.Matches.Validity.{lookup-map}

module _ (T : Table) (μ : Meaning) where
  -- one member alone matches what the choice of it does
  pub one_or_choice : (ps : Trees) (a : List Attribute) (m : List Item) → Matches T μ a m (one_or_node choice ps) ↔ SomeMatches T μ a m ps
  one_or_choice no_trees a m = (λ h. h, λ h. h)
  one_or_choice (more_trees p no_trees) a m = (λ h. inl h, ⊎_elim (λ h. h) (λ h. absurd h))
  one_or_choice (more_trees p (more_trees q ps)) a m = (λ h. h, λ h. h)

  choice_first : (p : Tree) (ps : Trees) → Alike T μ μ (choice (more_trees empty (more_trees p ps))) (choice (pair (one_or_node choice (more_trees p ps)) empty))
  choice_first p ps a m =
      let others = one_or_choice (more_trees p ps) a m in
      (⊎_elim (λ h. inr (inl h)) (λ h. inl (others.1 h)), ⊎_elim (λ h. inr (others.0 h)) (⊎_elim (λ h. inl h) (λ h. absurd h)))

  pub opened_choice_alike : (ps : Trees) → Alike T μ μ (choice ps) (opened_choice ps)
  opened_choice_alike (more_trees empty (more_trees p ps)) = choice_first p ps
  opened_choice_alike ps = λ a m. (λ h. h, λ h. h)

  abbrev M : Tree → Content → Type 0
  M = Matching T μ

  abbrev pub Side : List Tree → Content → Type 0
  Side = Product Mixed nothing M

  pub one_or_interleave : (ps : Trees) (s : Content) → M (one_or_node interleave ps) s ↔ Side (list_of ps) s
  one_or_interleave no_trees s = (interleave_product T μ no_trees s, product_interleave T μ no_trees s)
  one_or_interleave (more_trees p no_trees) s = product_one Mixed nothing mixed M p s
  one_or_interleave (more_trees p (more_trees q ps)) s = (interleave_product T μ (more_trees p (more_trees q ps)) s, product_interleave T μ (more_trees p (more_trees q ps)) s)

  interleave_first : (p : Tree) (ps : Trees) → Alike T μ μ (interleave (more_trees text (more_trees p ps))) (interleave (pair (one_or_node interleave (more_trees p ps)) text))
  interleave_first p ps a m = (into, back)
    where
      others : Tree
      others = one_or_node interleave (more_trees p ps)

      into : M (interleave (more_trees text (more_trees p ps))) (a, m) → M (interleave (pair others text)) (a, m)
      into h =
          let (f, w, c, here, side) = interleave_product T μ (more_trees text (more_trees p ps)) (a, m) h in
          product_interleave T μ (pair others text) (a, m) (w, f, mixed_swap (a, m) f w c, (one_or_interleave (more_trees p ps) w).1 side, (product_one Mixed nothing mixed M text f).0 here)

      back : M (interleave (pair others text)) (a, m) → M (interleave (more_trees text (more_trees p ps))) (a, m)
      back h =
          let (w, f, c, side, here) = interleave_product T μ (pair others text) (a, m) h in
          product_interleave T μ (more_trees text (more_trees p ps)) (a, m) (f, w, mixed_swap (a, m) w f c, (product_one Mixed nothing mixed M text f).1 here, (one_or_interleave (more_trees p ps) w).0 side)

  pub opened_interleave_alike : (ps : Trees) → Alike T μ μ (interleave ps) (opened_interleave ps)
  opened_interleave_alike (more_trees text (more_trees p ps)) = interleave_first p ps
  opened_interleave_alike ps = λ a m. (λ h. h, λ h. h)

module _ (T : Table) (μ ν : Meaning) (same : (x : Text) (a : List Attribute) (m : List Item) → μ x a m ↔ ν x a m) where
  mutual
    pub opened_alike : (p : Tree) → Alike T μ ν p (opened p)
    opened_alike not_allowed = λ a m. (λ h. h, λ h. h)
    opened_alike empty = λ a m. (λ h. h, λ h. h)
    opened_alike text = λ a m. (λ h. h, λ h. h)
    opened_alike (ref x) = λ a m. same x a m
    opened_alike (value l x t) = λ a m. (λ h. h, λ h. h)
    opened_alike (datum l x ps) = λ a m. (λ h. h, λ h. h)
    opened_alike (datum_but l x ps p) = datum_but_alike T μ ν l x ps p (opened p) (opened_alike p)
    opened_alike (list p) = list_alike T μ ν p (opened p) (opened_alike p)
    opened_alike (attribute c p) = attribute_alike T μ ν c p (opened p) (opened_alike p)
    opened_alike (element c p) = element_alike T μ ν c p (opened p) (opened_alike p)
    opened_alike (one_or_more p) = one_or_more_alike T μ ν p (opened p) (opened_alike p)
    opened_alike (group ps) = group_alike T μ ν ps (opened_all ps) (opened_all_alike ps)
    opened_alike (interleave ps) =
        then_alike T μ ν (interleave ps) (interleave (opened_all ps)) (opened_interleave (opened_all ps)) (interleave_alike T μ ν ps (opened_all ps) (opened_all_alike ps)) (opened_interleave_alike T ν (opened_all ps))
    opened_alike (choice ps) =
        then_alike T μ ν (choice ps) (choice (opened_all ps)) (opened_choice (opened_all ps)) (choice_alike T μ ν ps (opened_all ps) (opened_all_alike ps)) (opened_choice_alike T ν (opened_all ps))

    pub opened_all_alike : (ps : Trees) → AreAlike T μ ν ps (opened_all ps)
    opened_all_alike no_trees = tt
    opened_all_alike (more_trees p ps) = (opened_alike p, opened_all_alike ps)

-- in every grammar, at every depth
pub opened_matches : (p : Tree) → MatchAlike p (opened p)
opened_matches p n G T a m = opened_alike T (MatchesWithin n G T) (MatchesWithin n G T) (λ x b k. (λ h. h, λ h. h)) p a m

module _ (N : Grammar) (T : Table) where
  by_definition : (n : ℕ) (o : Option Tree) (a : List Attribute) (m : List Item) → ((p : Tree) → Alike T (MatchesWithin n N T) (MatchesWithin n (opened_grammar N) T) p (opened p))
      → IsSomeAnd o (λ p. Matches T (MatchesWithin n N T) a m p) ↔ IsSomeAnd (option_map opened o) (λ p. Matches T (MatchesWithin n (opened_grammar N) T) a m p)
  by_definition n None a m e = (λ h. h, λ h. h)
  by_definition n (Some p) a m e = e p a m

  pub opened_within : (n : ℕ) (x : Text) (a : List Attribute) (m : List Item) → MatchesWithin n N T x a m ↔ MatchesWithin n (opened_grammar N) T x a m
  opened_within zero x a m = (λ h. h, λ h. h)
  opened_within (suc n) x a m =
      subst (λ (o : Option Tree). MatchesWithin (suc n) N T x a m ↔ IsSomeAnd o (λ p. Matches T (MatchesWithin n (opened_grammar N) T) a m p)) (sym (lookup-map x opened N.definitions))
      (by_definition n (definition_of N x) a m (opened_alike T (MatchesWithin n N T) (MatchesWithin n (opened_grammar N) T) (opened_within n)))

  -- a grammar that is opened accepts the documents that it did
  pub opened_valid : (doc : Item) → IsValid N T doc ↔ IsValid (opened_grammar N) T doc
  opened_valid doc = (
    λ v. (v.0, (opened_alike T (MatchesWithin v.0 N T) (MatchesWithin v.0 (opened_grammar N) T) (opened_within v.0) N.start [] (doc ∷ [])).0 v.1),
    λ v. (v.0, (opened_alike T (MatchesWithin v.0 N T) (MatchesWithin v.0 (opened_grammar N) T) (opened_within v.0) N.start [] (doc ∷ [])).1 v.1),
  )
