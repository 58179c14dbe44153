-- However the members of a list are paired up, and of a choice or an interleave in whatever order, the same is matched.
use Rattle.std.proofs.Common.{◌≡◌, ◌↔◌, inl, inr, ⊎_elim, List, ◌++◌, sym, subst}
use Rattle.std.specs.Prelude.{IsPermutation}
use Rattle.rn_pattern.specs.Tree.{Tree, Trees, group, interleave, choice, no_trees, more_trees, list_of, trees_of}
use Rattle.rn_pattern.specs.Document.{Attribute, Item}
use Rattle.rn_pattern.specs.Datatype.{Table}
use Rattle.rn_pattern.specs.Order.{tree_cmp}
use Rattle.rn_pattern.specs.Canonical.{sorted, sorted_once}
use Rattle.rn_pattern.specs.Matching.{Matches, MatchesWithin, MatchAlike, Meaning}
use Rattle.rn_pattern.specs.Pairing.{PairedUp, alone, paired}
use Rattle.rn_pattern.proofs.Ordered.Orders.{tree_same}
use Rattle.rn_pattern.proofs.Ordered.TotalOrder.{tree_cmp_total}
use Rattle.rn_pattern.proofs.Ordered.Sorting.{sorted_permutation, sorted_once_permutation}
use Rattle.rn_pattern.proofs.Matches.Products.{IsComposition, Product, product_apart, product_append, product_one, product_sorted, product_unsorted}
use Rattle.rn_pattern.proofs.Matches.Compositions.{Content, nothing, InTurn, in_turn, Mixed, mixed, mixed_swap, Matching, group_product, product_group, interleave_product, product_interleave}
use Rattle.rn_pattern.proofs.Matches.StepsKeep.{list_of-trees_of, SomeOf, some_of_trees, trees_of_some, some_left, some_right, some_either, some_sorted, some_unsorted}

module _ (T : Table) (μ : Meaning) where
  pub paired_choice : (ps : List Tree) (p : Tree) → PairedUp choice ps p → (a : List Attribute) (m : List Item) → Matches T μ a m p ↔ SomeOf T μ a m ps
  paired_choice ps p alone a m = (λ h. inl h, λ h. ⊎_elim (λ x. x) (λ y. absurd y) h)
  paired_choice ts t (paired {ps = ps} {qs = qs} {p = p} {q = q} v w) a m = (
    ⊎_elim (λ h. some_left T μ a m ps qs ((paired_choice ps p v a m).0 h)) (⊎_elim (λ h. some_right T μ a m ps qs ((paired_choice qs q w a m).0 h)) (λ h. absurd h)),
    λ h. ⊎_elim (λ l. inl ((paired_choice ps p v a m).1 l)) (λ r. inr (inl ((paired_choice qs q w a m).1 r))) (some_either T μ a m ps qs h),
  )

  abbrev M : Tree → Content → Type 0
  M = Matching T μ

  -- nodes whose members match parts that are put together by C
  module _ (C : Content → Content → Content → Type 0) (whole : IsComposition C nothing) (node : Trees → Tree) (apart : (ps : Trees) (s : Content) → M (node ps) s → Product C nothing M (list_of ps) s)
      (together : (ps : Trees) (s : Content) → Product C nothing M (list_of ps) s → M (node ps) s) where
    abbrev P : List Tree → Content → Type 0
    P = Product C nothing M

    two_members : (ps qs : List Tree) (p q : Tree) (s : Content) → ((t : Content) → M p t ↔ P ps t) → ((t : Content) → M q t ↔ P qs t) → M (node (more_trees p (more_trees q no_trees))) s ↔ P (ps ++ qs) s
    two_members ps qs p q s e f = (into, back)
      where
        into : M (node (more_trees p (more_trees q no_trees))) s → P (ps ++ qs) s
        into h =
            let (first, rest, c, here, more) = apart (more_trees p (more_trees q no_trees)) s h in
            product_append C nothing whole M ps qs s first rest c ((e first).0 here) ((f rest).0 ((product_one C nothing whole M q rest).1 more))

        back : P (ps ++ qs) s → M (node (more_trees p (more_trees q no_trees))) s
        back h =
            let (u, r, c, before, behind) = product_apart C nothing whole M ps qs s h in
            together (more_trees p (more_trees q no_trees)) s (u, r, c, (e u).1 before, (product_one C nothing whole M q r).0 ((f r).1 behind))

    paired_members : (ps : List Tree) (p : Tree) → PairedUp node ps p → (s : Content) → M p s ↔ P ps s
    paired_members ps p alone s = product_one C nothing whole M p s
    paired_members ts t (paired {ps = ps} {qs = qs} {p = p} {q = q} v w) s = two_members ps qs p q s (paired_members ps p v) (paired_members qs q w)

    listed_members : (ps : List Tree) (s : Content) → M (node (trees_of ps)) s ↔ P ps s
    listed_members ps s = (
      λ h. subst (λ (x : List Tree). P x s) (list_of-trees_of ps) (apart (trees_of ps) s h),
      λ h. together (trees_of ps) s (subst (λ (x : List Tree). P x s) (sym (list_of-trees_of ps)) h),
    )

  pub paired_interleave : (ps : List Tree) (p : Tree) → PairedUp interleave ps p → (s : Content) → M p s ↔ Product Mixed nothing M ps s
  paired_interleave = paired_members Mixed mixed interleave (interleave_product T μ) (product_interleave T μ)

  pub some_permuted : (ps qs : List Tree) (a : List Attribute) (m : List Item) → IsPermutation ps qs → SomeOf T μ a m ps ↔ SomeOf T μ a m qs
  some_permuted ps qs a m p =
      let e : sorted_once tree_cmp ps ≡ sorted_once tree_cmp qs = sorted_once_permutation tree_cmp tree_cmp_total tree_same ps qs p in (
        λ h. some_unsorted T μ a m qs (subst (λ (x : List Tree). SomeOf T μ a m x) e (some_sorted T μ a m ps h)),
        λ h. some_unsorted T μ a m ps (subst (λ (x : List Tree). SomeOf T μ a m x) (sym e) (some_sorted T μ a m qs h)),
      )

  pub side_permuted : (ps qs : List Tree) (s : Content) → IsPermutation ps qs → Product Mixed nothing M ps s ↔ Product Mixed nothing M qs s
  side_permuted ps qs s p =
      let e : sorted tree_cmp ps ≡ sorted tree_cmp qs = sorted_permutation tree_cmp tree_cmp_total tree_same ps qs p in (
        λ h. product_unsorted Mixed nothing mixed mixed_swap M tree_cmp qs s (subst (λ (x : List Tree). Product Mixed nothing M x s) e (product_sorted Mixed nothing mixed mixed_swap M tree_cmp ps s h)),
        λ h. product_unsorted Mixed nothing mixed mixed_swap M tree_cmp ps s (subst (λ (x : List Tree). Product Mixed nothing M x s) (sym e) (product_sorted Mixed nothing mixed mixed_swap M tree_cmp qs s h)),
      )

  choice_listed : (ps : List Tree) (a : List Attribute) (m : List Item) → Matches T μ a m (choice (trees_of ps)) ↔ SomeOf T μ a m ps
  choice_listed ps a m = (
    λ h. subst (λ (x : List Tree). SomeOf T μ a m x) (list_of-trees_of ps) (some_of_trees T μ a m (trees_of ps) h),
    λ h. trees_of_some T μ a m (trees_of ps) (subst (λ (x : List Tree). SomeOf T μ a m x) (sym (list_of-trees_of ps)) h),
  )

  group_pairs : (ps : List Tree) (p : Tree) → PairedUp group ps p → (s : Content) → M p s ↔ M (group (trees_of ps)) s
  group_pairs ps p v s =
      let pairs = paired_members InTurn in_turn group (group_product T μ) (product_group T μ) ps p v s in
      let list = listed_members InTurn in_turn group (group_product T μ) (product_group T μ) ps s in
      (λ h. list.1 (pairs.0 h), λ h. pairs.1 (list.0 h))

  interleave_pairs : (ps qs : List Tree) (p : Tree) → IsPermutation ps qs → PairedUp interleave ps p → (s : Content) → M p s ↔ M (interleave (trees_of qs)) s
  interleave_pairs ps qs p e v s =
      let pairs = paired_interleave ps p v s in
      let order = side_permuted ps qs s e in
      let list = listed_members Mixed mixed interleave (interleave_product T μ) (product_interleave T μ) qs s in
      (λ h. list.1 (order.0 (pairs.0 h)), λ h. pairs.1 (order.1 (list.0 h)))

  choice_pairs : (ps qs : List Tree) (p : Tree) → IsPermutation ps qs → PairedUp choice ps p → (a : List Attribute) (m : List Item) → Matches T μ a m p ↔ Matches T μ a m (choice (trees_of qs))
  choice_pairs ps qs p e v a m =
      let pairs = paired_choice ps p v a m in
      let order = some_permuted ps qs a m e in
      let list = choice_listed qs a m in
      (λ h. list.1 (order.0 (pairs.0 h)), λ h. pairs.1 (order.1 (list.0 h)))

pub group_paired : (ps : List Tree) (p : Tree) → PairedUp group ps p → MatchAlike p (group (trees_of ps))
group_paired ps p v n G T a m = group_pairs T (MatchesWithin n G T) ps p v (a, m)

pub interleave_paired : (ps qs : List Tree) (p : Tree) → IsPermutation ps qs → PairedUp interleave ps p → MatchAlike p (interleave (trees_of qs))
interleave_paired ps qs p e v n G T a m = interleave_pairs T (MatchesWithin n G T) ps qs p e v (a, m)

pub choice_paired : (ps qs : List Tree) (p : Tree) → IsPermutation ps qs → PairedUp choice ps p → MatchAlike p (choice (trees_of qs))
choice_paired ps qs p e v n G T a m = choice_pairs T (MatchesWithin n G T) ps qs p e v a m
