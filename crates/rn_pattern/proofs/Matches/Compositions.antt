-- What groups, interleaves and repetitions match, as products.
use Rattle.std.proofs.Common.{◌≡◌, ◌<◌, ℕ, zero, suc, List, [], ◌∷◌, ◌++◌, length, replicate, refl, sym, ap, ◌∙◌, subst, arith}
use Rattle.std.specs.Prelude.{flat_map}
use Rattle.std.specs.List.{AllZip}
use Rattle.std.proofs.lemmas.List.{append-nil, append_assoc}
use Rattle.rn_pattern.specs.Tree.{Tree, Trees, group, interleave, one_or_more, no_trees, more_trees, list_of}
use Rattle.rn_pattern.specs.Document.{Attribute, Item}
use Rattle.rn_pattern.specs.Datatype.{Table}
use Rattle.rn_pattern.specs.Split.{IsCut}
use Rattle.rn_pattern.specs.Matching.{Matches, EachMatches, Meaning}
use Rattle.rn_pattern.proofs.Matches.Weaving.{Weave, weave_alone, weave_swap, weave_only, weave_left, weave_right}
use Rattle.rn_pattern.proofs.Matches.Splits.{Woven, split_woven, woven_split}
use Rattle.rn_pattern.proofs.Matches.Products.{IsComposition, Product}

-- a bag of attributes and a list of items
abbrev pub Content : Type 0
Content = List Attribute × List Item

abbrev pub nothing : Content
nothing = ([], [])

abbrev pub InTurn : Content → Content → Content → Type 0
InTurn s p r = Weave Attribute s.0 p.0 r.0 × (s.1 ≡ p.1 ++ r.1)

abbrev pub Mixed : Content → Content → Content → Type 0
Mixed s p r = Weave Attribute s.0 p.0 r.0 × Weave Item s.1 p.1 r.1

pub in_turn : IsComposition InTurn nothing
in_turn = record {
  nothing_before = λ s. (weave_swap (weave_alone s.0), refl);
  nothing_behind = λ s. (weave_alone s.0, sym (append-nil s.1));
  only_before = λ s t h. λ i. (weave_only h.0 i, (h.1 ∙ append-nil t.1) i);
  only_behind = λ s t h. λ i. (weave_only (weave_swap h.0) i, h.1 i);
  regroup_left = λ s p r q t c d. turn_left s p r q t c d;
  regroup_right = λ s u t p q c d. turn_right s u t p q c d;
}
  where
    turn_left : (s p r q t : Content) → InTurn s p r → InTurn r q t → (u : Content) × InTurn s u t × InTurn u p q
    turn_left s p r q t c d =
        let (u, v, w) = weave_left c.0 d.0 in
        ((u, p.1 ++ q.1), (v, c.1 ∙ ap (λ x. p.1 ++ x) d.1 ∙ sym (append_assoc p.1 q.1 t.1)), (w, refl))

    turn_right : (s u t p q : Content) → InTurn s u t → InTurn u p q → (r : Content) × InTurn s p r × InTurn r q t
    turn_right s u t p q c d =
        let (r, v, w) = weave_right c.0 d.0 in
        ((r, q.1 ++ t.1), (v, c.1 ∙ ap (λ x. x ++ t.1) d.1 ∙ append_assoc p.1 q.1 t.1), (w, refl))

pub mixed : IsComposition Mixed nothing
mixed = record {
  nothing_before = λ s. (weave_swap (weave_alone s.0), weave_swap (weave_alone s.1));
  nothing_behind = λ s. (weave_alone s.0, weave_alone s.1);
  only_before = λ s t h. λ i. (weave_only h.0 i, weave_only h.1 i);
  only_behind = λ s t h. λ i. (weave_only (weave_swap h.0) i, weave_only (weave_swap h.1) i);
  regroup_left = λ s p r q t c d. mixed_left s p r q t c d;
  regroup_right = λ s u t p q c d. mixed_right s u t p q c d;
}
  where
    mixed_left : (s p r q t : Content) → Mixed s p r → Mixed r q t → (u : Content) × Mixed s u t × Mixed u p q
    mixed_left s p r q t c d =
        let (u, v, w) = weave_left c.0 d.0 in
        let (x, y, z) = weave_left c.1 d.1 in
        ((u, x), (v, y), (w, z))

    mixed_right : (s u t p q : Content) → Mixed s u t → Mixed u p q → (r : Content) × Mixed s p r × Mixed r q t
    mixed_right s u t p q c d =
        let (r, v, w) = weave_right c.0 d.0 in
        let (x, y, z) = weave_right c.1 d.1 in
        ((r, x), (v, y), (w, z))

pub mixed_swap : (s u v : Content) → Mixed s u v → Mixed s v u
mixed_swap s u v c = (weave_swap c.0, weave_swap c.1)

module _ (T : Table) (meaning : Meaning) where
  abbrev pub Matching : Tree → Content → Type 0
  Matching p s = Matches T meaning s.0 s.1 p

  turns_product : (ps : Trees) (a : List Attribute) (m : List Item) (bags : List (List Attribute)) (lists : List (List Item)) → Woven a bags → IsCut m lists → EachMatches T meaning bags lists ps → Product InTurn nothing Matching (list_of ps) (a, m)
  turns_product no_trees a m bags lists w c (none, empty) =
      let a_none : Woven a [] = subst (λ (x : List (List Attribute)). Woven a x) none w in
      let m_none : IsCut m [] = subst (λ (x : List (List Item)). IsCut m x) empty c in
      λ i. (a_none i, m_none i)
  turns_product (more_trees p ps) a m [] lists w c each = absurd each
  turns_product (more_trees p ps) a m (b ∷ bags) [] w c each = absurd each
  turns_product (more_trees p ps) a m (b ∷ bags) (l ∷ lists) (rest, w, more) c (here, each) =
      ((b, l), (rest, flat_map (λ x. x) lists), (w, c), here, turns_product ps rest (flat_map (λ x. x) lists) bags lists more refl each)

  product_turns : (ps : Trees) (a : List Attribute) (m : List Item) → Product InTurn nothing Matching (list_of ps) (a, m) → (bags : List (List Attribute)) × (lists : List (List Item)) × Woven a bags × IsCut m lists × EachMatches T meaning bags lists ps
  product_turns no_trees a m h = ([], [], ap (λ s. s.0) h, ap (λ s. s.1) h, (refl, refl))
  product_turns (more_trees p ps) a m (first, rest, (w, c), here, more) =
      let (bags, lists, v, cut, each) = product_turns ps rest.0 rest.1 more in
      (first.0 ∷ bags, first.1 ∷ lists, (rest.0, w, v), c ∙ ap (λ x. first.1 ++ x) cut, (here, each))

  pub group_product : (ps : Trees) (s : Content) → Matching (group ps) s → Product InTurn nothing Matching (list_of ps) s
  group_product ps s (bags, lists, split, cut, each) = turns_product ps s.0 s.1 bags lists (split_woven s.0 bags split) cut each

  pub product_group : (ps : Trees) (s : Content) → Product InTurn nothing Matching (list_of ps) s → Matching (group ps) s
  product_group ps s h =
      let (bags, lists, w, cut, each) = product_turns ps s.0 s.1 h in
      (bags, lists, woven_split s.0 bags w, cut, each)

  mixed_product : (ps : Trees) (a : List Attribute) (m : List Item) (bags : List (List Attribute)) (lists : List (List Item)) → Woven a bags → Woven m lists → EachMatches T meaning bags lists ps → Product Mixed nothing Matching (list_of ps) (a, m)
  mixed_product no_trees a m bags lists w c (none, empty) =
      let a_none : Woven a [] = subst (λ (x : List (List Attribute)). Woven a x) none w in
      let m_none : Woven m [] = subst (λ (x : List (List Item)). Woven m x) empty c in
      λ i. (a_none i, m_none i)
  mixed_product (more_trees p ps) a m [] lists w c each = absurd each
  mixed_product (more_trees p ps) a m (b ∷ bags) [] w c each = absurd each
  mixed_product (more_trees p ps) a m (b ∷ bags) (l ∷ lists) (rest, w, more) (left, v, others) (here, each) =
      ((b, l), (rest, left), (w, v), here, mixed_product ps rest left bags lists more others each)

  product_mixed : (ps : Trees) (a : List Attribute) (m : List Item) → Product Mixed nothing Matching (list_of ps) (a, m) → (bags : List (List Attribute)) × (lists : List (List Item)) × Woven a bags × Woven m lists × EachMatches T meaning bags lists ps
  product_mixed no_trees a m h = ([], [], ap (λ s. s.0) h, ap (λ s. s.1) h, (refl, refl))
  product_mixed (more_trees p ps) a m (first, rest, (w, c), here, more) =
      let (bags, lists, v, cut, each) = product_mixed ps rest.0 rest.1 more in
      (first.0 ∷ bags, first.1 ∷ lists, (rest.0, w, v), (rest.1, c, cut), (here, each))

  pub interleave_product : (ps : Trees) (s : Content) → Matching (interleave ps) s → Product Mixed nothing Matching (list_of ps) s
  interleave_product ps s (bags, lists, split, cut, each) = mixed_product ps s.0 s.1 bags lists (split_woven s.0 bags split) (split_woven s.1 lists cut) each

  pub product_interleave : (ps : Trees) (s : Content) → Product Mixed nothing Matching (list_of ps) s → Matching (interleave ps) s
  product_interleave ps s h =
      let (bags, lists, w, v, each) = product_mixed ps s.0 s.1 h in
      (bags, lists, woven_split s.0 bags w, woven_split s.1 lists v, each)

  -- n parts, each of which matches p
  times_product : (p : Tree) (a : List Attribute) (m : List Item) (bags : List (List Attribute)) (lists : List (List Item)) → Woven a bags → IsCut m lists → AllZip (λ b k. Matches T meaning b k p) bags lists → Product InTurn nothing Matching (replicate (length bags) p) (a, m)
  times_product p a m [] [] w c each = λ i. (w i, c i)
  times_product p a m [] (l ∷ lists) w c each = absurd each
  times_product p a m (b ∷ bags) [] w c each = absurd each
  times_product p a m (b ∷ bags) (l ∷ lists) (rest, w, more) c (here, each) =
      ((b, l), (rest, flat_map (λ x. x) lists), (w, c), here, times_product p rest (flat_map (λ x. x) lists) bags lists more refl each)

  product_times : (p : Tree) (n : ℕ) (a : List Attribute) (m : List Item) → Product InTurn nothing Matching (replicate n p) (a, m) → (bags : List (List Attribute)) × (lists : List (List Item)) × (length bags ≡ n) × Woven a bags × IsCut m lists × AllZip (λ b k. Matches T meaning b k p) bags lists
  product_times p zero a m h = ([], [], refl, ap (λ s. s.0) h, ap (λ s. s.1) h, tt)
  product_times p (suc n) a m (first, rest, (w, c), here, more) =
      let (bags, lists, len, v, cut, each) = product_times p n rest.0 rest.1 more in
      (first.0 ∷ bags, first.1 ∷ lists, ap suc len, (rest.0, w, v), c ∙ ap (λ x. first.1 ++ x) cut, (here, each))

  pub one_or_more_product : (p : Tree) (s : Content) → Matching (one_or_more p) s → (n : ℕ) × (0 < n) × Product InTurn nothing Matching (replicate n p) s
  one_or_more_product p s (bags, lists, split, cut, some, each) =
      (length bags, some, times_product p s.0 s.1 bags lists (split_woven s.0 bags split) cut each)

  pub product_one_or_more : (p : Tree) (s : Content) (n : ℕ) → 0 < n → Product InTurn nothing Matching (replicate n p) s → Matching (one_or_more p) s
  product_one_or_more p s n some h =
      let (bags, lists, len, w, cut, each) = product_times p n s.0 s.1 h in
      (bags, lists, woven_split s.0 bags w, cut, omega arith, each)
