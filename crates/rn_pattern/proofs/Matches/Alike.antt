-- Patterns of one shape match alike where their parts do.
use Rattle.std.proofs.Common.{◌↔◌, inl, inr, ⊎_elim, List, [], ◌∷◌, map, refl}
use Rattle.std.specs.Prelude.{⊤}
use Rattle.std.specs.List.{AllZip}
use Rattle.rn_pattern.specs.Tree.{Parameters, NameTree, Tree, Trees, not_allowed, empty, text, ref, value, datum, datum_but, list, attribute, element, one_or_more, group, interleave, choice, no_trees, more_trees}
use Rattle.rn_text.specs.Texts.{Text}
use Rattle.rn_pattern.specs.Document.{Attribute, Item, items_of, string}
use Rattle.rn_pattern.specs.Datatype.{Table, words}
use Rattle.rn_pattern.specs.Matching.{Matches, SomeMatches, EachMatches, Weakly, Meaning}
use Rattle.rn_pattern.specs.Reached.{RefersTo, SomeRefersTo}
use Rattle.rn_pattern.proofs.Matches.StepsKeep.{weakly_to}

pub all_zip_to : {A B : Type 0} (R S : A → B → Type 0) → ((x : A) (y : B) → R x y → S x y) → (xs : List A) (ys : List B) → AllZip R xs ys → AllZip S xs ys
all_zip_to R S to [] [] h = h
all_zip_to R S to [] (y ∷ ys) h = h
all_zip_to R S to (x ∷ xs) [] h = h
all_zip_to R S to (x ∷ xs) (y ∷ ys) h = (to x y h.0, all_zip_to R S to xs ys h.1)

module _ (T : Table) (μ ν : Meaning) where
  -- under the two meanings
  abbrev pub Alike : Tree → Tree → Type 0
  Alike p q = (a : List Attribute) (m : List Item) → Matches T μ a m p ↔ Matches T ν a m q

  abbrev pub AreAlike : Trees → Trees → Type 0
  AreAlike no_trees no_trees = ⊤
  AreAlike no_trees (more_trees q qs) = ⊥
  AreAlike (more_trees p ps) no_trees = ⊥
  AreAlike (more_trees p ps) (more_trees q qs) = Alike p q × AreAlike ps qs

  each_alike : (ps qs : Trees) → AreAlike ps qs → (bags : List (List Attribute)) (lists : List (List Item)) → EachMatches T μ bags lists ps ↔ EachMatches T ν bags lists qs
  each_alike no_trees no_trees e bags lists = (λ h. h, λ h. h)
  each_alike no_trees (more_trees q qs) e bags lists = absurd e
  each_alike (more_trees p ps) no_trees e bags lists = absurd e
  each_alike (more_trees p ps) (more_trees q qs) e [] lists = (λ h. h, λ h. h)
  each_alike (more_trees p ps) (more_trees q qs) e (b ∷ bags) [] = (λ h. h, λ h. h)
  each_alike (more_trees p ps) (more_trees q qs) e (b ∷ bags) (k ∷ lists) =
      (λ h. ((e.0 b k).0 h.0, (each_alike ps qs e.1 bags lists).0 h.1), λ h. ((e.0 b k).1 h.0, (each_alike ps qs e.1 bags lists).1 h.1))

  some_alike : (ps qs : Trees) → AreAlike ps qs → (a : List Attribute) (m : List Item) → SomeMatches T μ a m ps ↔ SomeMatches T ν a m qs
  some_alike no_trees no_trees e a m = (λ h. h, λ h. h)
  some_alike no_trees (more_trees q qs) e a m = absurd e
  some_alike (more_trees p ps) no_trees e a m = absurd e
  some_alike (more_trees p ps) (more_trees q qs) e a m = (
    ⊎_elim (λ x. inl ((e.0 a m).0 x)) (λ y. inr ((some_alike ps qs e.1 a m).0 y)),
    ⊎_elim (λ x. inl ((e.0 a m).1 x)) (λ y. inr ((some_alike ps qs e.1 a m).1 y)),
  )

  weakly_alike : (p q : Tree) → Alike p q → (a : List Attribute) (m : List Item) → Weakly (λ b k. Matches T μ b k p) a m ↔ Weakly (λ b k. Matches T ν b k q) a m
  weakly_alike p q e a m = (
    weakly_to T μ (λ b k. Matches T μ b k p) (λ b k. Matches T ν b k q) (λ b k. (e b k).0) a m,
    weakly_to T μ (λ b k. Matches T ν b k q) (λ b k. Matches T μ b k p) (λ b k. (e b k).1) a m,
  )

  pub datum_but_alike : (l x : Text) (ps : Parameters) (p q : Tree) → Alike p q → Alike (datum_but l x ps p) (datum_but l x ps q)
  datum_but_alike l x ps p q e a m = (λ h. (h.0, h.1, h.2, h.3, λ k. h.4 ((e a m).1 k)), λ h. (h.0, h.1, h.2, h.3, λ k. h.4 ((e a m).0 k)))

  pub list_alike : (p q : Tree) → Alike p q → Alike (list p) (list q)
  list_alike p q e a m = (λ h. (h.0, h.1, h.2, (e [] (map string (words h.0))).0 h.3), λ h. (h.0, h.1, h.2, (e [] (map string (words h.0))).1 h.3))

  pub attribute_alike : (c : NameTree) (p q : Tree) → Alike p q → Alike (attribute c p) (attribute c q)
  attribute_alike c p q e a m = (
    λ h. (h.0, h.1, h.2, h.3, (weakly_alike p q e [] (string h.0.content ∷ [])).0 h.4),
    λ h. (h.0, h.1, h.2, h.3, (weakly_alike p q e [] (string h.0.content ∷ [])).1 h.4),
  )

  pub element_alike : (c : NameTree) (p q : Tree) → Alike p q → Alike (element c p) (element c q)
  element_alike c p q e a m = (
    λ (before, u, l, b, k, behind, none, is, pad, pad', holds, w). (before, u, l, b, k, behind, none, is, pad, pad', holds, (weakly_alike p q e b (items_of k)).0 w),
    λ (before, u, l, b, k, behind, none, is, pad, pad', holds, w). (before, u, l, b, k, behind, none, is, pad, pad', holds, (weakly_alike p q e b (items_of k)).1 w),
  )

  pub one_or_more_alike : (p q : Tree) → Alike p q → Alike (one_or_more p) (one_or_more q)
  one_or_more_alike p q e a m = (
    λ (bags, lists, split, cut, some, all). (bags, lists, split, cut, some, all_zip_to (λ b k. Matches T μ b k p) (λ b k. Matches T ν b k q) (λ b k. (e b k).0) bags lists all),
    λ (bags, lists, split, cut, some, all). (bags, lists, split, cut, some, all_zip_to (λ b k. Matches T ν b k q) (λ b k. Matches T μ b k p) (λ b k. (e b k).1) bags lists all),
  )

  pub group_alike : (ps qs : Trees) → AreAlike ps qs → Alike (group ps) (group qs)
  group_alike ps qs e a m = (
    λ (bags, lists, split, cut, all). (bags, lists, split, cut, (each_alike ps qs e bags lists).0 all),
    λ (bags, lists, split, cut, all). (bags, lists, split, cut, (each_alike ps qs e bags lists).1 all),
  )

  pub interleave_alike : (ps qs : Trees) → AreAlike ps qs → Alike (interleave ps) (interleave qs)
  interleave_alike ps qs e a m = (
    λ (bags, lists, split, cut, all). (bags, lists, split, cut, (each_alike ps qs e bags lists).0 all),
    λ (bags, lists, split, cut, all). (bags, lists, split, cut, (each_alike ps qs e bags lists).1 all),
  )

  pub choice_alike : (ps qs : Trees) → AreAlike ps qs → Alike (choice ps) (choice qs)
  choice_alike ps qs e a m = some_alike ps qs e a m

  -- a pattern matches alike where the names that it refers to do
  mutual
    pub refers_alike : (p : Tree) → ((x : Text) → RefersTo x p → (a : List Attribute) (m : List Item) → μ x a m ↔ ν x a m) → Alike p p
    refers_alike not_allowed e = λ a m. (λ h. h, λ h. h)
    refers_alike empty e = λ a m. (λ h. h, λ h. h)
    refers_alike text e = λ a m. (λ h. h, λ h. h)
    refers_alike (ref x) e = λ a m. e x refl a m
    refers_alike (value l x t) e = λ a m. (λ h. h, λ h. h)
    refers_alike (datum l x ps) e = λ a m. (λ h. h, λ h. h)
    refers_alike (datum_but l x ps p) e = datum_but_alike l x ps p p (refers_alike p e)
    refers_alike (list p) e = list_alike p p (refers_alike p e)
    refers_alike (attribute c p) e = attribute_alike c p p (refers_alike p e)
    refers_alike (element c p) e = element_alike c p p (refers_alike p e)
    refers_alike (one_or_more p) e = one_or_more_alike p p (refers_alike p e)
    refers_alike (group ps) e = group_alike ps ps (refers_all_alike ps e)
    refers_alike (interleave ps) e = interleave_alike ps ps (refers_all_alike ps e)
    refers_alike (choice ps) e = choice_alike ps ps (refers_all_alike ps e)

    pub refers_all_alike : (ps : Trees) → ((x : Text) → SomeRefersTo x ps → (a : List Attribute) (m : List Item) → μ x a m ↔ ν x a m) → AreAlike ps ps
    refers_all_alike no_trees e = tt
    refers_all_alike (more_trees p ps) e = (refers_alike p (λ x h. e x (inl h)), refers_all_alike ps (λ x h. e x (inr h)))

-- from one pattern to another under the first meaning, and on under both
pub alike_then : (T : Table) (μ ν : Meaning) (p q r : Tree) → Alike T μ μ p q → Alike T μ ν q r → Alike T μ ν p r
alike_then T μ ν p q r e f a m = (λ h. (f a m).0 ((e a m).0 h), λ h. (e a m).1 ((f a m).1 h))

pub then_alike : (T : Table) (μ ν : Meaning) (p q r : Tree) → Alike T μ ν p q → Alike T ν ν q r → Alike T μ ν p r
then_alike T μ ν p q r e f a m = (λ h. (f a m).0 ((e a m).0 h), λ h. (e a m).1 ((f a m).1 h))
