-- The canonical form matches what the pattern does, where a reference's stand-in does what the reference does.
use Rattle.std.proofs.Common.{◌↔◌, inl, inr, ⊎_elim, List, [], ◌∷◌, map}
use Rattle.rn_pattern.specs.Tree.{Tree, Trees, not_allowed, empty, text, ref, value, datum, datum_but, list, attribute, element, one_or_more, group, interleave, choice, no_trees, more_trees, trees_of}
use Rattle.rn_text.specs.Texts.{Text}
use Rattle.rn_pattern.specs.Document.{Attribute, Item, items_of, string}
use Rattle.rn_pattern.specs.Datatype.{Table, words}
use Rattle.rn_pattern.specs.Matching.{Matches, SomeMatches, EachMatches, Meaning}
use Rattle.rn_pattern.specs.Canonical.{canonical, canonical_all, canonical_name}
use Rattle.rn_pattern.specs.Excepts.{IsExcept, AreExcepts, HasExcepts, HaveExcepts}
use Rattle.rn_pattern.proofs.Matches.StepsKeep.{choice_kept, group_kept, interleave_kept, one_or_more_kept, list_kept, datum_kept, attribute_kept, weakly_to}
use Rattle.rn_pattern.proofs.Matches.NamesKept.{names_kept}
use Rattle.rn_pattern.proofs.Matches.Alike.{all_zip_to}

-- an except refers to nothing, so its canonical form matches the same under any meaning
module _ (T : Table) (μ ν : Meaning) (s : Text → Tree) where
  mutual
    pub except_same : (p : Tree) → IsExcept p → (a : List Attribute) (m : List Item) → Matches T μ a m p ↔ Matches T ν a m (canonical s p)
    except_same not_allowed e a m = (λ h. h, λ h. h)
    except_same (value l x t) e a m = (λ h. h, λ h. h)
    except_same (datum l x ps) e a m = (λ h. h, λ h. h)
    except_same (datum_but l x ps p) e a m = (
      λ h. (datum_kept T ν l x ps (canonical s p) (a, m)).0 (h.0, h.1, h.2, h.3, λ k. h.4 ((except_same p e a m).1 k)),
      λ h. let k = (datum_kept T ν l x ps (canonical s p) (a, m)).1 h in (k.0, k.1, k.2, k.3, λ j. k.4 ((except_same p e a m).0 j)),
    )
    except_same (choice ps) e a m = (
      λ h. (choice_kept T ν a m (canonical_all s ps)).0 ((excepts_same ps e a m).0 h),
      λ h. (excepts_same ps e a m).1 ((choice_kept T ν a m (canonical_all s ps)).1 h),
    )
    except_same p e a m = absurd e

    pub excepts_same : (ps : Trees) → AreExcepts ps → (a : List Attribute) (m : List Item) → SomeMatches T μ a m ps ↔ SomeMatches T ν a m (trees_of (canonical_all s ps))
    excepts_same no_trees e a m = (λ h. h, λ h. h)
    excepts_same (more_trees p ps) e a m = (
      ⊎_elim (λ x. inl ((except_same p e.0 a m).0 x)) (λ y. inr ((excepts_same ps e.1 a m).0 y)),
      ⊎_elim (λ x. inl ((except_same p e.0 a m).1 x)) (λ y. inr ((excepts_same ps e.1 a m).1 y)),
    )

-- from the pattern to its canonical form
module _ (T : Table) (μ ν : Meaning) (s : Text → Tree) (to : (x : Text) (a : List Attribute) (m : List Item) → μ x a m → Matches T ν a m (s x)) where
  mutual
    pub canonical_to : (p : Tree) → HasExcepts p → (a : List Attribute) (m : List Item) → Matches T μ a m p → Matches T ν a m (canonical s p)
    canonical_to not_allowed e a m h = h
    canonical_to empty e a m h = h
    canonical_to text e a m h = h
    canonical_to (ref x) e a m h = to x a m h
    canonical_to (value l x t) e a m h = h
    canonical_to (datum l x ps) e a m h = h
    canonical_to (datum_but l x ps p) e a m h = (datum_kept T ν l x ps (canonical s p) (a, m)).0 (h.0, h.1, h.2, h.3, λ k. h.4 ((except_same T μ ν s p e a m).1 k))
    canonical_to (list p) e a m h = (list_kept T ν (canonical s p) (a, m)).0 (h.0, h.1, h.2, canonical_to p e [] (map string (words h.0)) h.3)
    canonical_to (attribute c p) e a m (x, one, none, holds, w) =
        (attribute_kept T ν (canonical_name c) (canonical s p) (a, m)).0 (
          x,
          one,
          none,
          (names_kept x.uri x.local c).0 holds,
          weakly_to T ν (λ b k. Matches T μ b k p) (λ b k. Matches T ν b k (canonical s p)) (λ b k r. canonical_to p e b k r) [] (string x.content ∷ []) w,
        )
    canonical_to (element c p) e a m (before, u, l, b, k, behind, none, is, pad, pad', holds, w) = (
      before,
      u,
      l,
      b,
      k,
      behind,
      none,
      is,
      pad,
      pad',
      (names_kept u l c).0 holds,
      weakly_to T ν (λ d n. Matches T μ d n p) (λ d n. Matches T ν d n (canonical s p)) (λ d n r. canonical_to p e d n r) b (items_of k) w,
    )
    canonical_to (one_or_more p) e a m (bags, lists, split, cut, some, all) =
        (one_or_more_kept T ν (canonical s p) (a, m)).0 (bags, lists, split, cut, some, all_zip_to (λ b k. Matches T μ b k p) (λ b k. Matches T ν b k (canonical s p)) (λ b k r. canonical_to p e b k r) bags lists all)
    canonical_to (group ps) e a m (bags, lists, split, cut, all) =
        (group_kept T ν (canonical_all s ps) (a, m)).0 (bags, lists, split, cut, each_to ps e bags lists all)
    canonical_to (interleave ps) e a m (bags, lists, split, cut, all) =
        (interleave_kept T ν (canonical_all s ps) (a, m)).0 (bags, lists, split, cut, each_to ps e bags lists all)
    canonical_to (choice ps) e a m h = (choice_kept T ν a m (canonical_all s ps)).0 (some_to ps e a m h)

    each_to : (ps : Trees) → HaveExcepts ps → (bags : List (List Attribute)) (lists : List (List Item)) → EachMatches T μ bags lists ps → EachMatches T ν bags lists (trees_of (canonical_all s ps))
    each_to no_trees e bags lists h = h
    each_to (more_trees p ps) e [] lists h = h
    each_to (more_trees p ps) e (b ∷ bags) [] h = h
    each_to (more_trees p ps) e (b ∷ bags) (k ∷ lists) h = (canonical_to p e.0 b k h.0, each_to ps e.1 bags lists h.1)

    some_to : (ps : Trees) → HaveExcepts ps → (a : List Attribute) (m : List Item) → SomeMatches T μ a m ps → SomeMatches T ν a m (trees_of (canonical_all s ps))
    some_to no_trees e a m h = h
    some_to (more_trees p ps) e a m h = ⊎_elim (λ x. inl (canonical_to p e.0 a m x)) (λ y. inr (some_to ps e.1 a m y)) h

-- and back
module _ (T : Table) (μ ν : Meaning) (s : Text → Tree) (from : (x : Text) (a : List Attribute) (m : List Item) → Matches T ν a m (s x) → μ x a m) where
  mutual
    pub canonical_from : (p : Tree) → HasExcepts p → (a : List Attribute) (m : List Item) → Matches T ν a m (canonical s p) → Matches T μ a m p
    canonical_from not_allowed e a m h = h
    canonical_from empty e a m h = h
    canonical_from text e a m h = h
    canonical_from (ref x) e a m h = from x a m h
    canonical_from (value l x t) e a m h = h
    canonical_from (datum l x ps) e a m h = h
    canonical_from (datum_but l x ps p) e a m h = let k = (datum_kept T ν l x ps (canonical s p) (a, m)).1 h in (k.0, k.1, k.2, k.3, λ j. k.4 ((except_same T μ ν s p e a m).0 j))
    canonical_from (list p) e a m h = let k = (list_kept T ν (canonical s p) (a, m)).1 h in (k.0, k.1, k.2, canonical_from p e [] (map string (words k.0)) k.3)
    canonical_from (attribute c p) e a m h =
        let (x, one, none, holds, w) = (attribute_kept T ν (canonical_name c) (canonical s p) (a, m)).1 h in (
          x,
          one,
          none,
          (names_kept x.uri x.local c).1 holds,
          weakly_to T ν (λ b k. Matches T ν b k (canonical s p)) (λ b k. Matches T μ b k p) (λ b k r. canonical_from p e b k r) [] (string x.content ∷ []) w,
        )
    canonical_from (element c p) e a m (before, u, l, b, k, behind, none, is, pad, pad', holds, w) = (
      before,
      u,
      l,
      b,
      k,
      behind,
      none,
      is,
      pad,
      pad',
      (names_kept u l c).1 holds,
      weakly_to T ν (λ d n. Matches T ν d n (canonical s p)) (λ d n. Matches T μ d n p) (λ d n r. canonical_from p e d n r) b (items_of k) w,
    )
    canonical_from (one_or_more p) e a m h =
        let (bags, lists, split, cut, some, all) = (one_or_more_kept T ν (canonical s p) (a, m)).1 h in
        (bags, lists, split, cut, some, all_zip_to (λ b k. Matches T ν b k (canonical s p)) (λ b k. Matches T μ b k p) (λ b k r. canonical_from p e b k r) bags lists all)
    canonical_from (group ps) e a m h =
        let (bags, lists, split, cut, all) = (group_kept T ν (canonical_all s ps) (a, m)).1 h in
        (bags, lists, split, cut, each_from ps e bags lists all)
    canonical_from (interleave ps) e a m h =
        let (bags, lists, split, cut, all) = (interleave_kept T ν (canonical_all s ps) (a, m)).1 h in
        (bags, lists, split, cut, each_from ps e bags lists all)
    canonical_from (choice ps) e a m h = some_from ps e a m ((choice_kept T ν a m (canonical_all s ps)).1 h)

    each_from : (ps : Trees) → HaveExcepts ps → (bags : List (List Attribute)) (lists : List (List Item)) → EachMatches T ν bags lists (trees_of (canonical_all s ps)) → EachMatches T μ bags lists ps
    each_from no_trees e bags lists h = h
    each_from (more_trees p ps) e [] lists h = h
    each_from (more_trees p ps) e (b ∷ bags) [] h = h
    each_from (more_trees p ps) e (b ∷ bags) (k ∷ lists) h = (canonical_from p e.0 b k h.0, each_from ps e.1 bags lists h.1)

    some_from : (ps : Trees) → HaveExcepts ps → (a : List Attribute) (m : List Item) → SomeMatches T ν a m (trees_of (canonical_all s ps)) → SomeMatches T μ a m ps
    some_from no_trees e a m h = h
    some_from (more_trees p ps) e a m h = ⊎_elim (λ x. inl (canonical_from p e.0 a m x)) (λ y. inr (some_from ps e.1 a m y)) h
