-- A sort by what the entries stand for sorts what they stand for.
use Rattle.std.proofs.Common.{◌≡◌, ◌+◌, Bool, true, false, cond, List, [], ◌∷◌, map, get_or, refl, sym, ap, ◌∙◌, arith, Ordering, Equal, Bor}
use Rattle.std.specs.Ordering.{is_lt, is_eq}
use Rattle.std.specs.Cmp.{IsTotalOrder, IsStrictWeakOrder}
use Rattle.std.specs.Fn.{ComparesAs, Called}
use Rattle.std.specs.Prelude.{IsPermutation, IsSortedBy}
use Rattle.std.specs.List.{dedup, dedup_from}
use Rattle.std.specs.List.Retain.{IsDeduped}
use Rattle.std.proofs.lemmas.Fn.{always_returns_same, dedup_same}
use Rattle.std.proofs.lemmas.List.{get_or-map, length-map}
use Rattle.std.proofs.lemmas.List.Sorted.{IsPermutation-map, ranks_by}
use denote.Param.Members.{Mut}
use Rattle.rn_pattern.specs.Canonical.{put_once, sorted, sorted_once}
use Rattle.rn_pattern.proofs.Ordered.Sorting.{sorted_from_sort, dedup-sorted}
use Rattle.rn_pattern.proofs.Ordered.Within.{put_twice}

module _ {X Y : Type 0} (R : X → X → Ordering) (o : IsTotalOrder R) (one : (x y : X) → R x y ≡ Equal → x ≡ y) (at : Y → X) where
  abbrev pub lt_at : Y → Y → Bool
  lt_at x y = is_lt (R (at x) (at y))

  abbrev pub same_at : Y → Y → Bool
  same_at x y = is_eq (R (at x) (at y))

  IsSortedBy-map : (ys : List Y) → IsSortedBy lt_at ys → IsSortedBy (λ p q. is_lt (R p q)) (map at ys)
  IsSortedBy-map [] h k d a b = absurd (omega arith)
  IsSortedBy-map (y ∷ ys) h k d a b =
      let len = length-map (y ∷ ys) at in
      let this = get_or-map at (y ∷ ys) k y d (omega (arith, len)) in
      let next = get_or-map at (y ∷ ys) (k + 1) y d (omega (arith, len)) in
      ap (λ t. is_lt (R t (get_or (map at (y ∷ ys)) k d))) next ∙ ap (λ t. is_lt (R (at (get_or (y ∷ ys) (k + 1) y)) t)) this ∙ h k y a (omega (arith, len))

  pub ids_sorted : {F : Type 0} {g : Mut F (Bor Y × (Bor Y × Unit {0})) Ordering} {f : F} (xs ys : List Y) → IsPermutation xs ys
      → ((lt : Y → Y → Bool) → IsStrictWeakOrder lt → ComparesAs g lt f → IsSortedBy lt ys)
      → ((a : Bor Y × (Bor Y × Unit {0})) (r : Ordering) (f' : F) → Called g f a r f' → (r ≡ R (at a.0.now) (at a.1.0.now)) × (f' ≡ f))
      → map at ys ≡ sorted R (map at xs)
  ids_sorted {g = g} {f = f} xs ys p up h =
      let ranked = up lt_at (ranks_by o at) (always_returns_same g (λ a r. is_lt r ≡ lt_at a.0.now a.1.0.now) f (λ a r f' k. (ap is_lt (h a r f' k).0, (h a r f' k).1))) in
      sorted_from_sort R o one (map at xs) (map at ys) (IsPermutation-map at xs ys p) (IsSortedBy-map ys ranked)

  map-dedup_at : (b : Bool) (k : Y) (p q : List Y) (s t : List X) → map at p ≡ s → map at q ≡ t → map at (cond b p (k ∷ q)) ≡ cond b s (at k ∷ t)
  map-dedup_at true k p q s t h g = h
  map-dedup_at false k p q s t h g = ap (λ x. at k ∷ x) g

  map-dedup_from : (k : Y) (xs : List Y) → map at (dedup_from same_at k xs) ≡ dedup_from (λ p q. is_eq (R p q)) (at k) (map at xs)
  map-dedup_from k [] = refl
  map-dedup_from k (x ∷ xs) = map-dedup_at (same_at x k) k _ _ _ _ (map-dedup_from k xs) (map-dedup_from x xs)

  map-dedup : (xs : List Y) → map at (dedup same_at xs) ≡ dedup (λ p q. is_eq (R p q)) (map at xs)
  map-dedup [] = refl
  map-dedup (x ∷ xs) = map-dedup_from x xs

  pub ids_deduped : {F : Type 0} {D : F → Y → Y → Bool → F → Y → Y → Type 0} {f : F} (ys zs : List Y) → IsDeduped D f ys zs
      → ((x y : Y) (b : Bool) (f' : F) (x' y' : Y) → D f x y b f' x' y' → (b ≡ same_at x y) × (f' ≡ f) × (x' ≡ x) × (y' ≡ y))
      → zs ≡ dedup same_at ys
  ids_deduped {D = D} {f = f} ys zs d h = dedup_same D same_at f h ys zs d

  -- a sort, and then a dedup
  pub ids_sorted_once : (xs ys zs : List Y) → map at ys ≡ sorted R (map at xs) → zs ≡ dedup same_at ys → map at zs ≡ sorted_once R (map at xs)
  ids_sorted_once xs ys zs s e = ap (map at) e ∙ map-dedup ys ∙ ap (dedup (λ p q. is_eq (R p q))) s ∙ dedup-sorted R o one (map at xs)

  -- entries that are the same stand for the same, and count once
  module _ (same : Y → Y → Bool) (stands : (x y : Y) → same x y ≡ true → at x ≡ at y) where
    sorted_once-dedup_at : (b : Bool) (k x : Y) (xs : List Y) → same x k ≡ b → sorted_once R (map at (dedup_from same k xs)) ≡ put_once R (at k) (sorted_once R (map at xs)) → sorted_once R (map at (dedup_from same x xs)) ≡ put_once R (at x) (sorted_once R (map at xs))
        → sorted_once R (map at (cond b (dedup_from same k xs) (k ∷ dedup_from same x xs))) ≡ put_once R (at k) (put_once R (at x) (sorted_once R (map at xs)))
    sorted_once-dedup_at true k x xs e h g = h ∙ sym (ap (λ t. put_once R (at k) (put_once R t (sorted_once R (map at xs)))) (stands x k e) ∙ put_twice R o one (at k) (sorted_once R (map at xs)))
    sorted_once-dedup_at false k x xs e h g = ap (put_once R (at k)) g

    sorted_once-dedup_from : (k : Y) (xs : List Y) → sorted_once R (map at (dedup_from same k xs)) ≡ put_once R (at k) (sorted_once R (map at xs))
    sorted_once-dedup_from k [] = refl
    sorted_once-dedup_from k (x ∷ xs) = sorted_once-dedup_at (same x k) k x xs refl (sorted_once-dedup_from k xs) (sorted_once-dedup_from x xs)

    pub sorted_once-dedup : (xs : List Y) → sorted_once R (map at (dedup same xs)) ≡ sorted_once R (map at xs)
    sorted_once-dedup [] = refl
    sorted_once-dedup (x ∷ xs) = sorted_once-dedup_from x xs
