-- Sorting keeps the members: each as often as it stands, or each once.
use Rattle.std.proofs.Common.{◌≡◌, ◌↔◌, List, [], ◌∷◌, Ordering, Less, Equal, Greater}
use Rattle.std.specs.Prelude.{Contains, IsPermutation}
use Rattle.std.specs.Ordering.{match_ordering}
use Rattle.std.specs.List.{AllByRecursion}
use Rattle.std.proofs.lemmas.List.Elements.{All-contains, All-contains_itself, All-from_recursion, recursion_from_All}
use Rattle.std.proofs.lemmas.List.Sorted.{IsPermutation-refl, IsPermutation-trans, IsPermutation-cons, IsPermutation-middle}
use Rattle.rn_pattern.specs.Canonical.{put, sorted, sorted_once}
use Rattle.rn_pattern.proofs.Ordered.Ascending.{each_sorted_once, each_unsorted_once}

module _ {X : Type 0} (R : X → X → Ordering) where
  put_permutes_at : (o : Ordering) (x y : X) (ys zs : List X) → IsPermutation (x ∷ ys) zs → IsPermutation (x ∷ y ∷ ys) (match_ordering o (x ∷ y ∷ ys) (x ∷ y ∷ ys) (y ∷ zs))
  put_permutes_at Less x y ys zs h = IsPermutation-refl (x ∷ y ∷ ys)
  put_permutes_at Equal x y ys zs h = IsPermutation-refl (x ∷ y ∷ ys)
  put_permutes_at Greater x y ys zs h = IsPermutation-trans (x ∷ y ∷ ys) (y ∷ x ∷ ys) (y ∷ zs) (IsPermutation-middle (x ∷ []) y ys) (IsPermutation-cons y (x ∷ ys) zs h)

  put_permutes : (x : X) (ys : List X) → IsPermutation (x ∷ ys) (put R x ys)
  put_permutes x [] = IsPermutation-refl (x ∷ [])
  put_permutes x (y ∷ ys) = put_permutes_at (R x y) x y ys (put R x ys) (put_permutes x ys)

  pub sorted_permutes : (xs : List X) → IsPermutation xs (sorted R xs)
  sorted_permutes [] = IsPermutation-refl []
  sorted_permutes (x ∷ xs) = IsPermutation-trans (x ∷ xs) (x ∷ sorted R xs) (put R x (sorted R xs)) (IsPermutation-cons x xs (sorted R xs) (sorted_permutes xs)) (put_permutes x (sorted R xs))

  pub sorted_once_members : ((x y : X) → R x y ≡ Equal → x ≡ y) → (xs : List X) (x : X) → Contains (sorted_once R xs) x ↔ Contains xs x
  sorted_once_members one xs x = (λ h. All-contains (Contains xs) (sorted_once R xs) x (All-from_recursion (Contains xs) (sorted_once R xs) within) h, λ h. All-contains (Contains (sorted_once R xs)) xs x (All-from_recursion (Contains (sorted_once R xs)) xs left) h)
    where
      within : AllByRecursion (Contains xs) (sorted_once R xs)
      within = each_sorted_once (Contains xs) R xs (recursion_from_All (Contains xs) xs (All-contains_itself xs))

      left : AllByRecursion (Contains (sorted_once R xs)) xs
      left = each_unsorted_once (Contains (sorted_once R xs)) R one xs (recursion_from_All (Contains (sorted_once R xs)) (sorted_once R xs) (All-contains_itself (sorted_once R xs)))
