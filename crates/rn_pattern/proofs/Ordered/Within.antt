-- What is in order within a longer list comes into order with it.
use Rattle.std.proofs.Common.{◌≡◌, List, [], ◌∷◌, ◌++◌, refl, sym, ap, ◌∙◌, arith, Ordering, Less, Equal, Greater}
use Rattle.std.specs.Ordering.{match_ordering}
use Rattle.std.specs.Cmp.{IsTotalOrder}
use Rattle.std.specs.Prelude.{IsPermutation}
use Rattle.std.proofs.lemmas.Cmp.{tied_itself}
use Rattle.std.proofs.lemmas.List.Sorted.{IsPermutation-swap}
use Rattle.rn_pattern.specs.Canonical.{put, put_once, sorted, sorted_once}
use Rattle.rn_pattern.proofs.Ordered.Sorting.{sorted_permutation, sorted_once_permutation}

module _ {X : Type 0} (R : X → X → Ordering) where
  -- lists that are one in order are one in order behind the same front
  pub sorted_behind : (xs ys zs : List X) → sorted R ys ≡ sorted R zs → sorted R (xs ++ ys) ≡ sorted R (xs ++ zs)
  sorted_behind [] ys zs e = e
  sorted_behind (x ∷ xs) ys zs e = ap (put R x) (sorted_behind xs ys zs e)

  pub sorted_once_behind : (xs ys zs : List X) → sorted_once R ys ≡ sorted_once R zs → sorted_once R (xs ++ ys) ≡ sorted_once R (xs ++ zs)
  sorted_once_behind [] ys zs e = e
  sorted_once_behind (x ∷ xs) ys zs e = ap (put_once R x) (sorted_once_behind xs ys zs e)

module _ {X : Type 0} (R : X → X → Ordering) (o : IsTotalOrder R) (one : (x y : X) → R x y ≡ Equal → x ≡ y) where
  exchanged : (x y : X) (zs : List X) → IsPermutation (x ∷ y ∷ zs) (y ∷ x ∷ zs)
  exchanged x y zs = IsPermutation-swap (x ∷ y ∷ zs) (y ∷ x ∷ zs) 0 1 (omega arith) (omega arith) refl

  put_in_at : (a : Ordering) (x y : X) (ys zs : List X) → sorted R (put R x ys ++ zs) ≡ put R x (sorted R (ys ++ zs))
      → sorted R (match_ordering a (x ∷ y ∷ ys) (x ∷ y ∷ ys) (y ∷ put R x ys) ++ zs) ≡ put R x (put R y (sorted R (ys ++ zs)))
  put_in_at Less x y ys zs h = refl
  put_in_at Equal x y ys zs h = refl
  put_in_at Greater x y ys zs h = ap (put R y) h ∙ sorted_permutation R o one (y ∷ x ∷ (ys ++ zs)) (x ∷ y ∷ (ys ++ zs)) (exchanged y x (ys ++ zs))

  put_in : (x : X) (ys zs : List X) → sorted R (put R x ys ++ zs) ≡ put R x (sorted R (ys ++ zs))
  put_in x [] zs = refl
  put_in x (y ∷ ys) zs = put_in_at (R x y) x y ys zs (put_in x ys zs)

  -- a front in order
  pub sorted_within : (xs ys : List X) → sorted R (sorted R xs ++ ys) ≡ sorted R (xs ++ ys)
  sorted_within [] ys = refl
  sorted_within (x ∷ xs) ys = put_in x (sorted R xs) ys ∙ ap (put R x) (sorted_within xs ys)

  put_twice_at : (a : Ordering) (x y : X) (ys : List X) → R x y ≡ a → put_once R x (put_once R x ys) ≡ put_once R x ys
      → put_once R x (match_ordering a (x ∷ y ∷ ys) (y ∷ ys) (y ∷ put_once R x ys)) ≡ match_ordering a (x ∷ y ∷ ys) (y ∷ ys) (y ∷ put_once R x ys)
  put_twice_at Less x y ys e h = ap (λ a. match_ordering a (x ∷ x ∷ y ∷ ys) (x ∷ y ∷ ys) (x ∷ put_once R x (y ∷ ys))) (tied_itself o x)
  put_twice_at Equal x y ys e h = ap (λ a. match_ordering a (x ∷ y ∷ ys) (y ∷ ys) (y ∷ put_once R x ys)) e
  put_twice_at Greater x y ys e h =
      ap (λ a. match_ordering a (x ∷ y ∷ put_once R x ys) (y ∷ put_once R x ys) (y ∷ put_once R x (put_once R x ys))) e ∙ ap (λ t. y ∷ t) h

  -- what is put in twice stands once
  pub put_twice : (x : X) (ys : List X) → put_once R x (put_once R x ys) ≡ put_once R x ys
  put_twice x [] = ap (λ a. match_ordering a (x ∷ x ∷ []) (x ∷ []) (x ∷ x ∷ [])) (tied_itself o x)
  put_twice x (y ∷ ys) = put_twice_at (R x y) x y ys refl (put_twice x ys)

  put_once_in_at : (a : Ordering) (x y : X) (ys zs : List X) → R x y ≡ a → sorted_once R (put_once R x ys ++ zs) ≡ put_once R x (sorted_once R (ys ++ zs))
      → sorted_once R (match_ordering a (x ∷ y ∷ ys) (y ∷ ys) (y ∷ put_once R x ys) ++ zs) ≡ put_once R x (put_once R y (sorted_once R (ys ++ zs)))
  put_once_in_at Less x y ys zs e h = refl
  put_once_in_at Equal x y ys zs e h =
      sym (put_twice y (sorted_once R (ys ++ zs))) ∙ ap (λ t. put_once R t (put_once R y (sorted_once R (ys ++ zs)))) (sym (one x y e))
  put_once_in_at Greater x y ys zs e h =
      ap (put_once R y) h ∙ sorted_once_permutation R o one (y ∷ x ∷ (ys ++ zs)) (x ∷ y ∷ (ys ++ zs)) (exchanged y x (ys ++ zs))

  put_once_in : (x : X) (ys zs : List X) → sorted_once R (put_once R x ys ++ zs) ≡ put_once R x (sorted_once R (ys ++ zs))
  put_once_in x [] zs = refl
  put_once_in x (y ∷ ys) zs = put_once_in_at (R x y) x y ys zs refl (put_once_in x ys zs)

  -- and each once
  pub sorted_once_within : (xs ys : List X) → sorted_once R (sorted_once R xs ++ ys) ≡ sorted_once R (xs ++ ys)
  sorted_once_within [] ys = refl
  sorted_once_within (x ∷ xs) ys = put_once_in x (sorted_once R xs) ys ∙ ap (put_once R x) (sorted_once_within xs ys)
