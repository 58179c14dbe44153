-- The first of two lists of places.
use Rattle.std.proofs.Common.{◌≡◌, ℕ, List, [], ◌∷◌, ◌++◌, Some, None, refl}
use Rattle.std.specs.Option.{option_or}
use Rattle.rn_syntax.specs.Places.{first}

pub none_first : (xs ys : List ℕ) → first xs ≡ None → first (xs ++ ys) ≡ first ys
none_first [] ys e = refl
none_first (x ∷ xs) ys e = cc

pub nones_first : (xs ys zs : List ℕ) → first xs ≡ None → first ys ≡ None → first (xs ++ ys ++ zs) ≡ first zs
nones_first [] [] zs e h = refl
nones_first [] (y ∷ ys) zs e h = cc
nones_first (x ∷ xs) ys zs e h = cc

pub some_first : (xs ys : List ℕ) (i : ℕ) → first xs ≡ Some i → first (xs ++ ys) ≡ Some i
some_first [] ys i e = cc
some_first (x ∷ xs) ys i e = e

pub first_append : (xs ys : List ℕ) → first (xs ++ ys) ≡ option_or (first xs) (first ys)
first_append [] ys = refl
first_append (x ∷ xs) ys = refl

-- behind none more
pub first_behind : (xs : List ℕ) → first (xs ++ []) ≡ first xs
first_behind [] = refl
first_behind (x ∷ xs) = refl
