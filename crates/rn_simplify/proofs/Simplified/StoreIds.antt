-- What a store keeps from call to call.
use Rattle.std.proofs.Common.{◌≡◌, zero, suc, ◌++◌, arith, map, List, [], ◌∷◌, ◌∙◌, refl, Bool}
use Rattle.std.specs.Prelude.{IsTrue, All}
use Rattle.std.proofs.lemmas.List.Elements.{All-head, All-tail}
use Rattle.rn_pattern.specs.Tree.{Tree}
use Rattle.rn_pattern.specs.Store.{KeepsTrees, KnowsAll}

pub keeps_then : {I : Type 0} (k k' k'' : I → Bool) (t t' t'' : I → Tree) → KeepsTrees k t k' t' → KeepsTrees k' t' k'' t'' → KeepsTrees k t k'' t''
keeps_then k k' k'' t t' t'' a b i h = let x = a i h in let y = b i x.0 in (y.0, y.1 ∙ x.1)

-- a store that keeps its trees from call to call keeps them
pub then_kept : {S I : Type 0} (knows : S → I → Bool) (tree_of : S → I → Tree) (a b c : S) → KeepsTrees (knows a) (tree_of a) (knows b) (tree_of b) → KeepsTrees (knows b) (tree_of b) (knows c) (tree_of c) → KeepsTrees (knows a) (tree_of a) (knows c) (tree_of c)
then_kept knows tree_of a b c h k = keeps_then (knows a) (knows b) (knows c) (tree_of a) (tree_of b) (tree_of c) h k

pub ids_still : {I : Type 0} (k k' : I → Bool) (t t' : I → Tree) → KeepsTrees k t k' t' → (is : List I) → KnowsAll k is → KnowsAll k' is
ids_still k k' t t' a is h n d l = (a _ (h n d l)).0

module _ {I : Type 0} (k k' : I → Bool) (t t' : I → Tree) (a : KeepsTrees k t k' t') where
  pub trees_still : (is : List I) → KnowsAll k is → map t' is ≡ map t is
  trees_still [] h = refl
  trees_still (i ∷ is) h = let e = (a i (All-head (λ i. IsTrue (k i)) i is h)).1 in let r = trees_still is (All-tail (λ i. IsTrue (k i)) i is h) in λ j. e j ∷ r j

pub all_more : {X : Type 0} (P : X → Type 0) (xs : List X) (x : X) → All P xs → P x → All P (xs ++ x ∷ [])
all_more P [] x h p zero d l = p
all_more P [] x h p (suc k) d l = absurd (omega (arith, l))
all_more P (y ∷ xs) x h p zero d l = h 0 d (omega arith)
all_more P (y ∷ xs) x h p (suc k) d l = all_more P xs x (λ j e m. h (suc j) e (omega (arith, m))) p k d (omega (arith, l))
