-- How many patterns stand in a pattern, and in those of a node.
use Rattle.std.proofs.Common.{◌≡◌, ℕ, zero, suc, ◌+◌, ◌*◌, ◌<◌, ◌≤◌, List, [], ◌∷◌, Option, Some, None, length, map, get_or, refl, ap, arith}
use Rattle.rn_pattern.specs.Tree.{Tree, Trees, datum_but, list, attribute, element, one_or_more, group, interleave, choice, no_trees, more_trees, trees_of}

abbrev mutual
  pub tree_size : Tree → ℕ
  tree_size (datum_but l x ps p) = tree_size p + 1
  tree_size (list p) = tree_size p + 1
  tree_size (attribute c p) = tree_size p + 1
  tree_size (element c p) = tree_size p + 1
  tree_size (one_or_more p) = tree_size p + 1
  tree_size (group ps) = trees_size ps + 1
  tree_size (interleave ps) = trees_size ps + 1
  tree_size (choice ps) = trees_size ps + 1
  tree_size p = 1

  pub trees_size : Trees → ℕ
  trees_size no_trees = 0
  trees_size (more_trees p ps) = tree_size p + trees_size ps

-- the patterns of ids
abbrev pub ids_size : {I : Type 0} → (I → Tree) → List I → ℕ
ids_size at [] = 0
ids_size at (i ∷ is) = tree_size (at i) + ids_size at is

abbrev pub except_size : {I : Type 0} → (I → Tree) → Option I → ℕ
except_size at None = 0
except_size at (Some i) = 3 * tree_size (at i) + 2

pub members_size : {I : Type 0} (at : I → Tree) (is : List I) → trees_size (trees_of (map at is)) ≡ ids_size at is
members_size at [] = refl
members_size at (i ∷ is) = ap (λ n. tree_size (at i) + n) (members_size at is)

pub member_size : {I : Type 0} (at : I → Tree) (is : List I) (k : ℕ) (i : I) → k < length is → tree_size (at (get_or is k i)) ≤ ids_size at is
member_size at [] k i h = absurd (omega (arith, h))
member_size at (j ∷ is) zero i h = omega arith
member_size at (j ∷ is) (suc k) i h = let e = member_size at is k i (omega (arith, h)) in omega (arith, e)
