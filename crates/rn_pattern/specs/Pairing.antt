-- Lists of patterns put together two by two (RELAX NG 2001, 4.12 and 4.17).
use Rattle.std.specs.Prelude.{List, [], ◌∷◌, ◌++◌}
use Rattle.rn_pattern.specs.Tree.{Tree, Trees, no_trees, more_trees}

-- a tree made of the leaves by nodes of two members
pub data PairedUp (node : Trees → Tree) : List Tree → Tree → Type 0 where
  alone : {p : Tree} → PairedUp node (p ∷ []) p
  paired : {ps qs : List Tree} {p q : Tree} → PairedUp node ps p → PairedUp node qs q → PairedUp node (ps ++ qs) (node (more_trees p (more_trees q no_trees)))
