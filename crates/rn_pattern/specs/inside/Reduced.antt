-- What a canonical step leaves, by the trees of the store.
use Rattle.std.specs.Prelude.{List, IsTrue, length}
use Rattle.rn_pattern.specs.Tree.{Tree}
use Rattle.rn_pattern.specs.inside.Stored.{NamesBelow, knows, tree_at}
use Rattle.rn_pattern.specs.Store.{node_view}
use Rattle.rn_pattern.specs.declared.canonical.Reduced.{Reduced}

abbrev pub reduced_tree : List Tree → Reduced → Tree
reduced_tree ts (Reduced.Stored i) = tree_at ts i
reduced_tree ts (Reduced.New n) = node_view (tree_at ts) n

-- the ids in a reduced pattern are those of the store
abbrev pub IsReducedIn : List Tree → Reduced → Type 0
IsReducedIn ts (Reduced.Stored i) = IsTrue (knows ts i)
IsReducedIn ts (Reduced.New n) = NamesBelow (length ts) n
