-- Ranks of the nodes of a graph, by which each edge leads to a lower rank, and loops.
use Rattle.std.specs.Prelude.{◌≡◌, ℕ, ◌<◌, List, length, slice_index_or, Contains}
use Rattle.rn_graph.specs.Graph.{row}
use Rattle.rn_graph.specs.declared.ranks.Order.{Order}
use Rattle.rn_graph.specs.declared.ranks.Order.TheVariants.{Ranked, Looped}

-- y is reached from x by one edge or more
pub data Leads (rows : List (List ℕ)) : ℕ → ℕ → Type 0 where
  by_edge : {x y : ℕ} → Contains (row rows x) y → Leads rows x y
  and_edge : {x y z : ℕ} → Leads rows x y → Contains (row rows y) z → Leads rows x z

abbrev pub rank_of : List ℕ → ℕ → ℕ
rank_of ranks x = slice_index_or ranks x 0

-- a rank for each node, below the number of nodes, and each edge leads to a lower one
pub record IsRanking (rows : List (List ℕ)) (ranks : List ℕ) : Type 0 where
  pub sized : length ranks ≡ length rows
  pub below : (x : ℕ) → x < length rows → rank_of ranks x < length rows
  pub falls : (x y : ℕ) → x < length rows → Contains (row rows x) y → rank_of ranks y < rank_of ranks x

-- no node comes back to itself
abbrev pub HasNoLoop : List (List ℕ) → Type 0
HasNoLoop rows = (x : ℕ) → ¬ Leads rows x x

-- the least node that comes back to itself
pub record IsFirstLoop (rows : List (List ℕ)) (x : ℕ) : Type 0 where
  pub holds : Leads rows x x
  pub least : (y : ℕ) → y < x → ¬ Leads rows y y

-- ranks by which each edge leads to a lower one, or the least node that comes back to itself
abbrev pub IsOrdered : List (List ℕ) → Order → Type 0
IsOrdered rows (Ranked ranks) = IsRanking rows ranks.items
IsOrdered rows (Looped x) = IsFirstLoop rows x
