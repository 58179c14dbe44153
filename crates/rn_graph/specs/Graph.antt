-- Nodes of a graph that are reached along its edges. A node is a number, a row lists the nodes that its edges lead to.
use Rattle.std.specs.Prelude.{ℕ, ◌<◌, Bool, false, List, [], ◌∷◌, length, slice_index_or, drop, Contains}
use Rattle.std.specs.List.{slice_range}
use Rattle.rn_graph.specs.declared.rows.Rows.{Rows}

-- the rows that end at these places among the nodes, the first of which begins there: each begins where the one before ends
abbrev pub rows_from : (nodes : List ℕ) → (begin : ℕ) → (ends : List ℕ) → List (List ℕ)
rows_from nodes begin [] = []
rows_from nodes begin (end ∷ ends) = slice_range nodes begin end ∷ rows_from nodes end ends

-- the rows of a graph
unfoldable pub rows_of : Rows → List (List ℕ)
rows_of rows = rows_from rows.nodes.items 0 rows.ends.items

-- the nodes of the row that has not ended: those behind the last end
unfoldable pub open_row : Rows → List ℕ
open_row rows = drop (slice_index_or (0 ∷ rows.ends.items) (length rows.ends.items) 0) rows.nodes.items

abbrev pub row : List (List ℕ) → ℕ → List ℕ
row rows x = slice_index_or rows x []

-- each number of the list is a node
abbrev pub AllBelow : ℕ → List ℕ → Type 0
AllBelow n xs = (y : ℕ) → Contains xs y → y < n

abbrev pub IsGraph : List (List ℕ) → Type 0
IsGraph rows = (x : ℕ) → AllBelow (length rows) (row rows x)

-- the node is one of the first, or an edge leads to it from a node that is reached
pub data Reached (rows : List (List ℕ)) (first : List ℕ) : ℕ → Type 0 where
  at_first : {x : ℕ} → Contains first x → Reached rows first x
  along : {x y : ℕ} → Reached rows first x → Contains (row rows x) y → Reached rows first y

abbrev pub is_marked : List Bool → ℕ → Bool
is_marked seen x = slice_index_or seen x false
