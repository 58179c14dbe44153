-- A search for the nodes of a graph that come back to themselves. The nodes that are met stand on a stack, in groups of nodes that lead to one
-- another (strongly connected ones); each node on the stack leads to all behind it. A group is closed when no edge is left that might unite it with another.
use Rattle.std.specs.Prelude.{◌≡◌, ℕ, ◌+◌, ◌<◌, ◌≤◌, ◌⊎◌, List, length, slice_index_or, take, sum_by, sum, count_by, Contains, Option, Some, None, ◌∷◌, ◌++◌, [], ◌-◌}
use Rattle.std.specs.Option.{is_some}
use Rattle.rn_graph.specs.Graph.{row}
use Rattle.rn_graph.specs.Ranks.{Leads, rank_of}
use Rattle.rn_graph.specs.declared.search.Search.{Search}
use Rattle.rn_graph.specs.declared.search.Stage.{Stage}
use Rattle.rn_graph.specs.declared.search.Stage.TheVariants.{New, Open, Closed}

-- the node is the last of the list
abbrev pub EndsWith : List ℕ → ℕ → Type 0
EndsWith path x = (front : List ℕ) × (path ≡ front ++ x ∷ [])

-- how many edges of the node are left, and the node that the next of them leads to: they are taken from the end
abbrev pub edges_left : List ℕ → ℕ → ℕ
edges_left left x = slice_index_or left x 0

abbrev pub next_from : List (List ℕ) → List ℕ → ℕ → ℕ
next_from rows left x = slice_index_or (row rows x) (edges_left left x - 1) 0

-- the edge that is looked at next leads to the node
pub record IsNextNode (rows : List (List ℕ)) (left : List ℕ) (x y : ℕ) : Type 0 where
  pub some_left : 0 < edges_left left x
  pub is : y ≡ next_from rows left x
  pub edge : Contains (row rows x) y
  pub within : y < length rows

-- the node that is looked at next from x, if an edge is left
abbrev pub IsNext : List (List ℕ) → List ℕ → ℕ → Option ℕ → Type 0
IsNext rows left x None = edges_left left x ≡ 0
IsNext rows left x (Some y) = IsNextNode rows left x y

abbrev pub node_at : List ℕ → ℕ → ℕ
node_at stack i = slice_index_or stack i 0

abbrev pub place_of : List (Option ℕ) → ℕ → Option ℕ
place_of places x = slice_index_or places x None

-- the second node is the first, or is reached from it
abbrev pub Comes : List (List ℕ) → ℕ → ℕ → Type 0
Comes rows x y = (x ≡ y) ⊎ Leads rows x y

-- no group begins behind the place j and up to the place i
abbrev pub IsNear : List ℕ → ℕ → ℕ → Type 0
IsNear bounds i j = (c : ℕ) → Contains bounds c → j < c → i < c

-- the node was met, and its group is closed
abbrev pub IsClosed : List (Option ℕ) → List ℕ → ℕ → Type 0
IsClosed places stack x = (p : ℕ) × (place_of places x ≡ Some p) × (Contains stack x → ⊥)

-- the node is closed, or stands on the stack near the place i
abbrev pub IsSettled : List (Option ℕ) → (stack bounds : List ℕ) → ℕ → ℕ → Type 0
IsSettled places stack bounds i y = IsClosed places stack y ⊎ ((j : ℕ) × (j < length stack) × (node_at stack j ≡ y) × IsNear bounds i j)

-- the least of the nodes of P that come back to themselves, if there is one
abbrev pub IsLeastLooped : List (List ℕ) → (ℕ → Type 0) → Option ℕ → Type 0
IsLeastLooped rows P None = (x : ℕ) → P x → ¬ Leads rows x x
IsLeastLooped rows P (Some m) = Leads rows m m × ((x : ℕ) → P x → Leads rows x x → m ≤ x)

abbrev pub Rises : List ℕ → Type 0
Rises xs = (i j : ℕ) → i < j → j < length xs → slice_index_or xs i 0 < slice_index_or xs j 0

pub record GroupingBy (rows : List (List ℕ)) (places : List (Option ℕ)) (left stack path bounds : List ℕ) (least : Option ℕ) : Type 0 where
  pub places_size : length places ≡ length rows
  pub left_size : length left ≡ length rows
  pub left_within : (x : ℕ) → edges_left left x ≤ length (row rows x)
  pub fresh : (x : ℕ) → place_of places x ≡ None → edges_left left x ≡ length (row rows x)
  pub placed : (i : ℕ) → i < length stack → place_of places (node_at stack i) ≡ Some i
  pub path_within : (p : ℕ) → Contains path p → p < length stack
  pub path_rises : Rises path
  pub on_path : (i : ℕ) → i < length stack → 0 < edges_left left (node_at stack i) → Contains path i
  pub bounds_within : (c : ℕ) → Contains bounds c → c < length stack
  pub bounds_rise : Rises bounds
  pub first_bound : slice_index_or bounds 0 0 ≡ 0
  pub bounded : 0 < length stack → 0 < length bounds
  pub leads : (i j : ℕ) → i < length stack → j < length stack → IsNear bounds i j → Comes rows (node_at stack i) (node_at stack j)
  pub looked : (i k : ℕ) → i < length stack → edges_left left (node_at stack i) ≤ k → k < length (row rows (node_at stack i)) → IsSettled places stack bounds i (slice_index_or (row rows (node_at stack i)) k 0)
  pub closed : (x y : ℕ) → IsClosed places stack x → Contains (row rows x) y → IsClosed places stack y
  pub least_is : IsLeastLooped rows (IsClosed places stack) least

-- the first node of each closed group has as its rank how many groups were closed before. So where a closed node doesn't come back to itself, and thus
-- is its group, each edge of it leads to a lower rank
pub record RankingBy (rows : List (List ℕ)) (places : List (Option ℕ)) (stack : List ℕ) (closed : ℕ) (ranks : List ℕ) : Type 0 where
  pub ranks_size : length ranks ≡ length rows
  pub counted : closed + length stack ≤ count_by is_some places
  pub within : (x : ℕ) → rank_of ranks x ≤ closed
  pub below : (x : ℕ) → IsClosed places stack x → rank_of ranks x < closed
  pub falls : (x y : ℕ) → IsClosed places stack x → ¬ Leads rows x x → Contains (row rows x) y → rank_of ranks y < rank_of ranks x

pub record Grouping (rows : List (List ℕ)) (s : Search) : Type 0 where
  pub groups : GroupingBy rows s.places.items s.left.items s.stack.items s.path.items s.bounds.items s.least
  pub ranking : RankingBy rows s.places.items s.stack.items s.closed s.ranks.items

-- of the node at the place on the stack: how many edges are left, and the node that the next of them leads to
abbrev pub left_at : Search → ℕ → ℕ
left_at s place = edges_left s.left.items (node_at s.stack.items place)

abbrev pub next_at : List (List ℕ) → Search → ℕ → ℕ
next_at rows s place = next_from rows s.left.items (node_at s.stack.items place)

-- an edge leads from the node back to it
abbrev pub LeadsBack : List (List ℕ) → ℕ → Type 0
LeadsBack rows x = Contains (row rows x) x

-- what is still to do: a step for each edge, for each node on the stack and on the path, three for a new node
abbrev pub weight : Option ℕ → ℕ
weight None = 3
weight (Some p) = 0

abbrev pub work : Search → ℕ
work s = sum s.left.items + sum_by weight s.places.items + length s.stack.items + length s.path.items

-- what a part of the search leaves: a search, in which no node is new that was not
pub record GroupsOn (rows : List (List ℕ)) (old now : Search) : Type 0 where
  pub grouping : Grouping rows now
  pub kept : (x : ℕ) → (place_of old.places.items x ≡ None → ⊥) → place_of now.places.items x ≡ None → ⊥

-- how far the search has come with a node: not met, on the stack at this place, or in a closed group
abbrev pub IsStage : List (Option ℕ) → List ℕ → ℕ → Stage → Type 0
IsStage places stack x New = place_of places x ≡ None
IsStage places stack x (Open p) = (p < length stack) × (node_at stack p ≡ x)
IsStage places stack x Closed = IsClosed places stack x

-- each node on the stack leads to the node
abbrev pub AllLead : List (List ℕ) → List ℕ → ℕ → Type 0
AllLead rows stack x = (i : ℕ) → i < length stack → Leads rows (node_at stack i) x

-- the last place of the path, if it is not before the place
abbrev pub IsAtWork : List ℕ → ℕ → Option ℕ → Type 0
IsAtWork path begin None = (p : ℕ) → Contains path p → p < begin
IsAtWork path begin (Some p) = (begin ≤ p) × EndsWith path p

-- all groups that begin behind the place are united with the one before
pub record IsUnited (old now : List ℕ) (place : ℕ) : Type 0 where
  pub front : (n : ℕ) × (now ≡ take n old)
  pub kept : (c : ℕ) → Contains old c → c ≤ place → Contains now c
  pub within : (c : ℕ) → Contains now c → c ≤ place
