-- A walk from one node of a graph along the edges: which nodes were met, in which order, and by which edges.
use Rattle.std.specs.Prelude.{◌≡◌, ℕ, ◌<◌, true, List, ◌++◌, length, slice_index_or, Contains}
use Rattle.rn_graph.specs.Graph.{is_marked, row}
use Rattle.rn_graph.specs.inside.Marking.{Agrees}
use Rattle.rn_graph.specs.declared.loops.Walk.{Walk}

-- the node that was met at this place
abbrev pub node_at : Walk → ℕ → ℕ
node_at w i = slice_index_or w.nodes.items i 0

-- the place of the node whose edge led to the one at this place
abbrev pub place_before : Walk → ℕ → ℕ
place_before w i = slice_index_or w.before.items i 0

-- the node from which the walk began
abbrev pub first_of : Walk → ℕ
first_of w = node_at w 0

-- exactly the nodes that were met are listed, each once; each but the first stands behind one that has an edge to it
pub record IsWalk (rows : List (List ℕ)) (w : Walk) : Type 0 where
  pub agrees : Agrees w.met.items w.nodes.items
  pub size : length w.met.items ≡ length rows
  pub counted : length w.before.items ≡ length w.nodes.items
  pub behind : (i : ℕ) → 0 < i → i < length w.nodes.items → place_before w i < i
  pub led : (i : ℕ) → 0 < i → i < length w.nodes.items → Contains (row rows (node_at w (place_before w i))) (node_at w i)

-- the walk went on from the first one to the second, and met those of xs that are nodes
pub record WalksOn (rows : List (List ℕ)) (xs : List ℕ) (old new : Walk) : Type 0 where
  pub walk : IsWalk rows new
  pub grows : (added : List ℕ) × (new.nodes.items ≡ old.nodes.items ++ added)
  pub still : (y : ℕ) → is_marked old.met.items y ≡ true → is_marked new.met.items y ≡ true
  pub all : (y : ℕ) → Contains xs y → y < length rows → is_marked new.met.items y ≡ true
