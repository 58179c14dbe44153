-- Nodes of a graph that are marked and listed.
use Rattle.std.specs.Prelude.{◌≡◌, ℕ, Bool, true, ◌⊎◌, List, ◌++◌, length, count_by, Contains}
use Rattle.rn_graph.specs.Graph.{is_marked}

-- exactly the marked nodes are listed, each once
pub record Agrees (seen : List Bool) (order : List ℕ) : Type 0 where
  pub listed : (y : ℕ) → is_marked seen y ≡ true → Contains order y
  pub marked : (y : ℕ) → Contains order y → is_marked seen y ≡ true
  pub size : length order ≡ count_by (λ b. b) seen

-- the numbers of xs are marked in addition, and listed behind the others
pub record Marks (xs : List ℕ) (seen : List Bool) (order : List ℕ) (seen' : List Bool) (order' : List ℕ) : Type 0 where
  pub agrees : Agrees seen' order'
  pub size : length seen' ≡ length seen
  pub grows : (added : List ℕ) × (order' ≡ order ++ added)
  pub still : (y : ℕ) → is_marked seen y ≡ true → is_marked seen' y ≡ true
  pub all : (y : ℕ) → Contains xs y → is_marked seen' y ≡ true
  pub only : (y : ℕ) → is_marked seen' y ≡ true → (is_marked seen y ≡ true) ⊎ Contains xs y
