-- Loops in a graph.
use Rattle.std.specs.Prelude.{◌≡◌, ℕ, List, [], ◌∷◌, slice_index_or, Contains}
use Rattle.rn_graph.specs.Graph.{row}

-- each of the nodes has an edge to the next one, and the last one to y
abbrev pub LeadOnTo : List (List ℕ) → List ℕ → ℕ → Type 0
LeadOnTo rows [] y = Unit {0}
LeadOnTo rows (x ∷ xs) y = Contains (row rows x) (slice_index_or xs 0 y) × LeadOnTo rows xs y

-- the nodes of a loop, of which this one is the first: each has an edge to the next one, and the last one to the first
abbrev pub IsLoop : List (List ℕ) → ℕ → List ℕ → Type 0
IsLoop rows x nodes = (others : List ℕ) × (nodes ≡ x ∷ others) × LeadOnTo rows nodes x
