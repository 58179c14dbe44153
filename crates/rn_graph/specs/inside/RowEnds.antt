-- Where the rows of a graph end in one list of nodes.
use Rattle.std.specs.Prelude.{ℕ, ◌≤◌, List, [], ◌∷◌}
use Rattle.std.specs.Coded.{×_prop, le_prop}

-- each end is where the row before ends or behind it, the first row begins there, and no row ends behind n nodes
abbrev pub AreEnds : (n begin : ℕ) → List ℕ → Type 0
AreEnds n begin [] = begin ≤ n
AreEnds n begin (end ∷ ends) = (begin ≤ end) × AreEnds n end ends

pub AreEnds-prop : (n begin : ℕ) (ends : List ℕ) → IsProp (AreEnds n begin ends)
AreEnds-prop n begin [] = le_prop
AreEnds-prop n begin (end ∷ ends) = ×_prop le_prop (AreEnds-prop n end ends)
