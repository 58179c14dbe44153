-- Places in the order of the text.
use Rattle.std.specs.Prelude.{ℕ, ◌<◌, List, [], ◌∷◌, ⊤}
use Rattle.std.specs.List.{AllByRecursion}

-- each place stands before all behind it in the list, so the first of the list is the first in the text
abbrev pub Rise : List ℕ → Type 0
Rise [] = ⊤
Rise (i ∷ is) = AllByRecursion (λ j. i < j) is × Rise is
