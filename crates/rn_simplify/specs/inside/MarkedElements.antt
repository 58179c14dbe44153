-- The elements of a list that have a mark.
use Rattle.std.specs.Prelude.{Bool, List, [], ◌∷◌, cond}

abbrev pub marked_elements : {X : Type 0} → List Bool → List X → List X
marked_elements [] xs = []
marked_elements (b ∷ bs) [] = []
marked_elements (b ∷ bs) (x ∷ xs) = cond b (x ∷ marked_elements bs xs) (marked_elements bs xs)
