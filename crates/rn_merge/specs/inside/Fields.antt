-- The fields of a refusal's line behind its name.
use Rattle.std.specs.Prelude.{ℕ, List, [], ◌∷◌}
use Rattle.rn_modset.specs.Bundles.{spaced}

-- each field after one space
abbrev pub spaced_fields : List (List ℕ) → List ℕ
spaced_fields [] = []
spaced_fields (w ∷ ws) = 32 ∷ spaced (w ∷ ws)
