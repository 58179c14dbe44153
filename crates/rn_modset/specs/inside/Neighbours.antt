-- The neighbours of a place in a set's list.
use Rattle.std.specs.Prelude.{◌≡◌, ℕ, ◌+◌, ◌-◌, ◌<◌, List, length, slice_index_or}
use Rattle.std.specs.String.{string_bytes}
use Rattle.rn_modset.specs.declared.contribution.Contribution.{Contribution}

-- the contribution behind that place is of the same module
abbrev pub IsFollowed : List Contribution → ℕ → Type 0
IsFollowed cs at = (at + 1 < length cs)
    × ((d : Contribution) → string_bytes (slice_index_or cs (at + 1) d).name ≡ string_bytes (slice_index_or cs at d).name)

-- the contribution before that place is of the same module and revision
abbrev pub IsContradicted : List Contribution → ℕ → Type 0
IsContradicted cs at = (0 < at)
    × ((d : Contribution) → string_bytes (slice_index_or cs (at - 1) d).name ≡ string_bytes (slice_index_or cs at d).name)
    × ((d : Contribution) → (slice_index_or cs (at - 1) d).revision ≡ (slice_index_or cs at d).revision)
