-- How paths are told to people: from the current folder.
use Rattle.std.specs.Prelude.{◌≡◌, ◌⊎◌, ℕ, List, [], ◌++◌, codes, if◌then◌else◌}
use Rattle.std.specs.List.{flat_map}
use Rattle.rn_files.specs.Paths.{is_slash}
use Rattle.rn_files.specs.ReadableFiles.{with_slash}

-- the way out of as many folders as have their slash here
abbrev pub climbs : List ℕ → List ℕ
climbs outside = flat_map (λ b. if is_slash b then codes "../" else []) outside

-- the path as it is; or, where the current folder and the path have a front in common, the way out of each folder that the current one
-- has behind it, and then along what the path has behind it
abbrev pub IsShownFrom : List ℕ → List ℕ → List ℕ → Type 0
IsShownFrom current path shown =
    (shown ≡ path) ⊎ ((front outside rest : List ℕ) × (with_slash current ≡ front ++ outside) × (path ≡ front ++ rest) × (shown ≡ climbs outside ++ rest))
