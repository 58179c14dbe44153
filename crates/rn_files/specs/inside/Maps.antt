-- The map that counts for a URI, as maps are looked at one after the other.
use Rattle.std.specs.Prelude.{ℕ, List, length, nat_lt, Option, Some, None, if◌then◌else◌}
use Rattle.rn_files.specs.declared.mapping.maps.Map.{Map}

-- of two maps with what they leave, the one that leaves less; the first of equals
abbrev pub chosen : Option (Map × List ℕ) → Map → Option (List ℕ) → Option (Map × List ℕ)
chosen best m None = best
chosen None m (Some rest) = Some (m, rest)
chosen (Some b) m (Some rest) = if nat_lt (length rest) (length b.1) then Some (m, rest) else Some b
