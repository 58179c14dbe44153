-- Characters of ASCII, whose codes are their bytes.
use Rattle.std.specs.Prelude.{ℕ, Bool, ◌&&◌}
use Rattle.std.specs.Char.{is_ascii}

-- an ASCII character that passes
abbrev pub is_ascii_and : (ℕ → Bool) → ℕ → Bool
is_ascii_and p c = is_ascii c && p c
