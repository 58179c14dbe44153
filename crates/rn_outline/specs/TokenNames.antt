-- The names that tokens are.
use Rattle.std.specs.Prelude.{ℕ, ◌==◌, if◌then◌else◌, List, [], ◌∷◌}

-- a name without the backslash of a quoted one
abbrev pub unquoted_name : List ℕ → List ℕ
unquoted_name [] = []
unquoted_name (b ∷ bs) = if b == 92 then bs else b ∷ bs
