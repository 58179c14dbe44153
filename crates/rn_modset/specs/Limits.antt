-- The limits of a set. Definitions and contracts cite them by name; constants of the code have the same numbers, as is proved where they are used.
use Rattle.std.specs.Prelude.{ℕ}

-- the most bytes that a module's name has
abbrev pub max_name : ℕ
max_name = 200

-- the most bytes that a module's text has: 4 MiB
abbrev pub max_text : ℕ
max_text = 4194304

-- the most contributions that a set holds
abbrev pub max_contributions : ℕ
max_contributions = 1024
