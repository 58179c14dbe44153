-- The limits of what is told, each by its name.
use Rattle.std.specs.Prelude.{ℕ}

-- the most messages that are told together
abbrev pub max_told : ℕ
max_told = 20
