-- How long a compact text may be.
use Rattle.std.specs.Prelude.{ℕ}

-- the most bytes of a compact text: those of a module's text
abbrev pub max_text : ℕ
max_text = 4194304
