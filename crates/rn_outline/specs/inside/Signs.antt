-- Where a reader of tokens sees a sign.
use Rattle.std.specs.Prelude.{ℕ, ◌<◌, ⊤}
use Rattle.rn_outline.specs.declared.signs.Sign.{Sign}
use Rattle.rn_outline.specs.declared.signs.Sign.TheVariants.{End}

-- a sign was seen at a token of so many
abbrev pub IsInside : Sign → ℕ → ℕ → Type 0
IsInside End at count = ⊤
IsInside _ at count = at < count
