-- How far readers of tokens come: they are at an index, and answer the index of the token that comes next.
use Rattle.std.specs.Prelude.{ℕ, ◌<◌, ◌≤◌}

-- from one index to a later one, of so many tokens
pub record Advanced (at behind count : ℕ) : Type 0 where
  pub further : at < behind
  pub inside : behind ≤ count
