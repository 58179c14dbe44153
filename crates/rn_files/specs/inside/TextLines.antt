-- Where the first line of a text ends.
use Rattle.std.specs.Prelude.{◌≡◌, ℕ, ◌-◌, ◌<◌, ◌≤◌, List, ◌∷◌, length, slice_index}
use Rattle.rn_files.specs.TextLines.{lines}

-- the first line has n bytes, with the end that closes it
pub record ClosesAt (text : List ℕ) (n : ℕ) (front rest : List ℕ) : Type 0 where
  pub some : 0 < n
  pub within : n ≤ length text
  pub cut : lines text ≡ front ∷ lines rest
  pub ascii : slice_index text (n - 1) < 128
