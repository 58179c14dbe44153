-- Where two texts differ.
use Rattle.std.specs.Prelude.{◌≡◌, ◌≢◌, ℕ, ◌≤◌, List, take, length, slice_get}

-- the first byte at which the texts differ, or the end of the one that is the front of the other
pub record DifferFirst (found wanted : List ℕ) (at : ℕ) : Type 0 where
  pub same : take at found ≡ take at wanted
  pub within_found : at ≤ length found
  pub within_wanted : at ≤ length wanted
  pub other : slice_get found at ≢ slice_get wanted at
