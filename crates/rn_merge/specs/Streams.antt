-- What reading all of a source and writing to a sink do to the bytes that are known of them.
use Rattle.std.specs.Prelude.{◌≡◌, ℕ, ◌<◌, ◌&&◌, ◌==◌, Bool, true, false, not, List, ◌++◌, length, Option, Result, Ok, Err}
use Rattle.std.specs.Io.KnownBytes.{Consumes, Appends}
use Rattle.rn_merge.specs.declared.streams.ReadFault.{ReadFault}
use Rattle.rn_merge.specs.declared.streams.ReadFault.TheVariants.{Read, Large, Memory}

-- a pull that gives no byte into a place that isn't empty has found the end
abbrev pub ends_input : {E : Type 0} → Result ℕ E → List ℕ → Bool
ends_input (Ok n) into = n == 0 && not (length into == 0)
ends_input (Err e) into = false

-- a push fails, or takes no byte of a piece that isn't empty
abbrev pub refuses_piece : {E : Type 0} → Result ℕ E → List ℕ → Bool
refuses_piece (Ok n) piece = n == 0 && not (length piece == 0)
refuses_piece (Err e) piece = true

-- known bytes grow by a front of bs
abbrev pub AppendsFront : Option (List ℕ) → Option (List ℕ) → List ℕ → Type 0
AppendsFront old new bs = (front : List ℕ) × (rest : List ℕ) × (bs ≡ front ++ rest) × Appends old new front

-- more bytes than the limit came
abbrev pub GivesMore : Option (List ℕ) → Option (List ℕ) → ℕ → Type 0
GivesMore old new limit = (bs : List ℕ) × Consumes old new bs × (limit < length bs)

-- why no input was read: the source has failed exactly at `Read`
abbrev pub IsReadFault : Option (List ℕ) → Option (List ℕ) → Bool → ℕ → ReadFault → Type 0
IsReadFault old new failed limit Read = failed ≡ true
IsReadFault old new failed limit Large = (failed ≡ false) × GivesMore old new limit
IsReadFault old new failed limit Memory = failed ≡ false
