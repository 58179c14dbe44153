-- What comes of writing a product.
use Rattle.std.specs.Prelude.{◌≡◌, ℕ, Bool, true, false, List, Option, Result, Ok, Err, string_bytes}
use Rattle.std.specs.Str.{bytes_eq}
use Rattle.std.specs.Io.KnownBytes.{Appends}
use Rattle.rn_merge.specs.Streams.{AppendsFront}
use Rattle.rn_files.specs.declared.sources.SourceFile.{SourceFile}
use Rattle.rn_flat.specs.declared.flat_fault.FlatFault.{FlatFault}
use Rattle.rn_flat.specs.declared.flat_fault.FlatFault.TheVariants.{Unwritten}

-- standard output takes all bytes; or it takes a front of them, and then fails
abbrev pub IsWritten : {T : Type 0} → Option (List ℕ) → Option (List ℕ) → Bool → List ℕ → Result T FlatFault → Type 0
IsWritten old new failed bytes (Ok x) = Appends old new bytes × (failed ≡ false)
IsWritten old new failed bytes (Err (Unwritten lines)) = AppendsFront old new bytes × (failed ≡ true)
IsWritten old new failed bytes (Err fault) = ⊥

-- the file that was read has this real path
abbrev pub lies_at : List ℕ → SourceFile → Bool
lies_at real f = bytes_eq (string_bytes f.path) real
