-- Files that are read in order: what each gave, or the first that gave nothing.
use Rattle.std.specs.Prelude.{◌≡◌, ℕ, List, Some, slice_get, take}
use Rattle.std.specs.List.{AllZip}
use Rattle.rn_merge.specs.declared.streams.ReadFault.{ReadFault}
use Rattle.rn_merge.specs.declared.streams.ReadFault.TheVariants as reading
use Rattle.rn_merge.specs.declared.words.ProgramFault.{ProgramFault}
use Rattle.rn_merge.specs.declared.words.ProgramFault.TheVariants as failing

-- the fault of the program where the file at the index isn't read
abbrev pub input_fault : ℕ → ReadFault → ProgramFault
input_fault index reading.Read = failing.Read index
input_fault index reading.Large = failing.Large index
input_fault index reading.Memory = failing.Memory

-- the file at the index isn't read, for this reason, and all before it are
pub record IsUnread (gives : List ℕ → List ℕ → Type 0) (refuses : List ℕ → ReadFault → Type 0) (files : List (List ℕ)) (index : ℕ) (why : ReadFault) : Type 0 where
  pub path : List ℕ
  pub inputs : List (List ℕ)
  pub at : slice_get files index ≡ Some path
  pub before : AllZip gives (take index files) inputs
  pub refused : refuses path why

-- why not all of the files are read
abbrev pub IsInputFault : (List ℕ → List ℕ → Type 0) → (List ℕ → ReadFault → Type 0) → List (List ℕ) → ProgramFault → Type 0
IsInputFault gives refuses files (failing.Read index) = IsUnread gives refuses files index reading.Read
IsInputFault gives refuses files (failing.Large index) = IsUnread gives refuses files index reading.Large
IsInputFault gives refuses files failing.Memory = Unit {0}
IsInputFault gives refuses files fault = ⊥
