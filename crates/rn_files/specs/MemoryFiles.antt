-- Files in memory.
use Rattle.std.specs.Prelude.{◌≡◌, ℕ, List, Option, Some, None}
use Rattle.rn_files.specs.declared.opening.memory_files.MemoryEntry.{MemoryEntry}
use Rattle.rn_files.specs.declared.opening.memory_files.MemoryEntry.TheVariants.{File, Pipe, Link, Swapped}

-- what is at a real path is a file, or a pipe, of these bytes
abbrev pub IsFileOf : Option MemoryEntry → List ℕ → Type 0
IsFileOf (Some (File held)) bytes = held.items ≡ bytes
IsFileOf (Some (Pipe held)) bytes = held.items ≡ bytes
IsFileOf (Some (Link target)) bytes = ⊥
IsFileOf (Some (Swapped target)) bytes = ⊥
IsFileOf None bytes = ⊥
