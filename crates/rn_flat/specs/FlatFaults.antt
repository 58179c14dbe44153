-- Why the program does not do its work.
use Rattle.std.specs.Prelude.{ℕ, Result, Ok, Err}
use Rattle.rn_flat.specs.declared.ending.Ending.{Ending}
use Rattle.rn_flat.specs.declared.ending.Ending.TheVariants.{Clean, Found}
use Rattle.rn_flat.specs.declared.flat_fault.FlatFault.{FlatFault}
use Rattle.rn_flat.specs.declared.flat_fault.FlatFault.TheVariants.{Usage, Refused, Unread, Unwritten, Memory}

-- the status with which the program ends
abbrev pub status : FlatFault → ℕ
status (Refused lines) = 1
status (Usage lines) = 2
status (Unread lines) = 3
status (Unwritten lines) = 3
status Memory = 3

-- the status with which the program ends when a job is done
abbrev pub ending_status : Ending → ℕ
ending_status Clean = 0
ending_status (Found lines) = 1

-- what comes to a fault, but for one of the output, leaves the output as it was
abbrev pub LeavesOutput : {T : Type 0} → Result T FlatFault → Type 0 → Type 0
LeavesOutput (Ok x) kept = Unit {0}
LeavesOutput (Err (Unwritten lines)) kept = Unit {0}
LeavesOutput (Err fault) kept = kept

-- the fault is one of an output
abbrev pub IsUnwritten : FlatFault → Type 0
IsUnwritten (Unwritten lines) = Unit {0}
IsUnwritten fault = ⊥
