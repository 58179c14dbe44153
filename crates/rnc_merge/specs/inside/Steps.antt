-- What the steps of a job speak of: one contribution, and what is left of the output at a fault.
use Rattle.std.specs.Prelude.{ℕ, Option, Result, Ok, Err, String, Vec, string_bytes}
use Rattle.std.specs.Option.{option_map}
use Rattle.std.specs.declared.alloc.Global.{Global}
use Rattle.rn_modset.specs.Contributions.{Member}
use Rattle.rn_merge.specs.declared.words.ProgramFault.{ProgramFault}
use Rattle.rn_merge.specs.declared.words.ProgramFault.TheVariants.{Write}

-- a contribution of a text, or of a withdrawal where there is none
abbrev pub one_member : String Global → ℕ → Option (Vec ℕ Global) → Member
one_member name revision text = record { name = string_bytes name; revision = revision; text = option_map (λ v. v.items) text }

-- a step that ends with any fault but `Write` leaves the output as it was
abbrev pub KeepsAtFault : {T : Type 0} → Result T ProgramFault → Type 0 → Type 0
KeepsAtFault (Ok x) kept = Unit {0}
KeepsAtFault (Err Write) kept = Unit {0}
KeepsAtFault (Err fault) kept = kept
