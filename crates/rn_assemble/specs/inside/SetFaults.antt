-- The refusal of a set that has no effective modules.
use Rattle.rn_modset.specs.declared.faults.SetFault.{SetFault}
use Rattle.rn_modset.specs.declared.faults.SetFault.TheVariants as f
use Rattle.rn_assemble.specs.declared.refusal.Refusal.{Refusal}
use Rattle.rn_assemble.specs.declared.refusal.Refusal.TheVariants as r

abbrev pub refusal_of : SetFault → Refusal
refusal_of (f.Conflict m v) = r.Conflict m v
refusal_of f.Memory = r.Memory
