use Rattle.std.proofs.Common.{◌≡◌, take}
use Rattle.rn_flat.specs.ModuleSets.{set_of_modules}
use Rattle.rn_flat.proofs.module_set.set_of.Given as goal

-- the set is that of the modules so far
abbrev pub invariant-loop-number : goal.invariant-loop-number
invariant-loop-number l = l.set ≡ set_of_modules (take l.number l.modules)
