use Rattle.std.proofs.Common.{take, drop}
use Rattle.rn_modset.specs.Contributions.{members_of}
use Rattle.rn_modset.specs.Modules.{modules_of}
use Rattle.rn_modset.proofs.EffectiveModules.SetWalk.{IsWalk}
use Rattle.rn_modset.proofs.sets.ModuleSet.effective.Given as goal

-- the modules of what has been passed
abbrev pub invariant-loop-at : goal.invariant-loop-at
invariant-loop-at l = IsWalk (members_of l.members) (members_of (take l.at l.members)) (members_of (drop l.at l.members)) (modules_of l.modules.items)
