-- The modules so far are those of the places so far.
use Rattle.std.proofs.Common.{ℕ, ◌<◌, All}
use Rattle.rn_lift.specs.inside.Planned.{HasPlace, IsModuleOfSomePlace}
use Rattle.rn_lift.proofs.lifting.place_modules.Given as goal

abbrev pub invariant-loop-number : goal.invariant-loop-number
invariant-loop-number l = record {
  made : All (IsModuleOfSomePlace l.units l.plan) l.modules.items;
  each : (k : ℕ) → k < l.number → HasPlace l.units l.plan l.modules.items k;
}
