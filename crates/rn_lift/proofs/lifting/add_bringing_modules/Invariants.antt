-- The modules that were there are kept, and those that bring in the scopes so far were added.
use Rattle.std.proofs.Common.{◌≡◌, ◌⊎◌, All, None, take}
use Rattle.std.specs.Prelude.{Contains}
use Rattle.rn_lift.specs.inside.Planned.{IsBrought}
use Rattle.rn_lift.specs.declared.lifted.LiftedModule.{LiftedModule}
use Rattle.rn_lift.proofs.lifting.add_bringing_modules.Given as goal

abbrev pub invariant-loop-scope : goal.invariant-loop-scope
invariant-loop-scope l = record {
  kept : (m : LiftedModule) → Contains l.fn.modules.items m → Contains l.modules.items m;
  others : All (λ m. Contains l.fn.modules.items m ⊎ (m.basis ≡ None)) l.modules.items;
  brought : All (IsBrought l.plan l.modules.items) (take l.scope-index l.scope-items);
}
