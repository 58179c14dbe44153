use Rattle.std.proofs.Common.{arith}
use Rattle.rn_lift.specs.inside.Planned.{IsModuleOfSomePlace}
use Rattle.rn_lift.proofs.ListsWithOneMore.{all_there}
use Rattle.rn_lift.proofs.LiftedModules.InPlan.{has_places}
use Rattle.rn_lift.proofs.lifting.place_modules.Goals as goal

pub loop-number-preserved : goal.loop-number-preserved
loop-number-preserved c =
    let ms = c.loop-number.modules.items in
    let ns = c.push.new.self.items in
    let m = c.in_ok-module.module in
    record {
      made = all_there (IsModuleOfSomePlace c.args.units.now c.args.plan.now) ms ns m c.in_ok-push.ensures.items c.loop-number.invariant.made (c.loop-number.number, c.in_ok-module.ensures);
      each = has_places c.args.units.now c.args.plan.now ms ns m c.loop-number.number c.in_ok-push.ensures.items c.in_ok-module.ensures c.loop-number.invariant.each;
    }

pub returns-clause-each : goal.returns-clause-each
returns-clause-each c = λ k h. c.loop-number.invariant.each k (omega (arith, h))
