-- From what is planned to what is answered.
use Rattle.std.proofs.Common.{arith}
use Rattle.rn_lift.proofs.LiftedModules.PlainFiles.{kept_ok}
use Rattle.rn_lift.proofs.LiftedModules.OfFiles.{made_ok}
use Rattle.rn_lift.proofs.lifting.lift.Goals as goal

of_files : goal.returns-clause-made
of_files c = made_ok c.in_ok-units.units c.in_ok-plan.plan c.args.files.now c.in_ok-modules.modules.items c.add_bringing_modules.new.modules.items c.in_ok-units.ensures.files c.in_ok-units.ensures.targets c.in_ok-modules.ensures.made (λ k h. c.in_ok-modules.ensures.each k (omega (arith, h, c.in_ok-plan.plan.places.ok.0))) c.in_ok-add_bringing_modules.ensures.kept c.in_ok-add_bringing_modules.ensures.others c.in_ok-add_bringing_modules.ensures.brought c.finish.result c.finish.ensures.same c.finish.ensures.start

pub returns-clause-made : goal.returns-clause-made
returns-clause-made c = of_files c

pub returns-clause-plain : goal.returns-clause-plain
returns-clause-plain c = kept_ok c.args.files.now c.finish.result (of_files c)
