use Rattle.std.proofs.Common.{◌∙◌, ap, take}
use Rattle.std.proofs.lemmas.List.{take_all}
use Rattle.rn_modset.specs.Sets.{with_member}
use Rattle.rn_flat.specs.ModuleSets.{lifted_member, set_of_modules}
use Rattle.rn_flat.proofs.LiftedSets.{next_set}
use Rattle.rn_flat.proofs.module_set.set_of.Goals as goal

pub loop-number-init : goal.loop-number-init
loop-number-init c = c.new-set.ensures

pub loop-number-preserved : goal.loop-number-preserved
loop-number-preserved c =
    c.in_default.ensures ∙ ap (λ s. with_member s (lifted_member c.index-modules-number.result)) c.loop-number.invariant
    ∙ ap (λ m. with_member (set_of_modules (take c.loop-number.number c.args.modules.now)) (lifted_member m)) c.index-modules-number.is
    ∙ next_set c.args.modules.now c.loop-number.number c.index-modules-number.result c.loop-number-test.true

pub returns : goal.returns
returns c = c.loop-number.invariant ∙ ap set_of_modules (take_all c.loop-number.number c.args.modules.now c.loop-number-test.false)
