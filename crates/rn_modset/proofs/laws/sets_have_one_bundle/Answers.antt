use Rattle.std.proofs.Common.{sym, ◌∙◌}
use Rattle.rn_modset.specs.Bundles.{bundle}
use Rattle.rn_modset.proofs.BundlesWritten.SpelledBundles.{bundle_spelled, bundle_by}
use Rattle.rn_modset.proofs.laws.sets_have_one_bundle.Goals as goal

pub returns-clause-exists : goal.returns-clause-exists
returns-clause-exists c = λ s h. (bundle s, bundle_by s h)

pub returns-clause-one : goal.returns-clause-one
returns-clause-one c = λ a b s x y. (bundle_spelled a s x).1 ∙ sym (bundle_spelled b s y).1
