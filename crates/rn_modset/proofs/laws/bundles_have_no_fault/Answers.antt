use Rattle.rn_modset.proofs.BundleFaults.OneBundleFault.{bundle_fault}
use Rattle.rn_modset.proofs.laws.bundles_have_no_fault.Goals as goal

pub returns : goal.returns
returns c = bundle_fault
