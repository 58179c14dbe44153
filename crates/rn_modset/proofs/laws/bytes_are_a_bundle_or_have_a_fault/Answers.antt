use Rattle.rn_modset.proofs.BundleFaults.BundleOrFault.{verdict}
use Rattle.rn_modset.proofs.laws.bytes_are_a_bundle_or_have_a_fault.Goals as goal

pub returns : goal.returns
returns c = verdict
