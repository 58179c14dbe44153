use Rattle.rn_modset.proofs.BundleFaults.OneBundleFault.{longest}
use Rattle.rn_modset.proofs.laws.faults_stand_behind_the_longest_front.Goals as goal

pub returns : goal.returns
returns c = longest
