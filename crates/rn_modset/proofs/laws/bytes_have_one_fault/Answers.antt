use Rattle.rn_modset.proofs.BundleFaults.OneBundleFault.{one_fault}
use Rattle.rn_modset.proofs.laws.bytes_have_one_fault.Goals as goal

pub returns : goal.returns
returns c = λ bytes f g x y. one_fault bytes x y
