use Rattle.rn_pattern.proofs.CanonicalForms.Settled.{settling_ends}
use Rattle.rn_pattern.proofs.laws.settling_ends.Goals as goal

pub returns : goal.returns
returns c = λ G k x. settling_ends G k x
