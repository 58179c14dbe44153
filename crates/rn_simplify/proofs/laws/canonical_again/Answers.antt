use Rattle.rn_simplify.proofs.Simplified.FixedPoint.{fixed_point, read_back_fixed}
use Rattle.rn_simplify.proofs.laws.canonical_again.Goals as goal

pub returns-clause-same : goal.returns-clause-same
returns-clause-same c = fixed_point

pub returns-clause-no_other : goal.returns-clause-no_other
returns-clause-no_other c = read_back_fixed
