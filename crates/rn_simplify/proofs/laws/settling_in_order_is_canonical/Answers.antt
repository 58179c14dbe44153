use Rattle.rn_simplify.proofs.Simplified.RankOrder.{normal_is}
use Rattle.rn_simplify.proofs.laws.settling_in_order_is_canonical.Goals as goal

pub returns : goal.returns
returns c = λ G N t rank k n. normal_is G t rank k N n
