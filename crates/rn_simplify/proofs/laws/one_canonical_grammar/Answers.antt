use Rattle.rn_simplify.proofs.Simplified.FixedPoint.{one_canonical}
use Rattle.rn_simplify.proofs.laws.one_canonical_grammar.Goals as goal

pub returns : goal.returns
returns c = one_canonical
