use Rattle.rn_modset.proofs.Unions.UnionLaws.{call_laws}
use Rattle.rn_modset.proofs.laws.calls_bring_their_union.Goals as goal

pub returns : goal.returns
returns c = call_laws
