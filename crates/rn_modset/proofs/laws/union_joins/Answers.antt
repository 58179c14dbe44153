use Rattle.rn_modset.proofs.Unions.UnionLaws.{union_laws}
use Rattle.rn_modset.proofs.laws.union_joins.Goals as goal

pub returns : goal.returns
returns c = union_laws
