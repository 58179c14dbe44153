use Rattle.rn_modset.proofs.Unions.UnionLaws.{is_union, is_with_one, one_union}
use Rattle.rn_modset.proofs.laws.members_alone_make_a_union.Goals as goal

pub returns : goal.returns
returns c = record { union = is_union; with_one = is_with_one; one = one_union }
