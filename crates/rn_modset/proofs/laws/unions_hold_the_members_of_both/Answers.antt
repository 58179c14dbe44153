use Rattle.rn_modset.proofs.Unions.AddedMember.{rises_with}
use Rattle.rn_modset.proofs.Unions.UnionMembers.{has_union, rises_union}
use Rattle.rn_modset.proofs.Unions.HeldMembers.{held, with_one, of_both}
use Rattle.rn_modset.proofs.laws.unions_hold_the_members_of_both.Goals as goal

pub returns : goal.returns
returns c = record { members = held; with_one = with_one; of_both = of_both; tests = has_union; one_rises = rises_with; both_rise = rises_union }
