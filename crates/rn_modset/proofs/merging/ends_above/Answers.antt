-- The greater of the lasts.
use Rattle.std.proofs.Common.{ap, ◌∙◌}
use Rattle.std.proofs.lemmas.List.{map_push}
use Rattle.rn_modset.specs.Contributions.{member, members_of}
use Rattle.rn_modset.proofs.OrderedMembers.ProgramOrder.{same_order}
use Rattle.rn_modset.proofs.Unions.MergedLists.{ends_by_order}
use Rattle.rn_modset.proofs.merging.ends_above.Goals as goal

pub returns : goal.returns
returns c =
    let first = ap members_of c.in-Some.ensures.cases.0 ∙ map_push member c.in-Some.field-0-1.now c.in-Some.last.now in
    let second = ap members_of c.in-Some-split_last.ensures.cases.0 ∙ map_push member c.in-Some-split_last.field-0-1.now c.in-Some-split_last.other.now in
    ends_by_order (members_of c.args.first.now) (members_of c.args.second.now) (members_of c.in-Some.field-0-1.now) (members_of c.in-Some-split_last.field-0-1.now)
    (member c.in-Some.last.now) (member c.in-Some-split_last.other.now) c.cmp.result c.is_lt.result (c.cmp.ensures ∙ same_order c.in-Some-split_last.other.now c.in-Some.last.now) c.is_lt.ensures first second c.requires.first c.requires.second c.requires.apart
