use Rattle.std.proofs.Common.{◌+◌, vec_len, reverse}
use Rattle.rn_modset.specs.Contributions.{members_of}
use Rattle.rn_modset.specs.inside.Digested.{AreDigested, HasRoom}
use Rattle.rn_modset.proofs.Unions.MergedLists.{IsMerging}
use Rattle.rn_modset.proofs.merging.merge_members.Given as goal

-- what was taken, the greatest first, and what is left
abbrev pub invariant-loop-greatest : goal.invariant-loop-greatest
invariant-loop-greatest l =
    IsMerging (members_of l.held.contributions.items) (members_of l.added.contributions.items) (members_of (reverse l.merged.contributions.items))
    (members_of l.fn.held.contributions.items) (members_of l.fn.added.contributions.items)
    × HasRoom l.merged (vec_len l.held.contributions + vec_len l.added.contributions)
    × AreDigested l.held
    × AreDigested l.added
    × AreDigested l.merged

abbrev pub decreases-loop-greatest : goal.decreases-loop-greatest
decreases-loop-greatest l = vec_len l.held.contributions + vec_len l.added.contributions
