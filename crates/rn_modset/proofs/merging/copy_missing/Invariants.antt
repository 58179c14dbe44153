use Rattle.std.proofs.Common.{◌≡◌, take, drop}
use Rattle.rn_modset.specs.Contributions.{members_of}
use Rattle.rn_modset.specs.inside.Merges.{missing}
use Rattle.rn_modset.specs.inside.Digested.{AreDigested}
use Rattle.rn_modset.proofs.Unions.MergedLists.{IsAhead}
use Rattle.rn_modset.proofs.merging.copy_missing.Given as goal

-- those passed so far are copied
abbrev pub invariant-loop-at : goal.invariant-loop-at
invariant-loop-at l =
    IsAhead (members_of l.held) (members_of l.rest) (members_of (drop l.at l.contributions))
    × (members_of l.copies.contributions.items ≡ missing (members_of l.held) (members_of (take l.at l.contributions)))
    × AreDigested l.copies
