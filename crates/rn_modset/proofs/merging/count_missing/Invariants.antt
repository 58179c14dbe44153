use Rattle.std.proofs.Common.{◌≡◌, ◌≤◌, length, take, drop}
use Rattle.rn_modset.specs.Contributions.{members_of}
use Rattle.rn_modset.specs.inside.Merges.{missing}
use Rattle.rn_modset.proofs.Unions.MergedLists.{IsAhead}
use Rattle.rn_modset.proofs.merging.count_missing.Given as goal

-- those passed so far are counted
abbrev pub invariant-loop-contribution : goal.invariant-loop-contribution
invariant-loop-contribution l =
    IsAhead (members_of l.held) (members_of l.rest) (members_of (drop l.contribution-index l.others))
    × (l.count ≡ length (missing (members_of l.held) (members_of (take l.contribution-index l.others))))
    × (l.count ≤ l.contribution-index)
