use Rattle.std.proofs.Common.{length}
use Rattle.rn_modset.specs.Contributions.{member, members_of}
use Rattle.rn_modset.specs.Sets.{Rises}
use Rattle.rn_modset.specs.inside.Merges.{KeepsFrom}
use Rattle.rn_modset.proofs.merging.skip_below.Given as goal

-- only what is below the contribution was left out
abbrev pub invariant-loop-first : goal.invariant-loop-first
invariant-loop-first l = Rises (members_of l.rest) × KeepsFrom (members_of l.held) (members_of l.rest) (member l.contribution)

abbrev pub decreases-loop-first : goal.decreases-loop-first
decreases-loop-first l = length l.rest
