use Rattle.std.proofs.Common.{map, take}
use Rattle.rn_pattern.specs.View.{shared_view}
use Rattle.rn_pattern.specs.Canonical.{HaveSameMembers}
use Rattle.rn_simplify.proofs.repeated_members.distinct_members.Given as goal

abbrev pub invariant-loop-index : goal.invariant-loop-index
invariant-loop-index l = HaveSameMembers (map shared_view l.found.items) (map shared_view (take l.index l.members))
