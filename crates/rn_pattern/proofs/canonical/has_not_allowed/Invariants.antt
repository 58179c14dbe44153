use Rattle.std.proofs.Common.{◌≡◌, map, drop}
use Rattle.rn_pattern.specs.Canonical.{has_not_allowed}
use Rattle.rn_pattern.specs.inside.Stored.{tree_at}
use Rattle.rn_pattern.specs.inside.Table.{trees}
use Rattle.rn_pattern.proofs.canonical.has_not_allowed.Given as goal

abbrev pub invariant-loop-member : goal.invariant-loop-member
invariant-loop-member l =
    has_not_allowed (map (tree_at (trees l.nodes)) l.members) ≡ has_not_allowed (map (tree_at (trees l.nodes)) (drop l.member-index l.members))
