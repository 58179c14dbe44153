use Rattle.std.proofs.Common.{◌≡◌, All, IsTrue, map, flat_map, take}
use Rattle.rn_pattern.specs.inside.Lists.{members_by}
use Rattle.rn_pattern.specs.inside.Stored.{knows, tree_at}
use Rattle.rn_pattern.specs.inside.Table.{trees}
use Rattle.rn_pattern.proofs.canonical.open_parts.Given as goal

abbrev pub invariant-loop-part : goal.invariant-loop-part
invariant-loop-part l =
    (map (tree_at (trees l.nodes)) l.members.items ≡ flat_map (λ i. members_by l.connector (tree_at (trees l.nodes) i)) (take l.part-index l.parts))
    × All (λ i. IsTrue (knows (trees l.nodes) i)) l.members.items
