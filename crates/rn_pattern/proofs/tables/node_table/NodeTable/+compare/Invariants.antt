use Rattle.std.proofs.Common.{◌≡◌, ◌≤◌, ◌+◌, ◌*◌, map, drop}
use Rattle.std.specs.Cmp.Lexicographic.{slice_cmp}
use Rattle.rn_pattern.specs.inside.Stored.{tree_at}
use Rattle.rn_pattern.specs.Order.{tree_cmp}
use Rattle.rn_pattern.specs.inside.Table.{trees}
use Rattle.rn_pattern.proofs.tables.node_table.NodeTable.+compare.Given as goal

abbrev pub decreases-compare : goal.decreases-compare
decreases-compare l = 2 * l.a.0 + 1

abbrev pub decreases-compare_roots : goal.decreases-compare_roots
decreases-compare_roots l = 2 * l.a.0

abbrev pub invariant-compare-loop-x : goal.invariant-compare-loop-x
invariant-compare-loop-x l =
    (l.x.0 ≤ l.fn.a.0) × (tree_cmp (tree_at (trees l.self) l.x) (tree_at (trees l.self) l.y) ≡ tree_cmp (tree_at (trees l.self) l.fn.a) (tree_at (trees l.self) l.fn.b))

abbrev pub decreases-compare-loop-x : goal.decreases-compare-loop-x
decreases-compare-loop-x l = l.x.0

abbrev pub invariant-compare_roots-loop-k : goal.invariant-compare_roots-loop-k
invariant-compare_roots-loop-k l =
    slice_cmp tree_cmp (map (tree_at (trees l.self)) l.x.members.now) (map (tree_at (trees l.self)) l.y.members.now)
    ≡ slice_cmp tree_cmp (map (tree_at (trees l.self)) (drop l.k l.x.members.now)) (map (tree_at (trees l.self)) (drop l.k l.y.members.now))
