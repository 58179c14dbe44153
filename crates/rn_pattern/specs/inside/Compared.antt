-- What comparing two patterns of a table, up to the first members that differ, tells of their order.
use Rattle.std.specs.Prelude.{◌≡◌, ◌<◌}
use Rattle.rn_pattern.specs.Tree.{Tree}
use Rattle.rn_pattern.specs.Order.{tree_cmp}
use Rattle.rn_pattern.specs.declared.node.NodeId.{NodeId}
use Rattle.rn_pattern.specs.declared.tables.node_table.Compared.{Compared}

-- it is the order of the patterns, or that of patterns within them, which have lower places
abbrev pub IsCompared : (NodeId → Tree) → NodeId → NodeId → Compared → Type 0
IsCompared at a b (Compared.As order) = order ≡ tree_cmp (at a) (at b)
IsCompared at a b (Compared.Within p q) = (p.0 < a.0) × (tree_cmp (at p) (at q) ≡ tree_cmp (at a) (at b))
