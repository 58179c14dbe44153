-- The trees of the nodes of a table.
use Rattle.std.specs.Prelude.{List, Bool}
use Rattle.rn_pattern.specs.Tree.{Tree}
use Rattle.rn_pattern.specs.inside.Stored.{knows, tree_at, trees_of_nodes}
use Rattle.rn_pattern.specs.declared.node.NodeId.{NodeId}
use Rattle.rn_pattern.specs.declared.tables.node_table.NodeTable.{NodeTable}

abbrev pub trees : NodeTable → List Tree
trees t = trees_of_nodes t.nodes.now

-- whether the id is one of the table's, and what it stands for
abbrev pub knows_in : NodeTable → NodeId → Bool
knows_in t = knows (trees t)

abbrev pub tree_in : NodeTable → NodeId → Tree
tree_in t = tree_at (trees t)
