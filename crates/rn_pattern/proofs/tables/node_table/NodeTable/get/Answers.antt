-- What stands at a known place.
use Rattle.std.proofs.Common.{◌<◌, length, sym, arith}
use Rattle.rn_pattern.specs.Tree as tree
use Rattle.rn_pattern.specs.inside.Stored.{trees_of_nodes}
use Rattle.rn_pattern.proofs.Stores.NodeTrees.{length-trees_of_nodes, trees_of_nodes-at, names_below_at, knows_place}
use Rattle.rn_pattern.proofs.tables.node_table.NodeTable.get.Goals as goal

pub prove-unreachable-requires : goal.prove-unreachable-requires
prove-unreachable-requires c =
    let ns = c.args.self.now.nodes.now in
    omega (arith, length-trees_of_nodes ns, knows_place (trees_of_nodes ns) c.args.id c.requires, c.if-prove.true)

pub returns-clause-tree : goal.returns-clause-tree
returns-clause-tree c =
    let ns = c.args.self.now.nodes.now in
    let place : c.args.id.0 < length ns = omega (arith, length-trees_of_nodes ns, knows_place (trees_of_nodes ns) c.args.id c.requires) in
    sym (trees_of_nodes-at ns c.args.id.0 tree.not_allowed c.index-self-id.result c.args.self.now.earlier place)

pub returns-clause-below : goal.returns-clause-below
returns-clause-below c =
    let ns = c.args.self.now.nodes.now in
    let place : c.args.id.0 < length ns = omega (arith, length-trees_of_nodes ns, knows_place (trees_of_nodes ns) c.args.id c.requires) in
    names_below_at ns c.args.id.0 c.index-self-id.result c.args.self.now.earlier place
