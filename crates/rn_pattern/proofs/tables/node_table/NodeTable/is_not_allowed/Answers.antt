-- What stands at a place, or past the end.
use Rattle.std.proofs.Common.{◌≡◌, sym, ap, arith}
use Rattle.std.proofs.lemmas.List.{get_or_past}
use Rattle.rn_pattern.specs.Canonical.{is_not_allowed}
use Rattle.rn_pattern.specs.Tree as tree
use Rattle.rn_pattern.specs.inside.Stored.{tree_at, trees_of_nodes}
use Rattle.rn_pattern.proofs.Stores.NodeTrees.{length-trees_of_nodes, place_known}
use Rattle.rn_pattern.proofs.tables.node_table.NodeTable.is_not_allowed.Goals as goal

pub get-requires : goal.get-requires
get-requires c =
    let ns = c.args.self.now.nodes.now in
    place_known (trees_of_nodes ns) c.args.id (omega (arith, length-trees_of_nodes ns, c.if-id-self.true))

pub returns-else-id-self : goal.returns-else-id-self
returns-else-id-self c =
    let ns = c.args.self.now.nodes.now in
    let past : tree.not_allowed ≡ tree_at (trees_of_nodes ns) c.args.id = sym (get_or_past (trees_of_nodes ns) c.args.id.0 tree.not_allowed (omega (arith, length-trees_of_nodes ns, c.if-id-self.false))) in
    ap is_not_allowed past
