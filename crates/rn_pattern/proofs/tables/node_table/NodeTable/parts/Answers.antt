-- The parts of what stands at a place.
use Rattle.std.proofs.Common.{◌≡◌, ◌<◌, List, [], All, IsTrue, sym, ap, subst, arith, option_copied}
use Rattle.std.proofs.lemmas.List.Elements.{All-nil, All-same}
use Rattle.std.proofs.lemmas.List.{get_or_past}
use Rattle.rn_pattern.specs.Tree as tree
use Rattle.rn_pattern.specs.inside.Stored.{knows, tree_at, trees_of_nodes}
use Rattle.rn_pattern.specs.declared.node.Node.{Node}
use Rattle.rn_pattern.specs.declared.node.NodeId.{NodeId}
use Rattle.rn_pattern.proofs.Stores.Gathering.{earlier_known}
use Rattle.rn_pattern.proofs.Stores.NodeTrees.{length-trees_of_nodes, place_known}
use Rattle.rn_pattern.proofs.Stores.ShownTrees.{shows_node, shows_parts}
use Rattle.rn_pattern.proofs.tables.node_table.NodeTable.parts.Goals as goal

pub get-requires : goal.get-requires
get-requires c =
    let ns = c.args.self.now.nodes.now in
    place_known (trees_of_nodes ns) c.args.id (omega (arith, length-trees_of_nodes ns, c.if-id-self.true))

pub returns-else-id-self-clause-shows : goal.returns-else-id-self-clause-shows
returns-else-id-self-clause-shows c =
    let ns = c.args.self.now.nodes.now in
    let ts = trees_of_nodes ns in
    let past : tree.not_allowed ≡ tree_at ts c.args.id = sym (get_or_past ts c.args.id.0 tree.not_allowed (omega (arith, length-trees_of_nodes ns, c.if-id-self.false))) in
    shows_parts (tree_at ts) (tree_at ts c.args.id) c.args.id.0 Node.NotAllowed _ _ _ _ _ tt past c.bare_parts.ensures.kind c.bare_parts.ensures.texts c.bare_parts.ensures.parameters (ap option_copied c.bare_parts.ensures.class) c.bare_parts.ensures.members

pub returns-then-id-self-clause-known : goal.returns-then-id-self-clause-known
returns-then-id-self-clause-known c =
    let ns = c.args.self.now.nodes.now in
    let ts = trees_of_nodes ns in
    let here : IsTrue (knows ts c.args.id) = place_known ts c.args.id (omega (arith, length-trees_of_nodes ns, c.if-id-self.true)) in
    let below = (shows_node (tree_at ts) c.args.id.0 c.get.result.now c.get.ensures.below).below in
    earlier_known ts c.args.id c.parts_of.result.members.now here (subst (λ (is : List NodeId). All (λ (i : NodeId). i.0 < c.args.id.0) is) (sym c.parts_of.ensures.members) below)

pub returns-else-id-self-clause-known : goal.returns-else-id-self-clause-known
returns-else-id-self-clause-known c =
    let ts = trees_of_nodes c.args.self.now.nodes.now in
    All-same (λ (i : NodeId). IsTrue (knows ts i)) c.bare_parts.result.members.now [] c.bare_parts.ensures.members (All-nil (λ (i : NodeId). IsTrue (knows ts i)))
