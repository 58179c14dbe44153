use Rattle.std.proofs.Common.{ap, ◌∙◌}
use Rattle.rn_pattern.specs.Canonical.{node_of, sorted_once}
use Rattle.rn_pattern.specs.inside.Stored.{trees_of_nodes}
use Rattle.rn_pattern.specs.Order.{tree_cmp}
use Rattle.rn_pattern.specs.Tree.{choice, not_allowed}
use Rattle.rn_pattern.proofs.canonical.choice.Goals as goal

pub returns-clause-tree : goal.returns-clause-tree
returns-clause-tree c = c.list_of_members.ensures.tree (trees_of_nodes c.args.nodes.now.nodes.now)
    ∙ ap (node_of not_allowed choice) (c.in_ok-members-2.ensures.sorted ∙ ap (sorted_once tree_cmp) c.in_ok-members.ensures.members)

pub returns-clause-stored : goal.returns-clause-stored
returns-clause-stored c = c.list_of_members.ensures.stored (trees_of_nodes c.args.nodes.now.nodes.now) c.in_ok-members-2.ensures.known
