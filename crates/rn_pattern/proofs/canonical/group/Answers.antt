use Rattle.std.proofs.Common.{flat_map, map, cond, sym, ap, ◌∙◌}
use Rattle.rn_pattern.specs.Canonical.{grouped, node_of}
use Rattle.rn_pattern.specs.inside.Stored.{tree_at, trees_of_nodes}
use Rattle.rn_pattern.specs.Tree.{empty, group, not_allowed}
use Rattle.rn_pattern.proofs.canonical.group.Goals as goal

pub returns-clause-tree : goal.returns-clause-tree
returns-clause-tree c =
    let ts = trees_of_nodes c.args.nodes.now.nodes.now in
    c.list_of_members.ensures.tree ts
    ∙ ap (node_of empty group) c.in_ok-members.ensures.members
    ∙ ap (λ b. cond b not_allowed (node_of empty group (flat_map grouped (map (tree_at ts) c.args.members.now)))) (sym c.if-has_not_allowed.false ∙ c.has_not_allowed.ensures)

pub returns-clause-stored : goal.returns-clause-stored
returns-clause-stored c = c.list_of_members.ensures.stored (trees_of_nodes c.args.nodes.now.nodes.now) c.in_ok-members.ensures.known
