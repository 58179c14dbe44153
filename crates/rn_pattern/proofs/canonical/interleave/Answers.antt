use Rattle.std.proofs.Common.{flat_map, map, cond, sym, ap, ◌∙◌}
use Rattle.rn_pattern.specs.Canonical.{interleaved, node_of, sorted}
use Rattle.rn_pattern.specs.inside.Stored.{tree_at, trees_of_nodes}
use Rattle.rn_pattern.specs.Order.{tree_cmp}
use Rattle.rn_pattern.specs.Tree.{empty, interleave, not_allowed}
use Rattle.rn_pattern.proofs.canonical.interleave.Goals as goal

pub returns-clause-tree : goal.returns-clause-tree
returns-clause-tree c =
    let ts = trees_of_nodes c.args.nodes.now.nodes.now in
    c.list_of_members.ensures.tree ts
    ∙ ap (node_of empty interleave) (c.in_ok-members-2.ensures.sorted ∙ ap (sorted tree_cmp) c.in_ok-members.ensures.members)
    ∙ ap (λ b. cond b not_allowed (node_of empty interleave (sorted tree_cmp (flat_map interleaved (map (tree_at ts) c.args.members.now))))) (sym c.if-has_not_allowed.false ∙ c.has_not_allowed.ensures)

pub returns-clause-stored : goal.returns-clause-stored
returns-clause-stored c = c.list_of_members.ensures.stored (trees_of_nodes c.args.nodes.now.nodes.now) c.in_ok-members-2.ensures.known
