-- The members of a list are those of its tree.
use Rattle.std.proofs.Common.{map, sym, ap, ◌∙◌}
use Rattle.rn_pattern.specs.inside.Lists.{members_by}
use Rattle.rn_pattern.specs.Store.{node_view}
use Rattle.rn_pattern.proofs.Matches.StepsKeep.{list_of-trees_of}
use Rattle.rn_pattern.proofs.connector.Connector.members_of.Goals as goal

pub returns-in-Choice-node-clause-tree : goal.returns-in-Choice-node-clause-tree
returns-in-Choice-node-clause-tree c at =
    (λ i. members_by (c.in-Choice.is i) (node_view at (c.in-Choice-node.is i)))
    ∙ list_of-trees_of (map at c.in-Choice-node.members.items) ∙ ap (map at) (sym c.deref.ensures.value)

pub returns-in-Group-node-clause-tree : goal.returns-in-Group-node-clause-tree
returns-in-Group-node-clause-tree c at =
    (λ i. members_by (c.in-Group.is i) (node_view at (c.in-Group-node.is i)))
    ∙ list_of-trees_of (map at c.in-Group-node.members.items) ∙ ap (map at) (sym c.deref-in-Group-node.ensures.value)

pub returns-in-Interleave-node-clause-tree : goal.returns-in-Interleave-node-clause-tree
returns-in-Interleave-node-clause-tree c at =
    (λ i. members_by (c.in-Interleave.is i) (node_view at (c.in-Interleave-node.is i)))
    ∙ list_of-trees_of (map at c.in-Interleave-node.members.items) ∙ ap (map at) (sym c.deref-in-Interleave-node.ensures.value)
