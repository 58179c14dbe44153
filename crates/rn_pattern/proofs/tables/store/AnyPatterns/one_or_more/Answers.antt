-- The canonical step keeps what is matched.
use Rattle.rn_pattern.specs.Tree as tree
use Rattle.rn_pattern.specs.Tree.{Tree}
use Rattle.rn_pattern.specs.Canonical.{one_or_more_step}
use Rattle.rn_pattern.specs.inside.Stored.{knows, tree_at, trees_of_nodes}
use Rattle.rn_pattern.specs.inside.Reduced.{reduced_tree}
use Rattle.rn_pattern.specs.declared.node.NodeId.{NodeId}
use Rattle.rn_pattern.proofs.Matches.Constructors.{one_or_more_means}
use Rattle.rn_pattern.proofs.Matches.Meanings.{means_by, over_store}
use Rattle.rn_pattern.proofs.tables.store.AnyPatterns.one_or_more.Goals as goal

pub returns-clause-means : goal.returns-clause-means
returns-clause-means g c =
    let us = g.S.NodeStore.trees c.args.self.now in
    let new = g.S.NodeStore.trees c.keep.new.store in
    let ts = trees_of_nodes c.table.result.nodes.now in
    let step = over_store ts us c.one_or_more-pattern.result (λ (at : NodeId → Tree). one_or_more_step (at c.args.content)) c.table.ensures c.one_or_more-pattern.ensures.tree in
    means_by c.keep.result (knows new) (tree_at new) (reduced_tree us c.one_or_more-pattern.result) (tree.one_or_more (tree_at us c.args.content)) (one_or_more_step (tree_at us c.args.content)) c.keep.ensures.made step (one_or_more_means (tree_at us c.args.content))
