-- The canonical step keeps what is matched.
use Rattle.rn_pattern.specs.Tree as tree
use Rattle.rn_pattern.specs.Tree.{Tree}
use Rattle.rn_pattern.specs.Canonical.{attribute_step, canonical_name}
use Rattle.rn_pattern.specs.View.{name_class_view}
use Rattle.rn_pattern.specs.inside.Stored.{knows, tree_at, trees_of_nodes}
use Rattle.rn_pattern.specs.inside.Reduced.{reduced_tree}
use Rattle.rn_pattern.specs.declared.node.NodeId.{NodeId}
use Rattle.rn_pattern.proofs.Matches.Constructors.{attribute_means}
use Rattle.rn_pattern.proofs.Matches.Meanings.{means_by, over_store}
use Rattle.rn_pattern.proofs.tables.store.AnyPatterns.attribute.Goals as goal

pub returns-clause-means : goal.returns-clause-means
returns-clause-means g c =
    let us = g.S.NodeStore.trees c.args.self.now in
    let new = g.S.NodeStore.trees c.keep.new.store in
    let ts = trees_of_nodes c.table.result.nodes.now in
    let step = over_store ts us c.in_ok-pattern.pattern (λ (at : NodeId → Tree). attribute_step (canonical_name (name_class_view c.args.nc.now)) (at c.args.content)) c.table.ensures c.in_ok-pattern.ensures.tree in
    means_by c.keep.result (knows new) (tree_at new) (reduced_tree us c.in_ok-pattern.pattern) (tree.attribute (name_class_view c.args.nc.now) (tree_at us c.args.content)) (attribute_step (canonical_name (name_class_view c.args.nc.now)) (tree_at us c.args.content)) c.keep.ensures.made step (attribute_means (name_class_view c.args.nc.now) (tree_at us c.args.content))
