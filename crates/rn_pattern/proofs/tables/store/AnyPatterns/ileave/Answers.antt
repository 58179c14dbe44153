-- The canonical step keeps what is matched.
use Rattle.std.proofs.Common.{map}
use Rattle.rn_pattern.specs.Tree as tree
use Rattle.rn_pattern.specs.Tree.{Tree, trees_of}
use Rattle.rn_pattern.specs.Canonical.{interleave_step}
use Rattle.rn_pattern.specs.inside.Stored.{knows, tree_at, trees_of_nodes}
use Rattle.rn_pattern.specs.inside.Reduced.{reduced_tree}
use Rattle.rn_pattern.specs.declared.node.NodeId.{NodeId}
use Rattle.rn_pattern.proofs.Matches.Constructors.{interleave_means}
use Rattle.rn_pattern.proofs.Matches.Meanings.{means_by, over_store}
use Rattle.rn_pattern.proofs.tables.store.AnyPatterns.ileave.Goals as goal

pub returns-clause-means : goal.returns-clause-means
returns-clause-means g c =
    let us = g.S.NodeStore.trees c.args.self.now in
    let new = g.S.NodeStore.trees c.keep.new.store in
    let ts = trees_of_nodes c.table.result.nodes.now in
    let step = over_store ts us c.in_ok-pattern.pattern (λ (at : NodeId → Tree). interleave_step (map at c.args.members.now)) c.table.ensures c.in_ok-pattern.ensures.tree in
    means_by c.keep.result (knows new) (tree_at new) (reduced_tree us c.in_ok-pattern.pattern) (tree.interleave (trees_of (map (tree_at us) c.args.members.now))) (interleave_step (map (tree_at us) c.args.members.now)) c.keep.ensures.made step (interleave_means (map (tree_at us) c.args.members.now))
