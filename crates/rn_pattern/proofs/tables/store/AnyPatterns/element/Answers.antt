-- The canonical name class holds the same names.
use Rattle.std.proofs.Common.{ap}
use Rattle.rn_pattern.specs.Tree as tree
use Rattle.rn_pattern.specs.Canonical.{canonical_name}
use Rattle.rn_pattern.specs.View.{name_class_view}
use Rattle.rn_pattern.specs.inside.Stored.{knows, tree_at}
use Rattle.rn_pattern.proofs.Matches.Constructors.{element_means}
use Rattle.rn_pattern.proofs.Matches.Meanings.{means_by}
use Rattle.rn_pattern.proofs.tables.store.AnyPatterns.element.Goals as goal

pub returns-clause-means : goal.returns-clause-means
returns-clause-means g c =
    let us = g.S.NodeStore.trees c.args.self.now in
    let new = g.S.NodeStore.trees c.add.new.self in
    let class = name_class_view c.args.nc.now in
    let content = tree_at us c.args.content in
    means_by c.add.result (knows new) (tree_at new) (tree.element (name_class_view c.in_ok-nc.nc) content) (tree.element class content) (tree.element (canonical_name class) content) c.add.ensures.made (ap (λ k. tree.element k content) c.in_ok-nc.ensures) (element_means class content)
