-- The canonical step keeps what is matched.
use Rattle.std.proofs.Common.{◌≡◌, ◌∙◌}
use Rattle.std.specs.Option.{option_map}
use Rattle.std.specs.Rc.{rc_str_bytes}
use Rattle.rn_pattern.specs.Tree.{Tree}
use Rattle.rn_pattern.specs.Store.{datum_by, datum_step}
use Rattle.rn_pattern.specs.View.{parameters_view}
use Rattle.rn_pattern.specs.inside.Stored.{knows, tree_at, trees_of_nodes}
use Rattle.rn_pattern.specs.inside.Reduced.{reduced_tree}
use Rattle.rn_pattern.specs.declared.node.NodeId.{NodeId}
use Rattle.rn_pattern.proofs.Matches.Meanings.{means_by, over_store, datum_means}
use Rattle.rn_pattern.proofs.tables.store.AnyPatterns.datum.Goals as goal

pub returns-clause-means : goal.returns-clause-means
returns-clause-means g c =
    let us = g.S.NodeStore.trees c.args.self.now in
    let mid = g.S.NodeStore.trees c.library.new.self in
    let new = g.S.NodeStore.trees c.keep.new.store in
    let ts = trees_of_nodes c.table.result.nodes.now in
    let ps = parameters_view c.args.params.now in
    let step = over_store ts mid c.in_ok-pattern.pattern (λ (at : NodeId → Tree). datum_step (rc_str_bytes c.in_ok-library.library) c.args.type_name.now ps (option_map at c.args.except)) c.table.ensures c.in_ok-pattern.ensures.tree in
    let same : datum_step (rc_str_bytes c.in_ok-library.library) c.args.type_name.now ps (option_map (tree_at mid) c.args.except) ≡ datum_step c.args.library.now c.args.type_name.now ps (option_map (tree_at us) c.args.except) = λ i. datum_step (c.in_ok-library.ensures.text i) c.args.type_name.now ps (option_map (tree_at (c.library.ensures.kept i)) c.args.except) in
    means_by c.keep.result (knows new) (tree_at new) (reduced_tree mid c.in_ok-pattern.pattern) (datum_by c.args.library.now c.args.type_name.now ps (option_map (tree_at us) c.args.except)) (datum_step c.args.library.now c.args.type_name.now ps (option_map (tree_at us) c.args.except)) c.keep.ensures.made (step ∙ same) (datum_means c.args.library.now c.args.type_name.now ps (option_map (tree_at us) c.args.except))
