-- Sorted ids stand for sorted trees.
use Rattle.std.proofs.Common.{◌∙◌, IsTrue, rules}
use Rattle.std.proofs.lemmas.List.Sorted.{All-permutation}
use Rattle.std.proofs.lemmas.List.Filters.{All-dedup}
use Rattle.std.proofs.lemmas.List.Elements.{All-same}
use Rattle.std.specs.List.{dedup}
use Rattle.rn_pattern.specs.declared.node.NodeId.{NodeId}
use Rattle.rn_pattern.specs.inside.Stored.{knows, tree_at, trees_of_nodes}
use Rattle.rn_pattern.proofs.Ordered.SortedBy.{same_at, ids_deduped, ids_sorted, ids_sorted_once}
use Rattle.rn_pattern.specs.Order.{tree_cmp}
use Rattle.rn_pattern.proofs.Ordered.Orders.{tree_same}
use Rattle.rn_pattern.proofs.Ordered.TotalOrder.{tree_cmp_total}
use Rattle.rn_pattern.proofs.canonical.sort_without_repeats.Goals as goal

pub returns-clause-sorted : goal.returns-clause-sorted
returns-clause-sorted c =
    let at = tree_at (trees_of_nodes c.args.nodes.now.nodes.now) in
    let xs = c.drop_repeats-members.result.items in
    let ys = c.sort_by.new.self.items in
    ids_sorted_once tree_cmp tree_cmp_total tree_same at xs ys c.dedup_by.new.self.items
    (ids_sorted tree_cmp tree_cmp_total tree_same at xs ys c.sort_by.ensures.permutation c.in_ok-sort_by.ensures.sorted (λ a r f' k. search rules))
    (ids_deduped tree_cmp tree_cmp_total tree_same at ys c.dedup_by.new.self.items c.dedup_by.ensures.filtered (λ x y b f' x' y' k. search rules))
    ∙ c.drop_repeats-members.ensures.sorted at

pub returns-clause-known : goal.returns-clause-known
returns-clause-known c =
    let at = tree_at (trees_of_nodes c.args.nodes.now.nodes.now) in
    let P : NodeId → Type 0 = λ i. IsTrue (knows (trees_of_nodes c.args.nodes.now.nodes.now) i) in
    let ys = c.sort_by.new.self.items in
    let zs = c.dedup_by.new.self.items in
    All-same P zs (dedup (same_at tree_cmp tree_cmp_total tree_same at) ys) (ids_deduped tree_cmp tree_cmp_total tree_same at ys zs c.dedup_by.ensures.filtered (λ x y b f' x' y' k. search rules))
    (All-dedup (same_at tree_cmp tree_cmp_total tree_same at) P ys (All-permutation P c.drop_repeats-members.result.items ys c.sort_by.ensures.permutation (c.drop_repeats-members.ensures.known (trees_of_nodes c.args.nodes.now.nodes.now) c.requires)))
