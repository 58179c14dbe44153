-- Sorted ids stand for sorted trees.
use Rattle.std.proofs.Common.{IsTrue, rules}
use Rattle.std.proofs.lemmas.List.Sorted.{All-permutation}
use Rattle.rn_pattern.specs.declared.node.NodeId.{NodeId}
use Rattle.rn_pattern.specs.inside.Stored.{knows, tree_at, trees_of_nodes}
use Rattle.rn_pattern.specs.Order.{tree_cmp}
use Rattle.rn_pattern.proofs.Ordered.Orders.{tree_same}
use Rattle.rn_pattern.proofs.Ordered.TotalOrder.{tree_cmp_total}
use Rattle.rn_pattern.proofs.Ordered.SortedBy.{ids_sorted}
use Rattle.rn_pattern.proofs.canonical.sort_members.Goals as goal

pub returns-clause-sorted : goal.returns-clause-sorted
returns-clause-sorted c =
    ids_sorted tree_cmp tree_cmp_total tree_same (tree_at (trees_of_nodes c.args.nodes.now.nodes.now)) c.args.members.items c.sort_by.new.self.items c.sort_by.ensures.permutation c.in_ok-sort_by.ensures.sorted (λ a r f' k. search rules)

pub returns-clause-known : goal.returns-clause-known
returns-clause-known c =
    let P : NodeId → Type 0 = λ i. IsTrue (knows (trees_of_nodes c.args.nodes.now.nodes.now) i) in
    All-permutation P c.args.members.items c.sort_by.new.self.items c.sort_by.ensures.permutation c.requires
