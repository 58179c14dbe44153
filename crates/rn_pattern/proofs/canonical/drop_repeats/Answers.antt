-- The same patterns, by ids that are each there once.
use Rattle.std.proofs.Common.{Bool, nat_eq, map, IsTrue, sym, ap, ◌∙◌}
use Rattle.std.proofs.lemmas.List.Sorted.{All-permutation, IsPermutation-map}
use Rattle.std.proofs.lemmas.List.Filters.{All-dedup, dedup_is}
use Rattle.std.proofs.lemmas.List.Elements.{All-same}
use Rattle.std.specs.List.{dedup}
use Rattle.rn_pattern.specs.Canonical.{sorted_once}
use Rattle.rn_pattern.specs.inside.Hashing.{number_decides}
use Rattle.rn_pattern.specs.inside.Stored.{knows}
use Rattle.rn_pattern.specs.Order.{tree_cmp}
use Rattle.rn_pattern.specs.declared.node.NodeId.{NodeId}
use Rattle.rn_pattern.proofs.Ordered.Orders.{tree_same}
use Rattle.rn_pattern.proofs.Ordered.TotalOrder.{tree_cmp_total}
use Rattle.rn_pattern.proofs.Ordered.Sorting.{sorted_once_permutation}
use Rattle.rn_pattern.proofs.Ordered.SortedBy.{sorted_once-dedup}
use Rattle.rn_pattern.proofs.canonical.drop_repeats.Goals as goal

abbrev same_id : NodeId → NodeId → Bool
same_id i j = nat_eq i.0 j.0

pub returns-clause-sorted : goal.returns-clause-sorted
returns-clause-sorted c at =
    let xs = c.args.ids.items in
    let ys = c.sort_unstable.new.self.items in
    let zs = c.dedup.new.self.items in
    ap (λ us. sorted_once tree_cmp (map at us)) (dedup_is same_id ys zs c.dedup.ensures.filtered)
    ∙ sorted_once-dedup tree_cmp tree_cmp_total tree_same at same_id (λ i j e. ap (λ k. at (record { 0 = k })) ((number_decides i.0 j.0).0 e)) ys
    ∙ sym (sorted_once_permutation tree_cmp tree_cmp_total tree_same (map at xs) (map at ys) (IsPermutation-map at xs ys c.sort_unstable.ensures.permutation))

pub returns-clause-known : goal.returns-clause-known
returns-clause-known c ts h =
    let P : NodeId → Type 0 = λ i. IsTrue (knows ts i) in
    let ys = c.sort_unstable.new.self.items in
    let zs = c.dedup.new.self.items in
    All-same P zs (dedup same_id ys) (dedup_is same_id ys zs c.dedup.ensures.filtered) (All-dedup same_id P ys (All-permutation P c.args.ids.items ys c.sort_unstable.ensures.permutation h))
