use Rattle.std.proofs.lemmas.List.{get_or-map, length-map}
use Rattle.std.proofs.Common.{rules, ◌<◌, length, ap, arith}
use Rattle.std.proofs.lemmas.List.Sorted.{IsNonDecreasingBy-from_default, IsNonDecreasingBy-from_sort_by_key, IsPermutation-map}
use Rattle.rn_graph.specs.Ranks.{rank_of}
use Rattle.rn_assemble.specs.declared.reading.keys.KeyId.{KeyId}
use Rattle.rn_assemble.specs.inside.Views.{key_numbers}
use Rattle.rn_assemble.proofs.Referring.KeyOrders.{places_in_order}
use Rattle.rn_assemble.proofs.by_key.settling_order.marked_in_order.Goals as goal

pub returns : goal.returns
returns c =
    let rank = rank_of c.args.ranks.now in
    let order = c.sort_by_key.new.self.items in
    let places = c.in_ok-order.order.items in
    let up = IsNonDecreasingBy-from_sort_by_key (λ (k : KeyId). rank k.0) order c.in_ok-sort_by_key.ensures.sorted (λ a r f' k. search rules) in
    places_in_order c.args.marks.now rank (key_numbers places) (key_numbers order) c.in_ok-order.ensures (IsPermutation-map (λ (k : KeyId). k.0) places order c.in_ok-sort_by_key.ensures.permutation)
    (IsNonDecreasingBy-from_default rank (key_numbers order) 0 (λ i j l w.
    let below : j < length order = omega (arith, w, length-map order (λ (k : KeyId). k.0)) in
    let first = get_or-map (λ (k : KeyId). k.0) order i (record { 0 = 0 }) 0 (omega (arith, l, below)) in
    let other = get_or-map (λ (k : KeyId). k.0) order j (record { 0 = 0 }) 0 below in
    omega (arith, up i j (record { 0 = 0 }) l below, ap rank first, ap rank other)))
