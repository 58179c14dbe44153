-- The ids of a store are the places of its trees, each once.
use Rattle.std.specs.Prelude.{◌≡◌, ◌<◌, ℕ, List, length, map, slice_index_or}
use Rattle.std.specs.List.{range_with_len}
use Rattle.std.proofs.Common.{sym, ap, ◌∙◌, subst, zero-add}
use Rattle.std.proofs.Math.Nat.{lt_trans, ne_of_lt}
use Rattle.std.proofs.lemmas.Bool.{lt-ltb, ltb-true}
use Rattle.std.proofs.lemmas.List.FromFn.{length-map-range_with_len, get_or-map-range_with_len}
use Rattle.rn_pattern.specs.Tree.{Tree}
use Rattle.rn_pattern.specs.Store.{HasCount}
use Rattle.rn_pattern.specs.inside.Stored.{knows}
use Rattle.rn_pattern.specs.declared.node.NodeId.{NodeId}

abbrev numbered : ℕ → NodeId
numbered k = record { 0 = k }

abbrev places : ℕ → List NodeId
places n = map numbered (range_with_len 0 n)

length-places : (n : ℕ) → length (places n) ≡ n
length-places n = length-map-range_with_len numbered 0 n

places-at : (n k : ℕ) (d : NodeId) → k < n → slice_index_or (places n) k d ≡ numbered k
places-at n k d h = get_or-map-range_with_len numbered 0 n k k d h (zero-add k)

within : (n k : ℕ) → k < length (places n) → k < n
within n k h = subst (λ m. k < m) (length-places n) h

apart : (n i j : ℕ) (d : NodeId) → i < n → j < n → slice_index_or (places n) i d ≡ slice_index_or (places n) j d → i ≡ j
apart n i j d h k e = ap (λ p. p.0) (sym (places-at n i d h) ∙ e ∙ places-at n j d k)

pub ids_counted : (ts : List Tree) → HasCount (knows ts) (length ts)
ids_counted ts =
    let n = length ts in (
      places n,
      length-places n,
      λ i j d before inside same. ne_of_lt before (apart n i j d (lt_trans before (within n j inside)) (within n j inside) same),
      λ i. (
        λ h. (i.0, subst (λ m. i.0 < m) (sym (length-places n)) (ltb-true i.0 n h), places-at n i.0 i (ltb-true i.0 n h)),
        λ c.
            let e : c.0 ≡ i.0 = ap (λ (p : NodeId). p.0) (sym (places-at n c.0 i (within n c.0 c.1)) ∙ c.2) in
            lt-ltb i.0 n (subst (λ m. m < n) e (within n c.0 c.1)),
      ),
    )
