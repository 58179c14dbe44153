use Rattle.std.proofs.Common.{◌≡◌, flat_map, fold, take}
use Rattle.std.specs.Hash as fed
use Rattle.rn_pattern.proofs.tables.hashing.hash_places.Given as goal

abbrev pub invariant-loop-id : goal.invariant-loop-id
invariant-loop-id g l = l.state ≡ fold g.H.Hasher.write l.initial.state (flat_map (λ i. fed.usize i.0) (take l.id-index l.ids))
