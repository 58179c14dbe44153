-- The keys so far are those of the places so far.
use Rattle.std.proofs.Common.{◌≡◌, map, take}
use Rattle.rn_assemble.specs.declared.by_key.settling_order.FirstPlace.{FirstPlace}
use Rattle.rn_assemble.proofs.by_key.settling_order.defined_keys.Given as goal

abbrev pub invariant-loop-place : goal.invariant-loop-place
invariant-loop-place l = l.keys.items ≡ map (λ (p : FirstPlace). p.key) (take l.place-index l.place-items)
