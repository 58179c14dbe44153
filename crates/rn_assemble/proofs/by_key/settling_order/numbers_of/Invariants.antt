-- The keys so far have their numbers.
use Rattle.std.proofs.Common.{◌≡◌, get_or, map, take}
use Rattle.rn_assemble.specs.declared.reading.keys.KeyId.{KeyId}
use Rattle.rn_assemble.proofs.by_key.settling_order.numbers_of.Given as goal

abbrev pub invariant-loop-key : goal.invariant-loop-key
invariant-loop-key l = l.found.items ≡ map (λ (k : KeyId). get_or l.numbers k.0 0) (take l.key-index l.keys)
