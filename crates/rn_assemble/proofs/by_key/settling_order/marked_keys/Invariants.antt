use Rattle.rn_assemble.specs.inside.Views.{key_numbers}
use Rattle.rn_assemble.proofs.Referring.MarkedPlaces.{AreBelow}
use Rattle.rn_assemble.proofs.by_key.settling_order.marked_keys.Given as goal

abbrev pub invariant-loop-number : goal.invariant-loop-number
invariant-loop-number l = AreBelow l.marks l.number (key_numbers l.keys.items)
