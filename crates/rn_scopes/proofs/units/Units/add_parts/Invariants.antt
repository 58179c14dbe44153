-- The files of the units stay as they were, whatever is added to the units.
use Rattle.std.proofs.Common.{◌≡◌}
use Rattle.rn_scopes.proofs.units.Units.add_parts.Given as goal

abbrev pub invariant-loop-number : goal.invariant-loop-number
invariant-loop-number l = l.self.files ≡ l.fn.self.files
