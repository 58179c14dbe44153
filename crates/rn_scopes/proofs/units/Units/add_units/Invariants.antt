-- The files of the units stay as they were, whatever is added to the units.
use Rattle.std.proofs.Common.{◌≡◌}
use Rattle.rn_scopes.proofs.units.Units.add_units.Given as goal

abbrev pub invariant-loop-grammar : goal.invariant-loop-grammar
invariant-loop-grammar l = l.self.files ≡ l.fn.self.files
