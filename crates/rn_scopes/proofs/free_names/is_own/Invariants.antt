-- No dot so far ends a stem.
use Rattle.std.proofs.Common.{◌≡◌, ℕ, ◌<◌, false, take}
use Rattle.std.specs.Prelude.{slice_index}
use Rattle.std.specs.BTreeSet.{contains_text}
use Rattle.rn_scopes.proofs.free_names.is_own.Given as goal

abbrev pub invariant-loop-at : goal.invariant-loop-at
invariant-loop-at l = (k : ℕ) → k < l.at → slice_index l.name k ≡ 46 → contains_text l.own (take k l.name) ≡ false
