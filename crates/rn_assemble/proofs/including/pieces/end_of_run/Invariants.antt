use Rattle.std.proofs.Common.{length, ◌-◌, ◌<◌, ◌≤◌, ◌≡◌, ℕ, Some}
use Rattle.std.specs.Prelude.{slice_get}
use Rattle.rn_assemble.specs.declared.reading.key_rows.WrittenComponent as code
use Rattle.rn_assemble.proofs.including.pieces.end_of_run.Given as goal

abbrev pub invariant-loop-to : goal.invariant-loop-to
invariant-loop-to l = record {
  further : l.from < l.to;
  within : l.to ≤ length l.row;
  inside : (i : ℕ) (w : code.WrittenComponent) → l.from < i → i < l.to → slice_get l.row i ≡ Some w → (w.module.0 ≡ l.«module».0) × (w.number < l.end);
}

abbrev pub decreases-loop-to : goal.decreases-loop-to
decreases-loop-to l = length l.row - l.to
