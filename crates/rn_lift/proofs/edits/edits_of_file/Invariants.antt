-- The parts so far are covered.
use Rattle.std.proofs.Common.{ℕ, ◌<◌, All}
use Rattle.rn_lift.specs.inside.Planned.{IsCovered, IsEditOf}
use Rattle.rn_lift.proofs.edits.edits_of_file.Given as goal

abbrev pub invariant-loop-number : goal.invariant-loop-number
invariant-loop-number l = record {
  are_edits : All (IsEditOf l.view) l.edits.items;
  covered : (n : ℕ) → n < l.number → IsCovered l.view l.edits.items n;
}
