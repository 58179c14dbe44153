-- What was put in the place of parts so far stands for them.
use Rattle.std.proofs.Common.{All}
use Rattle.rn_lift.specs.inside.Planned.{IsEditOf}
use Rattle.rn_lift.proofs.edits.edits_of.Given as goal

abbrev pub invariant-loop-number : goal.invariant-loop-number
invariant-loop-number l = All (IsEditOf l.view) l.edits.items
