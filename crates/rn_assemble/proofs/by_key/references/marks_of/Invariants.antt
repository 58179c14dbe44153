-- The marks of the numbers so far.
use Rattle.std.proofs.Common.{take}
use Rattle.rn_assemble.specs.inside.Referred.{AreMarksOf}
use Rattle.rn_assemble.specs.inside.Views.{key_numbers}
use Rattle.rn_assemble.proofs.by_key.references.marks_of.Given as goal

abbrev pub invariant-loop-key : goal.invariant-loop-key
invariant-loop-key l = AreMarksOf (take l.key-index (key_numbers l.keys)) l.fn.count l.marks.items
