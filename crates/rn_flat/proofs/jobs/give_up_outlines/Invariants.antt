-- What is told of the files stays.
use Rattle.std.proofs.Common.{◌≡◌, map}
use Rattle.rn_flat.specs.inside.ToldFiles.{told_of}
use Rattle.rn_flat.proofs.jobs.give_up_outlines.Given as goal

abbrev pub invariant-loop-number : goal.invariant-loop-number
invariant-loop-number l = map told_of l.files.items ≡ map told_of l.fn.files.items
