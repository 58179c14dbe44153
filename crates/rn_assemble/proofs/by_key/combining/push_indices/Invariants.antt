-- The numbers up to here were added.
use Rattle.std.proofs.Common.{◌≡◌, ◌++◌}
use Rattle.rn_assemble.specs.inside.Patterns.{numbers_from}
use Rattle.rn_assemble.proofs.by_key.combining.push_indices.Given as goal

abbrev pub invariant-loop-offset : goal.invariant-loop-offset
invariant-loop-offset l = l.firsts.items ≡ l.fn.firsts.items ++ numbers_from l.begin l.offset
