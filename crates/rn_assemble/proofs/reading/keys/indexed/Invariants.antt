-- With the names that are left to add, the texts are those of all names.
use Rattle.std.proofs.Common.{◌≡◌, ◌++◌, drop}
use Rattle.rn_assemble.specs.inside.Keyed.{texts_of}
use Rattle.rn_assemble.proofs.reading.keys.indexed.Given as goal

abbrev pub invariant-loop-at : goal.invariant-loop-at
invariant-loop-at l = record {
  so_far : texts_of l.found.keys ++ texts_of (drop l.at l.names) ≡ texts_of l.names;
}
