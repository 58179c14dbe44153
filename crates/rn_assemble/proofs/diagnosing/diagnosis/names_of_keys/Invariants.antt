-- The names so far stand behind that of the start.
use Rattle.std.proofs.Common.{◌≡◌, ◌∷◌, ◌-◌, [], take}
use Rattle.rn_assemble.specs.inside.Views.{names_of, texts_of}
use Rattle.rn_assemble.proofs.diagnosing.diagnosis.names_of_keys.Given as goal

abbrev pub invariant-loop-number : goal.invariant-loop-number
invariant-loop-number l = texts_of l.names.items ≡ [] ∷ take (l.number - 1) (names_of l.keys)
