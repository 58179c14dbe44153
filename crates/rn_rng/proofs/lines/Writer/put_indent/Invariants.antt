use Rattle.rn_rng.specs.Layout.{indent}
use Rattle.rn_rng.specs.inside.Writes.{Writes}
use Rattle.rn_rng.proofs.lines.Writer.put_indent.Given as goal

abbrev pub invariant-loop-done : goal.invariant-loop-done
invariant-loop-done l = Writes (indent l.done) l.initial.self l.self
