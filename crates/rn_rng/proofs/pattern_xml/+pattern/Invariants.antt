use Rattle.std.proofs.Common.{take}
use Rattle.rn_rng.specs.inside.Views.{patterns_at}
use Rattle.rn_rng.specs.inside.Writes.{Writes}
use Rattle.rn_rng.proofs.pattern_xml.+pattern.Given as goal

abbrev pub invariant-write_patterns-loop-pattern : goal.invariant-write_patterns-loop-pattern
invariant-write_patterns-loop-pattern l = Writes (patterns_at l.namespaces l.context (take l.pattern-index l.patterns)) l.initial.writer l.writer
