use Rattle.std.proofs.Common.{take}
use Rattle.rn_rng.specs.inside.Views.{classes_at}
use Rattle.rn_rng.specs.inside.Writes.{Writes}
use Rattle.rn_rng.proofs.class_xml.+class.Given as goal

abbrev pub invariant-write_classes-loop-class : goal.invariant-write_classes-loop-class
invariant-write_classes-loop-class l = Writes (classes_at l.namespaces l.context l.own (take l.class-index l.classes)) l.initial.writer l.writer
