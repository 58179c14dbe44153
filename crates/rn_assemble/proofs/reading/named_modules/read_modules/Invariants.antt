-- The modules that were read.
use Rattle.rn_assemble.proofs.Answering.ReadModules.{AreReadFrom}
use Rattle.rn_assemble.proofs.reading.named_modules.read_modules.Given as goal

abbrev pub invariant-loop-module : goal.invariant-loop-module
invariant-loop-module l = AreReadFrom l.yielded l.modules.items
