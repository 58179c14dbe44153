-- The fault of the program where a run comes to nothing.
use Rattle.rn_modset.specs.declared.faults.AddFault.TheVariants as adding
use Rattle.rn_merge.specs.declared.run.RunFault.{RunFault}
use Rattle.rn_merge.specs.declared.run.RunFault.TheVariants as running
use Rattle.rn_merge.specs.declared.words.ProgramFault.{ProgramFault}
use Rattle.rn_merge.specs.declared.words.ProgramFault.TheVariants as failing

-- a union that is too large is one that nothing can be added to
abbrev pub run_fault : RunFault → ProgramFault
run_fault (running.Bundle index fault) = failing.Bundle index fault
run_fault running.Full = failing.Add adding.Full
run_fault running.Memory = failing.Memory
run_fault running.Write = failing.Write
