use Rattle.rn_report.specs.Messages.{IsFew}
use Rattle.rn_report.proofs.wording.file_messages.text_messages.Given as goal

-- no more is told so far than may be
abbrev pub invariant-loop-module : goal.invariant-loop-module
invariant-loop-module l = IsFew l.told
