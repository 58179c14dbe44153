use Rattle.rn_report.specs.Messages.{IsFew}
use Rattle.rn_report.proofs.wording.sentences.tell.Given as goal

-- no more is told so far than may be
abbrev pub invariant-loop-finding : goal.invariant-loop-finding
invariant-loop-finding l = IsFew l.told
