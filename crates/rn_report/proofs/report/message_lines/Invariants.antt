use Rattle.std.proofs.Common.{take, string_bytes}
use Rattle.rn_report.specs.Messages.{AreMessageTexts}
use Rattle.rn_report.proofs.report.message_lines.Given as goal

-- the lines of the messages so far
abbrev pub invariant-loop-message : goal.invariant-loop-message
invariant-loop-message l = AreMessageTexts l.pages l.colours (take l.message-index l.told.messages.items) (string_bytes l.lines)
