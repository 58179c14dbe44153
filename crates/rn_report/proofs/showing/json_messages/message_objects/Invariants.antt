use Rattle.std.proofs.Common.{take, string_bytes}
use Rattle.rn_report.specs.JsonMessages.{AreObjects}
use Rattle.rn_report.proofs.showing.json_messages.message_objects.Given as goal

-- the lines of the messages so far
abbrev pub invariant-loop-message : goal.invariant-loop-message
invariant-loop-message l = AreObjects l.pages (take l.message-index l.told.messages.items) (string_bytes l.lines)
