use Rattle.rn_report.proofs.PrintedTexts.{next_text}
use Rattle.rn_report.proofs.report.message_lines.Goals as goal

pub loop-message-preserved : goal.loop-message-preserved
loop-message-preserved c =
    let more = c.in_ok-push_message.ensures in
    next_text c.args.pages.now c.args.colours c.args.told.now.messages.items c.deref-message-items.result.now c.loop-message.message-index
    c.message-item.result _ more.0 _ c.deref-message-items.ensures.value c.loop-message-test.true c.message-item.is
    c.loop-message.invariant more.1 more.2
