use Rattle.rn_report.proofs.JsonTexts.{next_object}
use Rattle.rn_report.proofs.showing.json_messages.message_objects.Goals as goal

pub loop-message-preserved : goal.loop-message-preserved
loop-message-preserved c =
    next_object c.args.pages.now c.args.told.now.messages.items c.deref-message-items.result.now c.loop-message.message-index
    c.message-item.result _ _ c.deref-message-items.ensures.value c.loop-message-test.true c.message-item.is
    c.loop-message.invariant c.in_ok-push_object.ensures
