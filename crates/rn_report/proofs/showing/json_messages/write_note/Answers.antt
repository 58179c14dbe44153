use Rattle.rn_report.proofs.JsonTexts.{ok_weaker, three_written}
use Rattle.rn_report.proofs.showing.json_messages.write_note.Goals as goal

pub returns : goal.returns
returns c = ok_weaker c.write_number.result _ _
    (three_written _ _ _ _ _ _ _ _ _ _ _ c.in_ok-write_text.ensures c.in_ok-write_further.ensures)
    c.write_number.ensures
