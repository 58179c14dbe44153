use Rattle.rn_report.proofs.JsonTexts.{ok_weaker, three_written}
use Rattle.rn_report.proofs.showing.json_messages.write_sentence.Goals as goal

pub returns : goal.returns
returns c = ok_weaker c.write_words.result _ _
    (three_written _ _ _ _ _ _ _ _ _ _ _ c.in_ok-write_text.ensures c.in_ok-write_kind.ensures)
    c.write_words.ensures
