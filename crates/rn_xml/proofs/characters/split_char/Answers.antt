use Rattle.rn_xml.proofs.Lengths.{char_shorter}
use Rattle.rn_xml.proofs.characters.split_char.Goals as goal

pub returns-clause-shorter : goal.returns-clause-shorter
returns-clause-shorter c = char_shorter c.args.text.now c.split_first.result c.utf8.text c.split_first.ensures.cases c.split_first.ensures.utf8
