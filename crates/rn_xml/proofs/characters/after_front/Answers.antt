use Rattle.rn_xml.proofs.AsciiFronts.{front_chars_stripped}
use Rattle.rn_xml.proofs.Lengths.{front_shorter}
use Rattle.rn_xml.proofs.characters.after_front.Goals as goal

pub returns-clause-cases : goal.returns-clause-cases
returns-clause-cases c = front_chars_stripped _ _ _ c.utf8.text c.requires.ascii c.strip_prefix.ensures.cases

pub returns-clause-shorter : goal.returns-clause-shorter
returns-clause-shorter c = front_shorter _ _ _ c.requires.some c.strip_prefix.ensures.cases
