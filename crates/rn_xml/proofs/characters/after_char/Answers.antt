use Rattle.rn_text.proofs.Words.CharacterRuns.{starts_char_chars}
use Rattle.rn_xml.proofs.Lengths.{strip_shorter}
use Rattle.rn_xml.proofs.characters.after_char.Goals as goal

pub returns-clause-cases : goal.returns-clause-cases
returns-clause-cases c = starts_char_chars _ _ _ c.utf8.text c.requires c.strip_prefix.ensures.cases

pub returns-clause-shorter : goal.returns-clause-shorter
returns-clause-shorter c = strip_shorter _ _ _ c.strip_prefix.ensures.cases
