use Rattle.rn_text.proofs.Words.CharacterRuns.{ends_char_chars}
use Rattle.rn_text.proofs.literals.before_char.Goals as goal

pub returns-clause-cases : goal.returns-clause-cases
returns-clause-cases c = ends_char_chars c.args.text.now c.args.c c.strip_suffix.result c.utf8.text c.requires c.strip_suffix.ensures.cases
