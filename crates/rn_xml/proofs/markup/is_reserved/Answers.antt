use Rattle.rn_xml.proofs.MarkupPieces.{target, no_target}
use Rattle.rn_xml.proofs.markup.is_reserved.Goals as goal

pub returns-clause-target : goal.returns-clause-target
returns-clause-target c = target c.args.name.now c.eq_ignore_ascii_case.result c.utf8.name c.requires c.eq_ignore_ascii_case.ensures.test

pub returns-clause-reserved : goal.returns-clause-reserved
returns-clause-reserved c = no_target c.args.name.now c.eq_ignore_ascii_case.result c.utf8.name c.eq_ignore_ascii_case.ensures.test
