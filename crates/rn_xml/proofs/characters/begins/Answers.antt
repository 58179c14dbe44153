use Rattle.std.proofs.Common.{◌∙◌}
use Rattle.std.specs.Str.{chars}
use Rattle.rn_xml.proofs.Lengths.{begins_if_some}
use Rattle.rn_xml.proofs.characters.begins.Goals as goal

pub returns : goal.returns
returns c = c.is_some.ensures ∙ begins_if_some c.args.c (chars c.args.text.now) c.after_char.result c.after_char.ensures.cases
