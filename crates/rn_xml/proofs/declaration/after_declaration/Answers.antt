use Rattle.rn_xml.specs.XmlDocuments as d
use Rattle.rn_xml.specs.inside.Rests.{source}
use Rattle.rn_xml.proofs.Refusals.RefusedDeclarations.{no_declaration, inside_only, inside_refused}
use Rattle.rn_xml.proofs.declaration.after_declaration.Goals as goal

pub returns-in_default-clause-declared : goal.returns-in_default-clause-declared
returns-in_default-clause-declared c = d.MayDeclare.none

pub returns-in_default-clause-only : goal.returns-in_default-clause-only
returns-in_default-clause-only c = no_declaration (source c.args.text.now) c.in_default.ensures.front

pub returns-clause-only : goal.returns-clause-only
returns-clause-only c = inside_only (source c.args.text.now) (source c.in-Some.inside.now) c.in-Some.ensures.front c.in-Some.ensures.ends c.after_inside.result c.ok_or.result c.ok_or.ensures.ok_part c.after_inside.ensures.only

pub returns-clause-refused : goal.returns-clause-refused
returns-clause-refused c = inside_refused (source c.args.text.now) (source c.in-Some.inside.now) c.in-Some.ensures.front c.in-Some.ensures.ends c.after_inside.result c.ok_or.result c.ok_or.ensures.ok_part c.after_inside.ensures.only
