use Rattle.std.proofs.Common.{◌∙◌, sym}
use Rattle.rn_xml.proofs.Refusals.RefusedDocuments.{empty_no_tag}
use Rattle.rn_xml.proofs.reader.unclosed.Goals as goal

pub returns-then-is_empty-clause-no_tag : goal.returns-then-is_empty-clause-no_tag
returns-then-is_empty-clause-no_tag c = empty_no_tag c.args.rest.now (sym c.is_empty.ensures ∙ c.if-is_empty.true)
