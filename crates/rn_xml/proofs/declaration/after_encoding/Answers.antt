use Rattle.rn_xml.specs.XmlDocuments as d
use Rattle.rn_xml.specs.inside.Rests.{source}
use Rattle.rn_xml.proofs.Decoding.DeclarationParts.{encoding_read}
use Rattle.std.proofs.Common.{sym, ◌∙◌}
use Rattle.std.proofs.lemmas.Bool.{true≢false}
use Rattle.rn_xml.proofs.Refusals.RefusedDeclarations.{encoding_none, encoding_some, encoding_wrong}
use Rattle.rn_xml.proofs.declaration.after_encoding.Goals as goal

pub returns-in-None-clause-encoding : goal.returns-in-None-clause-encoding
returns-in-None-clause-encoding c = d.MayDeclareEncoding.none

pub returns-in-Some-clause-encoding : goal.returns-in-Some-clause-encoding
returns-in-Some-clause-encoding c =
    encoding_read (source c.args.text.now) (source c.in-Some.field.value.now) (source c.in-Some.field.rest.now) c.in-Some.ensures.field (c.is_encoding_name.ensures.0 c.if-is_encoding_name.true)

pub returns-in-None-clause-only : goal.returns-in-None-clause-only
returns-in-None-clause-only c = λ rest. encoding_none (source c.args.text.now) rest c.in-None.ensures.only

pub returns-in-Some-clause-only : goal.returns-in-Some-clause-only
returns-in-Some-clause-only c = encoding_some (source c.args.text.now) (source c.in-Some.field.value.now) (source c.in-Some.field.rest.now) c.in-Some.ensures.field c.in-Some.ensures.only

pub returns-in-Some-2-clause-only : goal.returns-in-Some-2-clause-only
returns-in-Some-2-clause-only c = encoding_wrong (source c.args.text.now) (source c.in-Some.field.value.now) (source c.in-Some.field.rest.now) c.in-Some.ensures.field c.in-Some.ensures.only
    (λ n. true≢false (sym (c.is_encoding_name.ensures.1 n) ∙ c.if-is_encoding_name.false))
