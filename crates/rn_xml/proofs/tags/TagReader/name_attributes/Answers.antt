use Rattle.std.proofs.Common.{◌∙◌, refl, arith}
use Rattle.rn_xml.proofs.NamedAttributes.{none_there, names_none, names_more, tag_named, row_count, rest_more}
use Rattle.std.proofs.lemmas.Result.{err_from_is_err_and}
use Rattle.rn_xml.proofs.Refusals.RefusedTagNames.{tag_unnamed}
use Rattle.rn_xml.proofs.tags.TagReader.name_attributes.Goals as goal

pub loop-index-init : goal.loop-index-init
loop-index-init c = (refl, refl, refl, λ low. names_none c.args.self.now c.args.first c.new-seen.result (none_there c.new-seen.result c.new-seen.ensures.empty) low, refl)

pub loop-index-preserved : goal.loop-index-preserved
loop-index-preserved c = (
  c.name_attribute.ensures.same ∙ c.loop-index.invariant.0,
  c.name_attribute.ensures.elements ∙ c.loop-index.invariant.1,
  row_count c.loop-index.self c.name_attribute.new.self c.loop-index.index c.loop-index.seen c.name_attribute.new.seen c.in_ok-name_attribute.ensures.named ∙ c.loop-index.invariant.2,
  λ low. names_more c.args.self.now c.loop-index.self c.name_attribute.new.self c.args.first c.loop-index.index c.loop-index.seen c.name_attribute.new.seen (c.loop-index.invariant.3 low) c.in_ok-name_attribute.ensures.named,
  rest_more c.args.self.now.tables.document c.loop-index.self.tables.document c.name_attribute.new.self.tables.document c.loop-index.invariant.4 c.name_attribute.ensures.rest,
)

pub name_attribute-requires : goal.name_attribute-requires
name_attribute-requires c = omega (arith, c.loop-index-test.true, c.loop-index.invariant.2, c.attribute_count-index-end.ensures)

pub returns-clause-named : goal.returns-clause-named
returns-clause-named c = λ r outer declarations written has is.
    tag_named r c.args.self.now c.loop-index.self outer c.args.first c.loop-index.index declarations written c.loop-index.seen has is c.loop-index.invariant.3
    (omega (arith, c.loop-index-test.false, c.attribute_count-index-end.ensures, c.args.self.now.tables.document.attributes.ok.0))

pub returns-in_err-name_attribute-clause-refused : goal.returns-in_err-name_attribute-clause-refused
returns-in_err-name_attribute-clause-refused c =
    let p = err_from_is_err_and c.from_residual.result c.from_residual.ensures.1 in
    rw (p.1, p.2) (λ own r outer declarations written has is may. tag_unnamed r c.args.self.now c.loop-index.self c.name_attribute.new.self outer c.args.first c.loop-index.index declarations written c.loop-index.seen has is may
    c.loop-index.invariant.3 (c.in_err-name_attribute.ensures.refused own))
