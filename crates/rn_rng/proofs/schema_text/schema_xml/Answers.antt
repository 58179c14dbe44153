use Rattle.std.proofs.Common.{◌≢◌}
use Rattle.std.specs.Prelude.{string_bytes}
use Rattle.rn_syntax.specs.View.{module_view}
use Rattle.rn_rng.specs.declared.xml_fault.XmlFault.TheVariants.{NoSchema}
use Rattle.rn_rng.specs.Written.{HasNoXml, IsUnwritten, IsXmlOf}
use Rattle.rn_rng.proofs.Finished.{err_from, if_err, if_ok}
use Rattle.rn_rng.proofs.SchemaTexts.{no_refusal, no_xml_of_text, unread, xml_of_text}
use Rattle.rn_rng.proofs.schema_text.schema_xml.Goals as goal

pub returns-in_err-tokens-clause-err : goal.returns-in_err-tokens-clause-err
returns-in_err-tokens-clause-err c =
    let q = c.in_err-tokens.field-0.0 in
    err_from (HasNoXml c.args.text.now) c.from_residual.result q c.from_residual.ensures.1 (unread c.args.text.now q c.in_err-tokens.ensures)

pub returns-in_err-tokens-clause-printed : goal.returns-in_err-tokens-clause-printed
returns-in_err-tokens-clause-printed c = λ set v.
    let q = c.in_err-tokens.field-0.0 in
    err_from (λ e. e ≢ NoSchema) c.from_residual.result q c.from_residual.ensures.1 (no_refusal c.args.text.now q (unread c.args.text.now q c.in_err-tokens.ensures) set v)

pub returns-in_err-module-clause-err : goal.returns-in_err-module-clause-err
returns-in_err-module-clause-err c =
    let q = c.in_err-module.field-0.0 in
    err_from (HasNoXml c.args.text.now) c.from_residual-in_err-module.result q c.from_residual-in_err-module.ensures.1 (unread c.args.text.now q c.in_err-module.ensures)

pub returns-in_err-module-clause-printed : goal.returns-in_err-module-clause-printed
returns-in_err-module-clause-printed c = λ set v.
    let q = c.in_err-module.field-0.0 in
    err_from (λ e. e ≢ NoSchema) c.from_residual-in_err-module.result q c.from_residual-in_err-module.ensures.1 (no_refusal c.args.text.now q (unread c.args.text.now q c.in_err-module.ensures) set v)

pub returns : goal.returns
returns c =
    let text = c.args.text.now in
    let m = module_view c.in_ok-module.«module» in
    let read = c.in_ok-module.ensures in
    record {
      ok = if_ok _ (λ t. IsXmlOf text (string_bytes t)) (λ t h. xml_of_text text m read (string_bytes t) h) c.module_xml.result c.module_xml.ensures.ok;
      err = if_err (IsUnwritten m) (HasNoXml text) (no_xml_of_text text m read) c.module_xml.result c.module_xml.ensures.err;
      printed = λ set v. if_err (IsUnwritten m) (λ e. e ≢ NoSchema) (λ e h. no_refusal text e (no_xml_of_text text m read e h) set v) c.module_xml.result c.module_xml.ensures.err;
    }
