use Rattle.std.proofs.Common.{IfOk, sym, subst}
use Rattle.rn_flat.specs.JobResults.{IsFlatSchema, IsSchemaIn}
use Rattle.rn_flat.proofs.Schemas.{as_xml}
use Rattle.rn_flat.proofs.jobs.spelled.Goals as goal

pub returns-in-Xml : goal.returns-in-Xml
returns-in-Xml c =
    let is = subst IsFlatSchema (sym c.as_str.ensures.value) c.requires in
    subst (λ s. IfOk c.xml_bytes.result (λ text. IsSchemaIn s text.items)) (sym c.in-Xml.is) (as_xml c.xml_bytes.result (λ text. text.items) c.as_str.result.now is c.xml_bytes.ensures)
