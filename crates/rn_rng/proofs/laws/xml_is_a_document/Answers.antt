use Rattle.rn_rng.proofs.Documents.Whole.{xml_is_a_document}
use Rattle.rn_rng.proofs.laws.xml_is_a_document.Goals as goal

pub returns : goal.returns
returns c = xml_is_a_document
