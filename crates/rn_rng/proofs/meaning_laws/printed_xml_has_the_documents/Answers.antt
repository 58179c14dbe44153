use Rattle.rn_rng.proofs.Meaning.PrintedSchemas.{printed_valid}
use Rattle.rn_rng.proofs.meaning_laws.printed_xml_has_the_documents.Goals as goal

pub returns : goal.returns
returns c = printed_valid
