use Rattle.rn_rng.proofs.Documents.Modules.{text_spellable}
use Rattle.rn_rng.proofs.Documents.Whole.{xml_is_a_document}
use Rattle.rn_rng.specs.Translation.{xml_of}
use Rattle.rn_rng.proofs.laws.modules_are_documents.Goals as goal

pub returns-clause-spellable : goal.returns-clause-spellable
returns-clause-spellable c = text_spellable

pub returns-clause-document : goal.returns-clause-document
returns-clause-document c = λ cs tokens m has tree. xml_is_a_document (xml_of m) (text_spellable cs tokens m has tree)
