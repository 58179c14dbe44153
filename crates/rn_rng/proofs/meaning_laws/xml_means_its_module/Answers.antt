use Rattle.rn_rng.proofs.Meaning.Modules.{module_meaning}
use Rattle.rn_rng.proofs.meaning_laws.xml_means_its_module.Goals as goal

pub returns : goal.returns
returns c = module_meaning
