use Rattle.std.proofs.Common.{refl}
use Rattle.rn_rng.proofs.meaning_laws.schemas_have_these_grammars.Goals as goal

pub returns-clause-namespaces : goal.returns-clause-namespaces
returns-clause-namespaces c = refl

pub returns-clause-classes : goal.returns-clause-classes
returns-clause-classes c = refl

pub returns-clause-unbound : goal.returns-clause-unbound
returns-clause-unbound c = refl

pub returns-clause-libraries : goal.returns-clause-libraries
returns-clause-libraries c = refl

pub returns-clause-definitions : goal.returns-clause-definitions
returns-clause-definitions c = refl
