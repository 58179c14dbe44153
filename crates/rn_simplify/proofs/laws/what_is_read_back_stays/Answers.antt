use Rattle.rn_simplify.proofs.ReadBack.ReadAgain.{read_canonical, read_only, read_well_formed, none_stands}
use Rattle.rn_simplify.proofs.laws.what_is_read_back_stays.Goals as goal

pub returns-clause-same : goal.returns-clause-same
returns-clause-same c = λ G N k r. read_canonical N r G k

pub returns-clause-no_other : goal.returns-clause-no_other
returns-clause-no_other c = λ G N M k r. read_only N r G k M

pub returns-clause-well_formed : goal.returns-clause-well_formed
returns-clause-well_formed c = λ G N k w r. read_well_formed N r G k w

pub returns-clause-no_refusal : goal.returns-clause-no_refusal
returns-clause-no_refusal c = none_stands
