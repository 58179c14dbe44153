use Rattle.rn_simplify.proofs.Simplified.WellFormed.{normal_well_formed, opened_well_formed}
use Rattle.rn_simplify.proofs.laws.canonical_grammars_are_well_formed.Goals as goal

pub returns-clause-canonical : goal.returns-clause-canonical
returns-clause-canonical c = normal_well_formed

pub returns-clause-opened : goal.returns-clause-opened
returns-clause-opened c = opened_well_formed
