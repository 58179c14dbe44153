use Rattle.rn_assemble.proofs.WellFormed.GoodComponents.{set_grammar_writable}
use Rattle.rn_assemble.proofs.Refusals.NoRefusal.{assembled_well_formed}
use Rattle.rn_assemble.proofs.laws.grammars_of_sets_are_well_formed.Goals as goal

pub returns-clause-writable : goal.returns-clause-writable
returns-clause-writable c = set_grammar_writable

pub returns-clause-well_formed : goal.returns-clause-well_formed
returns-clause-well_formed c = assembled_well_formed
