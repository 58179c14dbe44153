use Rattle.rn_assemble.proofs.Joining.SomeCombination.{some_combination}
use Rattle.rn_assemble.proofs.laws.components_have_a_combination.Goals as goal

pub returns : goal.returns
returns c = some_combination
