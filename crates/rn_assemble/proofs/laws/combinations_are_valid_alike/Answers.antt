use Rattle.rn_assemble.proofs.Combined.Combinations.{combined_valid}
use Rattle.rn_assemble.proofs.laws.combinations_are_valid_alike.Goals as goal

pub returns : goal.returns
returns c = λ cs C k T doc. combined_valid T cs C k doc
