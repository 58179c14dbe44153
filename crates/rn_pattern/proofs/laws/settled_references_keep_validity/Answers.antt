use Rattle.rn_pattern.proofs.Matches.Replacing.{replaced_valid}
use Rattle.rn_pattern.proofs.laws.settled_references_keep_validity.Goals as goal

pub returns : goal.returns
returns c = λ k G start all T doc. replaced_valid T k G all start doc
