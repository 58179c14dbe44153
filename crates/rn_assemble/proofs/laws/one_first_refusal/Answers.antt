use Rattle.rn_assemble.proofs.Refusals.OneRefusal.{one_first}
use Rattle.rn_assemble.proofs.Refusals.OneSet.{first_of_set, one_assembled}
use Rattle.rn_syntax.proofs.OneReading.OneTree.{one_tree}
use Rattle.rn_assemble.proofs.laws.one_first_refusal.Goals as goal

pub returns-clause-of_modules : goal.returns-clause-of_modules
returns-clause-of_modules c = one_first

pub returns-clause-of_sets : goal.returns-clause-of_sets
returns-clause-of_sets c = first_of_set one_tree

pub returns-clause-one_grammar : goal.returns-clause-one_grammar
returns-clause-one_grammar c = one_assembled one_tree
