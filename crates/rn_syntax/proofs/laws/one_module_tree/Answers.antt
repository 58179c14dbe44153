use Rattle.rn_syntax.proofs.OneReading.OneTree.{one_tree}
use Rattle.rn_syntax.proofs.laws.one_module_tree.Goals as goal

pub returns : goal.returns
returns c = one_tree
