use Rattle.rn_syntax.proofs.OneReading.OneTree.{one_tree}
use Rattle.rn_simplify.proofs.Printed.OneVerdict.{one_verdict}
use Rattle.rn_simplify.proofs.laws.one_verdict.Goals as goal

pub returns : goal.returns
returns c = one_verdict one_tree
