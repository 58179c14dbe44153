use Rattle.rn_syntax.proofs.OneReading.OneTree.{one_tree}
use Rattle.rn_simplify.proofs.Printed.PrintedAgain.{printed_again}
use Rattle.rn_simplify.proofs.laws.printed_texts_are_printed_again.Goals as goal

pub returns : goal.returns
returns c = printed_again one_tree
