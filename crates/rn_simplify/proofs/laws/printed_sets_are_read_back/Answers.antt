use Rattle.rn_simplify.proofs.Printed.PrintedSets.{printed_read}
use Rattle.rn_simplify.proofs.laws.printed_sets_are_read_back.Goals as goal

pub returns : goal.returns
returns c = printed_read
