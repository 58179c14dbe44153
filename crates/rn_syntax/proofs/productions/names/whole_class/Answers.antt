-- One name before `{` is a class; any other class is read with its box, and taken out of it.
use Rattle.rn_syntax.proofs.ProductionsRead.Compose.{one_on}
use Rattle.rn_syntax.proofs.productions.names.whole_class.Goals as goal

pub returns-in-Some-clause-inside : goal.returns-in-Some-clause-inside
returns-in-Some-clause-inside c = one_on c.in-Some.ensures.inside
