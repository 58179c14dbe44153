use Rattle.rn_simplify.proofs.ReadBack.Binding.{spelling_reads_back}
use Rattle.rn_simplify.proofs.laws.spelling_reads_back.Goals as goal

pub returns : goal.returns
returns c = spelling_reads_back
