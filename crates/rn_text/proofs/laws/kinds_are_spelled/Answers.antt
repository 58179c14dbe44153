use Rattle.rn_text.proofs.Cutting.BeforeBreaks.{spelled_is, is_spelled}
use Rattle.rn_text.proofs.laws.kinds_are_spelled.Goals as goal

pub returns : goal.returns
returns c = λ kind cs. (spelled_is kind cs, is_spelled kind cs)
