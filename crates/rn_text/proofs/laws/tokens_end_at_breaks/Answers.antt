use Rattle.rn_text.proofs.Cutting.BeforeBreaks.{before_end}
use Rattle.rn_text.proofs.laws.tokens_end_at_breaks.Goals as goal

pub returns : goal.returns
returns c = before_end
