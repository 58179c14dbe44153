use Rattle.rn_text.proofs.TokenLists.CutLexemes.{tokens_spelled}
use Rattle.rn_text.proofs.laws.tokens_are_spelled.Goals as goal

pub returns : goal.returns
returns c = tokens_spelled
