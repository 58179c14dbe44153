use Rattle.rn_text.proofs.TokenLists.CutLexemes.{tokens_in_order}
use Rattle.rn_text.proofs.laws.tokens_stand_in_order.Goals as goal

pub returns : goal.returns
returns c = tokens_in_order
