use Rattle.rn_syntax.proofs.TokenKinds.SourceTokens.{tokens_are_spelled}
use Rattle.rn_syntax.proofs.laws.tokens_of_texts_are_spelled.Goals as goal

pub returns : goal.returns
returns c = tokens_are_spelled
