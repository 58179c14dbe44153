-- The token is the keyword's spelling.
use Rattle.std.proofs.Common.{◌∙◌, subst}
use Rattle.std.specs.Str.{IsUtf8}
use Rattle.rn_syntax.proofs.TokenKinds.KeywordTexts.{text_is}
use Rattle.rn_syntax.proofs.productions.terminals.keyword_text.Goals as goal

pub returns : goal.returns
returns c = c.text_of.ensures ∙ text_is c.args.tokens.now c.args.at _ c.args.keyword c.requires.inside (subst IsUtf8 c.text_of.ensures c.text_of.utf8) c.requires.is
