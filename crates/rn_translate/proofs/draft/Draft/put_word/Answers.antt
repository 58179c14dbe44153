-- A name is one token.
use Rattle.rn_translate.proofs.CutTokens.{one_part, word_cut}
use Rattle.rn_translate.proofs.WrittenTokens.{name_some}
use Rattle.rn_translate.specs.TokenTexts.{word_token}
use Rattle.rn_translate.proofs.draft.Draft.put_word.Goals as goal

pub put_token-requires : goal.put_token-requires
put_token-requires c = one_part (word_cut c.args.word.now c.utf8.word c.requires)

pub returns-clause-tokens : goal.returns-clause-tokens
returns-clause-tokens c = c.put_token.ensures.tokens (word_token c.args.word.now) (word_cut c.args.word.now c.utf8.word c.requires) (name_some c.args.word.now c.requires)
