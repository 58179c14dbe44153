-- The class of all names is one token.
use Rattle.std.proofs.Common.{arith}
use Rattle.rn_translate.proofs.CutSigns.{star_cut}
use Rattle.rn_translate.proofs.CutTokens.{one_part}
use Rattle.rn_translate.specs.inside.SignTokens.{symbol_token}
use Rattle.std.specs.Prelude.{codes}
use Rattle.rn_translate.proofs.draft.Draft.put_any_name.Goals as goal

pub put_token-requires : goal.put_token-requires
put_token-requires c = one_part star_cut

pub returns-clause-tokens : goal.returns-clause-tokens
returns-clause-tokens c = c.put_token.ensures.tokens (symbol_token (codes "*")) star_cut (omega arith)
