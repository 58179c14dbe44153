-- A keyword is one token.
use Rattle.std.proofs.Common.{◌≡◌, ◌∙◌, true, List, sym, ap, subst}
use Rattle.std.specs.Prelude.{OnOk}
use Rattle.std.specs.Str.{chars}
use Rattle.rn_text.specs.Characters.{is_ncname}
use Rattle.rn_translate.specs.Spelled.{Spelled}
use Rattle.rn_translate.specs.inside.DraftTokens.{Writes}
use Rattle.rn_translate.specs.TokenTexts.{word_token}
use Rattle.rn_translate.proofs.CutTokens.{keyword_name, keyword_token_is}
use Rattle.rn_translate.proofs.draft.Draft.put_keyword.Goals as goal

pub put_word-requires : goal.put_word-requires
put_word-requires c = subst (λ x. is_ncname (chars x) ≡ true) (sym c.keyword_text.ensures) (keyword_name c.args.keyword)

pub returns-clause-tokens : goal.returns-clause-tokens
returns-clause-tokens c = subst (λ (ts : List Spelled). OnOk c.put_word.result (Writes c.args.self.now c.put_word.new.self ts))
    (ap word_token c.keyword_text.ensures ∙ keyword_token_is c.args.keyword) c.put_word.ensures.tokens
