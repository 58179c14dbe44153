-- A sign is its tokens.
use Rattle.std.proofs.Common.{◌≡◌, ◌∙◌, ◌++◌, ap, append-nil, subst, sym}
use Rattle.std.specs.Prelude.{string_bytes}
use Rattle.rn_translate.specs.Cuts.{IsSpelledAs}
use Rattle.rn_translate.specs.inside.SignTokens.{sign_tokens}
use Rattle.rn_translate.proofs.CutTokens.{one_part}
use Rattle.rn_translate.proofs.draft.Draft.put_sign.Goals as goal

pub put-requires-clause-parts : goal.put-requires-clause-parts
put-requires-clause-parts c = one_part c.text.ensures.sign.spelled_as

pub returns-in-Nothing-clause-tokens : goal.returns-in-Nothing-clause-tokens
returns-in-Nothing-clause-tokens c = λ before is.
    let now = c.args.self.now in
    let none : before ≡ before ++ sign_tokens c.args.sign = sym (append-nil before) ∙ ap (λ ts. before ++ ts) (sym (ap sign_tokens c.in-Nothing.is)) in
    subst (IsSpelledAs now.is_open (string_bytes now.text)) none is

pub returns-in_default-clause-tokens : goal.returns-in_default-clause-tokens
returns-in_default-clause-tokens c = c.put.ensures.tokens (sign_tokens c.args.sign) c.text.ensures.sign.spelled_as (c.text.ensures.some c.in_default.not-Nothing)
