-- A name with a prefix is one token.
use Rattle.std.proofs.Common.{◌∙◌, ◌<◌, ◌∷◌, ◌++◌, true, sym, subst, length, length-append, arith}
use Rattle.rn_text.specs.declared.parts.Kind.TheVariants.{Prefixed}
use Rattle.rn_translate.specs.Cuts.{HasParts, IsSpelledAs}
use Rattle.rn_translate.specs.TokenTexts.{one_token}
use Rattle.rn_translate.proofs.CutTokens.{prefixed_cut, one_part}
use Rattle.rn_translate.proofs.draft.Draft.put_prefixed.Goals as goal

pub put_token-requires : goal.put_token-requires
put_token-requires c = subst (HasParts true) (sym (c.as_str.ensures.value ∙ c.in_ok-prefixed.ensures.ok)) (one_part (prefixed_cut c.args.prefix.now c.args.local.now c.utf8.prefix c.utf8.local c.requires.prefix c.requires.local))

pub returns-clause-tokens : goal.returns-clause-tokens
returns-clause-tokens c =
    let is = sym (c.as_str.ensures.value ∙ c.in_ok-prefixed.ensures.ok) in
    c.put_token.ensures.tokens (one_token Prefixed (c.args.prefix.now ++ 58 ∷ c.args.local.now)) (subst (λ x. IsSpelledAs true x (one_token Prefixed (c.args.prefix.now ++ 58 ∷ c.args.local.now))) is (prefixed_cut c.args.prefix.now c.args.local.now c.utf8.prefix c.utf8.local c.requires.prefix c.requires.local)) (subst (λ x. 0 < length x) is (omega (arith, length-append c.args.prefix.now (58 ∷ c.args.local.now))))
