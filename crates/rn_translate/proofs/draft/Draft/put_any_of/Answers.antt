-- All names of a namespace are one token.
use Rattle.std.proofs.Common.{◌∙◌, ◌<◌, ◌++◌, false, sym, subst, length, length-append, arith}
use Rattle.std.specs.Prelude.{codes}
use Rattle.rn_text.specs.declared.parts.Kind.TheVariants.{AnyOf}
use Rattle.rn_translate.specs.Cuts.{HasParts, IsSpelledAs}
use Rattle.rn_translate.specs.TokenTexts.{one_token}
use Rattle.rn_translate.proofs.CutTokens.{any_of_cut, one_part}
use Rattle.rn_translate.proofs.draft.Draft.put_any_of.Goals as goal

pub put_token-requires : goal.put_token-requires
put_token-requires c = subst (HasParts false) (sym (c.as_str.ensures.value ∙ c.in_ok-any.ensures.ok)) (one_part (any_of_cut c.args.prefix.now c.utf8.prefix c.requires))

pub returns-clause-tokens : goal.returns-clause-tokens
returns-clause-tokens c =
    let is = sym (c.as_str.ensures.value ∙ c.in_ok-any.ensures.ok) in
    c.put_token.ensures.tokens (one_token AnyOf (c.args.prefix.now ++ codes ":*")) (subst (λ x. IsSpelledAs false x (one_token AnyOf (c.args.prefix.now ++ codes ":*"))) is (any_of_cut c.args.prefix.now c.utf8.prefix c.requires)) (subst (λ x. 0 < length x) is (omega (arith, length-append c.args.prefix.now (codes ":*"))))
