-- A name behind a backslash is one token.
use Rattle.std.proofs.Common.{◌∙◌, ◌<◌, ◌∷◌, true, sym, subst, length, arith}
use Rattle.rn_text.specs.declared.parts.Kind.TheVariants.{Quoted}
use Rattle.rn_translate.specs.Cuts.{HasParts, IsSpelledAs}
use Rattle.rn_translate.specs.TokenTexts.{one_token}
use Rattle.rn_translate.proofs.CutTokens.{quoted_cut, one_part}
use Rattle.rn_translate.proofs.draft.Draft.put_quoted.Goals as goal

pub put_token-requires : goal.put_token-requires
put_token-requires c = subst (HasParts true) (sym (c.as_str.ensures.value ∙ c.in_ok-quoted.ensures.ok)) (one_part (quoted_cut c.args.name.now c.utf8.name c.requires))

pub returns-clause-tokens : goal.returns-clause-tokens
returns-clause-tokens c =
    let is = sym (c.as_str.ensures.value ∙ c.in_ok-quoted.ensures.ok) in
    c.put_token.ensures.tokens (one_token Quoted (92 ∷ c.args.name.now)) (subst (λ x. IsSpelledAs true x (one_token Quoted (92 ∷ c.args.name.now))) is (quoted_cut c.args.name.now c.utf8.name c.requires)) (subst (λ x. 0 < length x) is (omega arith))
