use Rattle.std.proofs.Common.{List, subst, sym, map}
use Rattle.std.proofs.lemmas.Result.{err_from_is_err_and}
use Rattle.std.specs.Str.{IsUtf8, chars}
use Rattle.rn_text.specs.Tokens.{HasTokens, lexeme_of}
use Rattle.rn_text.specs.declared.source.Token.{Token}
use Rattle.rn_syntax.specs.View.{module_view}
use Rattle.rn_merge.proofs.FaultsOfTexts.TokenFaults.{tokens_of, has_place}
use Rattle.rn_merge.proofs.text_faults.check.Goals as goal

pub returns-in_err-parse-clause-err : goal.returns-in_err-parse-clause-err
returns-in_err-parse-clause-err c =
    let p = err_from_is_err_and c.from_residual-in_err-parse.result c.from_residual-in_err-parse.ensures.1 in
    let h = subst (λ (l : List Token). IsUtf8 c.args.text.now × HasTokens (chars c.args.text.now) (map lexeme_of l)) (sym c.as_slice.ensures.value) c.in_ok-tokens.ensures in
    rw (p.1) (has_place c.args.text.now c.as_slice.result.now c.in_err-parse.field-0.0 p.0 p.2 (tokens_of c.args.text.now c.as_slice.result.now h) c.in_err-parse.ensures.fault)

pub returns-clause-ok : goal.returns-clause-ok
returns-clause-ok c =
    let h = subst (λ (l : List Token). IsUtf8 c.args.text.now × HasTokens (chars c.args.text.now) (map lexeme_of l)) (sym c.as_slice.ensures.value) c.in_ok-tokens.ensures in
    let t = tokens_of c.args.text.now c.as_slice.result.now h in
    (c.as_slice.result.now, module_view c.in_ok-parse.field-0, t, c.in_ok-parse.ensures.shallow, c.in_ok-parse.ensures.tree t.are_spelled, c.in_ok-parse.ensures.sound)
