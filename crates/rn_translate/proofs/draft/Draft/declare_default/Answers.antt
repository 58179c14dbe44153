-- Two keywords, and a URI behind them.
use Rattle.std.proofs.Common.{◌∙◌, ◌++◌, sym, subst}
use Rattle.std.proofs.lemmas.Bool.{cond-true, cond-false}
use Rattle.std.proofs.lemmas.Result.{on_ok_weaker}
use Rattle.rn_text.specs.declared.keywords.Keyword.TheVariants as w
use Rattle.rn_text.specs.declared.parts.Kind.TheVariants.{Keyword}
use Rattle.rn_text.specs.Keywords.{spelling}
use Rattle.rn_translate.specs.inside.DraftTokens.{Writes}
use Rattle.rn_translate.specs.TokenTexts.{one_token}
use Rattle.rn_translate.specs.inside.PrintedTerms.{bound_tokens, default_tokens}
use Rattle.rn_translate.proofs.WrittenTokens.{writes_more, writes_nothing}
use Rattle.rn_translate.proofs.draft.Draft.declare_default.Goals as goal

pub returns-then-is-clause-tokens : goal.returns-then-is-clause-tokens
returns-then-is-clause-tokens c = writes_nothing c.args.self.now (default_tokens c.args.uris.now c.args.uri) (cond-true _ _ _ (sym c.is.ensures ∙ c.if-is.true))

pub returns-clause-tokens : goal.returns-clause-tokens
returns-clause-tokens c =
    let word = one_token Keyword (spelling w.Default) in
    let next = one_token Keyword (spelling w.Namespace) in
    let bound = bound_tokens c.args.uris.now c.args.uri in
    let now = c.args.self.now in
    on_ok_weaker c.declare.result
    (λ more. subst (Writes now c.declare.new.self) (sym (cond-false _ _ _ (sym c.is.ensures ∙ c.if-is.false)))
    (writes_more now c.put_keyword.new.self c.declare.new.self word (next ++ bound) c.in_ok-put_keyword.ensures.tokens
    (writes_more c.put_keyword.new.self c.put_keyword-2.new.self c.declare.new.self next bound c.in_ok-put_keyword-2.ensures.tokens more)))
    c.declare.ensures.tokens
