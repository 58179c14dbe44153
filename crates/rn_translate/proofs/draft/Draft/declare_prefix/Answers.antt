-- A keyword, a prefix, and a URI behind them.
use Rattle.std.proofs.Common.{◌∙◌, ◌++◌, subst}
use Rattle.std.proofs.lemmas.Result.{on_ok_weaker}
use Rattle.rn_text.specs.declared.parts.Kind.TheVariants.{Keyword}
use Rattle.rn_text.specs.Keywords.{spelling}
use Rattle.rn_translate.specs.inside.DraftTokens.{Writes}
use Rattle.rn_translate.specs.TokenTexts.{one_token, word_token}
use Rattle.rn_translate.specs.inside.PrintedTerms.{bound_tokens}
use Rattle.rn_translate.specs.TokenTexts.{numbered_bytes}
use Rattle.rn_translate.proofs.WrittenTokens.{writes_more}
use Rattle.rn_translate.proofs.draft.Draft.declare_prefix.Goals as goal

pub returns-clause-tokens : goal.returns-clause-tokens
returns-clause-tokens c =
    let word = one_token Keyword (spelling c.args.keyword) in
    let name = word_token (numbered_bytes c.args.letter c.args.number) in
    let bound = bound_tokens c.args.uris.now c.args.bound.uri in
    let prefix = subst (λ x. Writes c.put_keyword.new.self c.put_word.new.self (word_token x)) (c.as_str.ensures.value ∙ c.in_ok-prefix.ensures.text) c.in_ok-put_word.ensures.tokens in
    on_ok_weaker c.declare.result
    (λ more. writes_more c.args.self.now c.put_keyword.new.self c.declare.new.self word (name ++ bound) c.in_ok-put_keyword.ensures.tokens
    (writes_more c.put_keyword.new.self c.put_word.new.self c.declare.new.self name bound prefix more))
    c.declare.ensures.tokens
