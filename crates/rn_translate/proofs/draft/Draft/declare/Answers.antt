-- A sign, and a URI behind it.
use Rattle.std.proofs.Common.{◌++◌}
use Rattle.std.specs.Prelude.{codes}
use Rattle.std.proofs.lemmas.Result.{on_ok_weaker}
use Rattle.rn_text.specs.declared.parts.Kind.TheVariants.{Symbol}
use Rattle.rn_translate.specs.TokenTexts.{one_token}
use Rattle.rn_translate.specs.inside.PrintedTerms.{uri_tokens}
use Rattle.rn_translate.proofs.WrittenTokens.{writes_more, writes_then_none}
use Rattle.rn_translate.proofs.draft.Draft.declare.Goals as goal

pub returns-clause-tokens : goal.returns-clause-tokens
returns-clause-tokens c =
    let sign = one_token Symbol (codes "=") in
    let uri = uri_tokens c.args.uris.now c.args.bound.uri in
    let before = writes_more c.args.self.now c.put_sign.new.self c.put_uri.new.self sign uri c.in_ok-put_sign.ensures.tokens c.in_ok-put_uri.ensures.tokens in
    on_ok_weaker c.put_sign-2.result (writes_then_none c.args.self.now c.put_uri.new.self c.put_sign-2.new.self (sign ++ uri) before) c.put_sign-2.ensures.tokens
