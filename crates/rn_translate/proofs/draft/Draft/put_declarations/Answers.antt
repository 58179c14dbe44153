-- The default namespace, namespaces and libraries.
use Rattle.std.proofs.Common.{◌++◌}
use Rattle.std.proofs.lemmas.Result.{on_ok_weaker}
use Rattle.rn_text.specs.declared.keywords.Keyword.TheVariants as w
use Rattle.rn_translate.specs.inside.PrintedTerms.{default_tokens, prefixes_tokens}
use Rattle.rn_translate.proofs.WrittenTokens.{writes_more}
use Rattle.rn_translate.proofs.draft.Draft.put_declarations.Goals as goal

pub returns-clause-tokens : goal.returns-clause-tokens
returns-clause-tokens c =
    let d = c.args.declared.now in
    let first = default_tokens d.uris.now d.default in
    let names = prefixes_tokens d.uris.now w.Namespace 110 0 d.namespaces.bound.items in
    let types = prefixes_tokens d.uris.now w.Datatypes 100 0 d.libraries.bound.items in
    let last = c.declare_all-2.new.self in
    on_ok_weaker c.declare_all-2.result
    (λ more. writes_more c.args.self.now c.declare_default.new.self last first (names ++ types) c.in_ok-declare_default.ensures.tokens
    (writes_more c.declare_default.new.self c.declare_all.new.self last names types c.in_ok-declare_all.ensures.tokens more))
    c.declare_all-2.ensures.tokens
