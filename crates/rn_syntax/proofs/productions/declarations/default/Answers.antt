use Rattle.std.proofs.Common.{◌+◌, refl}
use Rattle.std.proofs.lemmas.Result.{err_from_is_err_and}
use Rattle.rn_syntax.proofs.ProductionsRead.Compose.{on_fault, took_upto, stuck_upto, token_took}
use Rattle.rn_text.specs.declared.keywords.Keyword.TheVariants as k
use Rattle.rn_syntax.specs.Terminal.{keyword}
use Rattle.rn_syntax.proofs.ProductionsRead.Compose.{upto_then}
use Rattle.rn_syntax.proofs.ProductionsRead.Declared.{default_namespace, default_upto, default_prefix_stuck, default_prefix_upto, end_equals, end_uri, end_took}
use Rattle.rn_syntax.proofs.ProductionsRead.Next.{terminal_at}
use Rattle.rn_syntax.proofs.productions.declarations.default.Goals as goal

pub returns-then-not-is_keyword-clause-reads : goal.returns-then-not-is_keyword-clause-reads
returns-then-not-is_keyword-clause-reads c = λ s. default_namespace c.args.start c.if-not-is_keyword.ensures.is

pub returns-in_err-prefix-clause-reads : goal.returns-in_err-prefix-clause-reads
returns-in_err-prefix-clause-reads c =
    let here = terminal_at c.args.tokens.now c.args.at (keyword k.Namespace) (c.if-not-is_keyword.ensures.inside refl) c.if-not-is_keyword.ensures.is in
    let p = err_from_is_err_and c.from_residual.result c.from_residual.ensures.1 in
    rw (p.1, p.2) (on_fault c.args.tokens.now (c.args.at + 1) c.args.at _ (λ s bad k. stuck_upto (default_upto c.args.start (token_took here.1)) (default_prefix_stuck c.args.start here.0 k)) c.in_err-prefix.ensures.reads)

pub returns-in_err-value-clause-reads : goal.returns-in_err-value-clause-reads
returns-in_err-value-clause-reads c =
    let here = terminal_at c.args.tokens.now c.args.at (keyword k.Namespace) (c.if-not-is_keyword.ensures.inside refl) c.if-not-is_keyword.ensures.is in
    let p = err_from_is_err_and c.from_residual-in_err-value.result c.from_residual-in_err-value.ensures.1 in
    rw (p.1, p.2) (on_fault c.args.tokens.now c.in_ok-prefix.behind c.args.at _ (λ s bad k. stuck_upto (upto_then (default_upto c.args.start (token_took here.1)) (default_prefix_upto c.args.start here.0 (c.in_ok-prefix.ensures.reads s))) (end_equals _ k)) c.in_err-value.ensures.passes)

pub returns-in_err-uri-clause-reads : goal.returns-in_err-uri-clause-reads
returns-in_err-uri-clause-reads c =
    let here = terminal_at c.args.tokens.now c.args.at (keyword k.Namespace) (c.if-not-is_keyword.ensures.inside refl) c.if-not-is_keyword.ensures.is in
    let p = err_from_is_err_and c.from_residual-in_err-uri.result c.from_residual-in_err-uri.ensures.1 in
    rw (p.1, p.2) (on_fault c.args.tokens.now c.in_ok-value.value c.args.at _ (λ s bad k. stuck_upto (upto_then (default_upto c.args.start (token_took here.1)) (default_prefix_upto c.args.start here.0 (c.in_ok-prefix.ensures.reads s))) (end_uri _ (c.in_ok-value.ensures.passes s).1 k)) c.in_err-uri.ensures.reads)

pub returns-clause-reads : goal.returns-clause-reads
returns-clause-reads c =
    let here = terminal_at c.args.tokens.now c.args.at (keyword k.Namespace) (c.if-not-is_keyword.ensures.inside refl) c.if-not-is_keyword.ensures.is in
    λ s. took_upto (upto_then (default_upto c.args.start (token_took here.1)) (default_prefix_upto c.args.start here.0 (c.in_ok-prefix.ensures.reads s))) (end_took _ (c.in_ok-value.ensures.passes s).1 (c.in_ok-uri.ensures.reads s))
