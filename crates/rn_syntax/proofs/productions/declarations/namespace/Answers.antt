use Rattle.std.proofs.Common.{◌+◌}
use Rattle.std.proofs.lemmas.Result.{err_from_is_err_and}
use Rattle.rn_syntax.proofs.ProductionsRead.Compose.{on_fault, took_upto, stuck_upto}
use Rattle.rn_syntax.proofs.ProductionsRead.Declared.{namespace_prefix, namespace_upto, end_equals, end_uri, end_took}
use Rattle.rn_syntax.proofs.productions.declarations.namespace.Goals as goal

pub returns-in_err-prefix-clause-reads : goal.returns-in_err-prefix-clause-reads
returns-in_err-prefix-clause-reads c =
    let p = err_from_is_err_and c.from_residual.result c.from_residual.ensures.1 in
    rw (p.1, p.2) (on_fault c.args.tokens.now c.args.at c.args.at _ (λ s bad k. namespace_prefix k) c.in_err-prefix.ensures.reads)

pub returns-in_err-value-clause-reads : goal.returns-in_err-value-clause-reads
returns-in_err-value-clause-reads c =
    let p = err_from_is_err_and c.from_residual-in_err-value.result c.from_residual-in_err-value.ensures.1 in
    rw (p.1, p.2) (on_fault c.args.tokens.now (c.args.at + 1) c.args.at _ (λ s bad k. stuck_upto (namespace_upto (c.in_ok-prefix.ensures.reads s)) (end_equals _ k)) c.in_err-value.ensures.passes)

pub returns-in_err-uri-clause-reads : goal.returns-in_err-uri-clause-reads
returns-in_err-uri-clause-reads c =
    let p = err_from_is_err_and c.from_residual-in_err-uri.result c.from_residual-in_err-uri.ensures.1 in
    rw (p.1, p.2) (on_fault c.args.tokens.now c.in_ok-value.value c.args.at _ (λ s bad k. stuck_upto (namespace_upto (c.in_ok-prefix.ensures.reads s)) (end_uri _ (c.in_ok-value.ensures.passes s).1 k)) c.in_err-uri.ensures.reads)

pub returns-clause-reads : goal.returns-clause-reads
returns-clause-reads c = λ s. took_upto (namespace_upto (c.in_ok-prefix.ensures.reads s)) (end_took _ (c.in_ok-value.ensures.passes s).1 (c.in_ok-uri.ensures.reads s))
