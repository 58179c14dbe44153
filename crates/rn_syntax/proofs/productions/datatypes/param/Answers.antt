use Rattle.std.proofs.Common.{◌+◌}
use Rattle.std.proofs.lemmas.Result.{err_from_is_err_and}
use Rattle.rn_syntax.proofs.ProductionsRead.Compose.{on_fault, stuck_upto}
use Rattle.rn_syntax.proofs.ProductionsRead.Parameters.{param_body, param_name, param_value, param_read, param_stuck-annotation, stuck-name, stuck-equals, stuck-value}
use Rattle.rn_syntax.proofs.productions.datatypes.param.Goals as goal

pub returns-in_err-body-clause-reads : goal.returns-in_err-body-clause-reads
returns-in_err-body-clause-reads c =
    let p = err_from_is_err_and c.from_residual.result c.from_residual.ensures.1 in
    rw (p.1, p.2) (on_fault c.args.tokens.now c.args.at c.args.at _ (λ s bad k. param_stuck-annotation k) c.in_err-body.ensures.skips)

pub returns-in_err-name-clause-reads : goal.returns-in_err-name-clause-reads
returns-in_err-name-clause-reads c =
    let p = err_from_is_err_and c.from_residual-in_err-name.result c.from_residual-in_err-name.ensures.1 in
    rw (p.1, p.2) (on_fault c.args.tokens.now c.in_ok-body.body c.args.at _ (λ s bad k. stuck_upto (param_body (c.in_ok-body.ensures.skips s)) (stuck-name k)) c.in_err-name.ensures.reads)

pub returns-in_err-value-clause-reads : goal.returns-in_err-value-clause-reads
returns-in_err-value-clause-reads c =
    let p = err_from_is_err_and c.from_residual-in_err-value.result c.from_residual-in_err-value.ensures.1 in
    rw (p.1, p.2) (on_fault c.args.tokens.now (c.in_ok-body.body + 1) c.args.at _ (λ s bad k. stuck_upto (param_name (c.in_ok-body.ensures.skips s) (c.in_ok-name.ensures.reads s)) (stuck-equals _ k)) c.in_err-value.ensures.passes)

pub returns-in_err-text-clause-reads : goal.returns-in_err-text-clause-reads
returns-in_err-text-clause-reads c =
    let p = err_from_is_err_and c.from_residual-in_err-text.result c.from_residual-in_err-text.ensures.1 in
    rw (p.1, p.2) (on_fault c.args.tokens.now c.in_ok-value.value c.args.at _ (λ s bad k. let e = c.in_ok-value.ensures.passes s in stuck_upto (param_value (c.in_ok-body.ensures.skips s) (c.in_ok-name.ensures.reads s) e.1) (stuck-value _ e.0 k)) c.in_err-text.ensures.reads)

pub returns-clause-reads : goal.returns-clause-reads
returns-clause-reads c = λ s. param_read (c.in_ok-body.ensures.skips s) (c.in_ok-name.ensures.reads s) (c.in_ok-value.ensures.passes s).1 (c.in_ok-text.ensures.reads s)
