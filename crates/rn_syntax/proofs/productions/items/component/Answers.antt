use Rattle.std.proofs.Common.{◌+◌, sym}
use Rattle.std.proofs.lemmas.Result.{err_from_is_err_and}
use Rattle.rn_syntax.proofs.ProductionsRead.Compose.{on_fault, took_same}
use Rattle.rn_syntax.proofs.ProductionsRead.Grouping.{define_at, start_at, body_method, body_stuck, body_took, method_read, no_component, no_start}
use Rattle.rn_syntax.proofs.productions.items.component.Goals as goal

pub returns-in_err-method-in-Ident-clause-reads : goal.returns-in_err-method-in-Ident-clause-reads
returns-in_err-method-in-Ident-clause-reads c =
    let p = err_from_is_err_and c.from_residual.result c.from_residual.ensures.1 in
    rw (p.1, p.2) (on_fault c.args.tokens.now (c.args.at + 1) c.args.at _ (λ s bad k. body_method _ (define_at c.in-Ident.ensures.next.1) k) c.in_err-method-in-Ident.ensures.reads)

pub returns-in_err-body-in-Ident-clause-reads : goal.returns-in_err-body-in-Ident-clause-reads
returns-in_err-body-in-Ident-clause-reads c =
    let p = err_from_is_err_and c.from_residual-in_err-body-in-Ident.result c.from_residual-in_err-body-in-Ident.ensures.1 in
    rw (p.1, p.2) (on_fault c.args.tokens.now (c.args.at + 2) c.args.at _
    (λ s bad k. body_stuck _ (define_at c.in-Ident.ensures.next.1) (method_read c.args.tokens.now c.args.at (c.in_ok-method-in-Ident.ensures.reads s)) k) c.in_err-body-in-Ident.ensures.reads)

pub returns-in_ok-body-in-Ident-clause-reads : goal.returns-in_ok-body-in-Ident-clause-reads
returns-in_ok-body-in-Ident-clause-reads c = λ s.
    took_same (sym c.define.ensures.tree) (body_took _ (define_at c.in-Ident.ensures.next.1) (method_read c.args.tokens.now c.args.at (c.in_ok-method-in-Ident.ensures.reads s)) (c.in_ok-body-in-Ident.ensures.reads s))

pub returns-in_err-method-in-Start-clause-reads : goal.returns-in_err-method-in-Start-clause-reads
returns-in_err-method-in-Start-clause-reads c =
    let p = err_from_is_err_and c.from_residual-in_err-method-in-Start.result c.from_residual-in_err-method-in-Start.ensures.1 in
    rw (p.1, p.2) (on_fault c.args.tokens.now (c.args.at + 1) c.args.at _ (λ s bad k. body_method _ (start_at (rw c.in-Start.is at c.in-Keyword.ensures.next.1)) k) c.in_err-method-in-Start.ensures.reads)

pub returns-in_err-body-in-Start-clause-reads : goal.returns-in_err-body-in-Start-clause-reads
returns-in_err-body-in-Start-clause-reads c =
    let p = err_from_is_err_and c.from_residual-in_err-body-in-Start.result c.from_residual-in_err-body-in-Start.ensures.1 in
    rw (p.1, p.2) (on_fault c.args.tokens.now (c.args.at + 2) c.args.at _
    (λ s bad k. body_stuck _ (start_at (rw c.in-Start.is at c.in-Keyword.ensures.next.1)) (method_read c.args.tokens.now c.args.at (c.in_ok-method-in-Start.ensures.reads s)) k) c.in_err-body-in-Start.ensures.reads)

pub returns-in_ok-body-in-Start-clause-reads : goal.returns-in_ok-body-in-Start-clause-reads
returns-in_ok-body-in-Start-clause-reads c = λ s.
    took_same (sym c.start.ensures.tree) (body_took _ (start_at (rw c.in-Start.is at c.in-Keyword.ensures.next.1)) (method_read c.args.tokens.now c.args.at (c.in_ok-method-in-Start.ensures.reads s)) (c.in_ok-body-in-Start.ensures.reads s))

pub returns-in_default-keyword-clause-reads : goal.returns-in_default-keyword-clause-reads
returns-in_default-keyword-clause-reads c = λ s. no_start c.in-Keyword.ensures.next.1 c.in_default-keyword.not-Start

pub returns-in_default-clause-reads : goal.returns-in_default-clause-reads
returns-in_default-clause-reads c = λ s. no_component _ _ c.next.result c.next.ensures.next c.in_default.not-Ident c.in_default.not-Keyword
