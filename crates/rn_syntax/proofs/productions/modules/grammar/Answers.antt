use Rattle.std.proofs.Common.{arith}
use Rattle.std.proofs.lemmas.Result.{err_from_is_err_and}
use Rattle.rn_syntax.proofs.ProductionsRead.Compose.{on_fault}
use Rattle.rn_syntax.proofs.ProductionsRead.Modular.{grammar_brace, grammar_items, grammar_close, grammar_follows, grammar_took}
use Rattle.rn_syntax.proofs.ProductionsRead.Lending.{widened}
use Rattle.rn_syntax.proofs.productions.modules.grammar.Goals as goal

pub returns-in_err-inside-clause-reads : goal.returns-in_err-inside-clause-reads
returns-in_err-inside-clause-reads c =
    let p = err_from_is_err_and c.from_residual.result c.from_residual.ensures.1 in
    rw (p.1, p.2) (on_fault c.args.tokens.now c.args.at c.args.at _ (λ s bad k. grammar_brace k) c.in_err-inside.ensures.passes)

pub returns-in_err-items-clause-reads : goal.returns-in_err-items-clause-reads
returns-in_err-items-clause-reads c =
    let p = err_from_is_err_and c.from_residual-in_err-items.result c.from_residual-in_err-items.ensures.1 in
    rw (p.1, p.2) (on_fault c.args.tokens.now c.in_ok-inside.inside c.args.at _ (λ s bad k. grammar_items (c.in_ok-inside.ensures.passes s).1 k) c.in_err-items.ensures.reads)

pub returns-in_err-behind-clause-reads : goal.returns-in_err-behind-clause-reads
returns-in_err-behind-clause-reads c =
    let p = err_from_is_err_and c.from_residual-in_err-behind.result c.from_residual-in_err-behind.ensures.1 in
    rw (p.1, p.2) (on_fault c.args.tokens.now c.in_ok-items.close c.args.at _ (λ s bad k. grammar_close (c.in_ok-inside.ensures.passes s).1 (c.in_ok-items.ensures.reads s) k) c.in_err-behind.ensures.passes)

pub returns-in_err-end-clause-reads : goal.returns-in_err-end-clause-reads
returns-in_err-end-clause-reads c =
    let p = err_from_is_err_and c.from_residual-in_err-end.result c.from_residual-in_err-end.ensures.1 in
    rw (p.1, p.2) (on_fault c.args.tokens.now c.in_ok-behind.behind c.args.at _ (λ s bad k. grammar_follows (c.in_ok-inside.ensures.passes s).1 (c.in_ok-items.ensures.reads s) (c.in_ok-behind.ensures.passes s).1 k) c.in_err-end.ensures.skips)

pub returns-clause-reads : goal.returns-clause-reads
returns-clause-reads c = λ s. grammar_took (c.in_ok-inside.ensures.passes s).1 (c.in_ok-items.ensures.reads s) (c.in_ok-behind.ensures.passes s).1 (c.in_ok-end.ensures.skips s)

pub returns-clause-lent : goal.returns-clause-lent
returns-clause-lent c = λ s. widened c.args.tokens.now c.args.at c.in_ok-inside.inside c.in_ok-items.close c.in_ok-end.end _ (omega (arith, c.in_ok-inside.ensures.inside.further))
    (omega (arith, c.in_ok-behind.ensures.inside.further, c.in_ok-end.ensures.inside.further)) (c.in_ok-items.ensures.lent s)
