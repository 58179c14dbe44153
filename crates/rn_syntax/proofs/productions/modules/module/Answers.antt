use Rattle.std.proofs.Common.{arith}
use Rattle.std.proofs.lemmas.Result.{err_from_is_err_and}
use Rattle.rn_syntax.proofs.ProductionsRead.Next.{token_at, rest_past}
use Rattle.rn_syntax.proofs.ProductionsRead.Modular.{module_fault, module_declarations, module_body, module_took, whole_tree, took_stops}
use Rattle.rn_syntax.proofs.ProductionsRead.Lending.{widened}
use Rattle.rn_syntax.proofs.productions.modules.module.Goals as goal

pub returns-in_err-decls-clause-stuck : goal.returns-in_err-decls-clause-stuck
returns-in_err-decls-clause-stuck c =
    let p = err_from_is_err_and c.from_residual.result c.from_residual.ensures.1 in
    rw (p.1, p.2) (module_fault c.args.tokens.now 0 _ (λ s bad k. module_declarations k) c.in_err-decls.ensures.reads)

pub returns-in_err-items-clause-stuck : goal.returns-in_err-items-clause-stuck
returns-in_err-items-clause-stuck c =
    let p = err_from_is_err_and c.from_residual-in_err-items.result c.from_residual-in_err-items.ensures.1 in
    rw (p.1, p.2) (module_fault c.args.tokens.now c.in_ok-decls.at _ (λ s bad k. module_body (c.in_ok-decls.ensures.reads s) k) c.in_err-items.ensures.reads)

pub returns-then-end-tokens-clause-stuck : goal.returns-then-end-tokens-clause-stuck
returns-then-end-tokens-clause-stuck c = λ s. took_stops (token_at c.args.tokens.now c.in_ok-items.end c.if-end-tokens.true).2 (module_took (c.in_ok-decls.ensures.reads s) (c.in_ok-items.ensures.reads s))

pub returns-clause-tree : goal.returns-clause-tree
returns-clause-tree c = λ s. whole_tree (rest_past c.args.tokens.now c.in_ok-items.end c.if-end-tokens.false) (module_took (c.in_ok-decls.ensures.reads s) (c.in_ok-items.ensures.reads s))

pub returns-clause-lent : goal.returns-clause-lent
returns-clause-lent c = λ s. widened c.args.tokens.now 0 c.in_ok-decls.at c.in_ok-items.end _ _ (omega arith) c.in_ok-items.ensures.inside.inside (c.in_ok-items.ensures.lent s)
