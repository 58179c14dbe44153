use Rattle.std.proofs.Common.{arith, sym}
use Rattle.std.proofs.lemmas.Result.{err_from_is_err_and}
use Rattle.rn_syntax.proofs.ProductionsRead.Compose.{on_fault, took_same}
use Rattle.rn_syntax.proofs.ProductionsRead.Inclusion.{wanted_stuck, inherit_stuck, own_stuck, include_took}
use Rattle.rn_syntax.proofs.ProductionsRead.Lending.{lends_one}
use Rattle.rn_syntax.proofs.productions.items.include.Goals as goal

pub returns-in_err-wanted-clause-reads : goal.returns-in_err-wanted-clause-reads
returns-in_err-wanted-clause-reads c =
    let p = err_from_is_err_and c.from_residual.result c.from_residual.ensures.1 in
    rw (p.1, p.2) (on_fault c.args.tokens.now c.args.at c.args.at _ (λ s bad k. wanted_stuck k) c.in_err-wanted.ensures.reads)

pub returns-in_err-inherit-clause-reads : goal.returns-in_err-inherit-clause-reads
returns-in_err-inherit-clause-reads c =
    let p = err_from_is_err_and c.from_residual-in_err-inherit.result c.from_residual-in_err-inherit.ensures.1 in
    rw (p.1, p.2) (on_fault c.args.tokens.now c.in_ok-wanted.behind c.args.at _ (λ s bad k. inherit_stuck (c.in_ok-wanted.ensures.reads s) k) c.in_err-inherit.ensures.reads)

pub returns-in_err-items-clause-reads : goal.returns-in_err-items-clause-reads
returns-in_err-items-clause-reads c =
    let p = err_from_is_err_and c.from_residual-in_err-items.result c.from_residual-in_err-items.ensures.1 in
    rw (p.1, p.2) (on_fault c.args.tokens.now c.in_ok-inherit.own c.args.at _ (λ s bad k. own_stuck (c.in_ok-wanted.ensures.reads s) (c.in_ok-inherit.ensures.reads s) k) c.in_err-items.ensures.reads)

pub returns-clause-reads : goal.returns-clause-reads
returns-clause-reads c = λ s. took_same (sym c.in_ok-include.ensures.tree) (include_took (c.in_ok-wanted.ensures.reads s) (c.in_ok-inherit.ensures.reads s) (c.in_ok-items.ensures.reads s))

pub returns-clause-lent : goal.returns-clause-lent
returns-clause-lent c = λ s.
    let inside = c.in_ok-wanted.ensures.inside in
    lends_one c.args.tokens.now c.args.at c.in_ok-wanted.behind c.in_ok-wanted.wanted _ _ c.in_ok-include.ensures.literals c.in_ok-items.ensures.no_include (c.in_ok-wanted.ensures.reads s) (omega (arith, inside.further, inside.inside)) (c.in_ok-wanted.ensures.borrows s)
