use Rattle.std.proofs.lemmas.Result.{err_from_is_err_and}
use Rattle.rn_syntax.proofs.ProductionsRead.Compose.{on_fault}
use Rattle.rn_syntax.proofs.ProductionsRead.Declared.{prefix_took, prefix_stuck}
use Rattle.rn_syntax.proofs.productions.declarations.prefix.Goals as goal

pub returns-in_err-name-clause-reads : goal.returns-in_err-name-clause-reads
returns-in_err-name-clause-reads c =
    let p = err_from_is_err_and c.from_residual.result c.from_residual.ensures.1 in
    rw (p.1, p.2) (on_fault c.args.tokens.now c.args.at c.args.at _ (λ s bad k. prefix_stuck k) c.in_err-name.ensures.reads)

pub returns-clause-reads : goal.returns-clause-reads
returns-clause-reads c = λ s. prefix_took c.args.tokens.now (c.in_ok-name.ensures.reads s) c.place.ensures
