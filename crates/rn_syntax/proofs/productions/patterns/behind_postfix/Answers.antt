-- The postfix repeats the primary, whatever follows stand behind it.
use Rattle.std.proofs.lemmas.Result.{err_from_is_err_and}
use Rattle.rn_syntax.specs.View.{boxed_view}
use Rattle.rn_syntax.proofs.ProductionsRead.Compose.{on_fault, made_reads}
use Rattle.rn_syntax.proofs.ProductionsRead.Operands.{repeated_took, repeated_stuck}
use Rattle.rn_syntax.proofs.productions.patterns.behind_postfix.Goals as goal

pub returns-in_err-behind-clause-reads : goal.returns-in_err-behind-clause-reads
returns-in_err-behind-clause-reads c =
    let p = err_from_is_err_and c.from_residual.result c.from_residual.ensures.1 in
    rw (p.1, p.2) (on_fault c.args.tokens.now c.args.at c.args.at _ (λ s bad k. repeated_stuck (boxed_view c.args.primary) c.args.postfix k) c.in_err-behind.ensures.skips)

pub returns-clause-reads : goal.returns-clause-reads
returns-clause-reads c = made_reads boxed_view c.args.tokens.now c.args.at c.in_ok-behind.behind c.repeated.result c.repeated.ensures (λ s. repeated_took _ _ (c.in_ok-behind.ensures.skips s))
