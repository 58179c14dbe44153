-- What follows the core, and then what stands behind a primary.
use Rattle.std.proofs.Common.{◌+◌}
use Rattle.std.proofs.lemmas.Result.{err_from_is_err_and}
use Rattle.rn_syntax.specs.View.{boxed_view}
use Rattle.rn_syntax.proofs.ProductionsRead.Compose.{on_fault, reads_upto}
use Rattle.rn_syntax.proofs.ProductionsRead.Operands.{core_alone, core_postfix, follows_read, follows_stuck}
use Rattle.rn_syntax.proofs.productions.patterns.behind_core.Goals as goal

pub returns-in_err-behind-in-Follow-clause-reads : goal.returns-in_err-behind-in-Follow-clause-reads
returns-in_err-behind-in-Follow-clause-reads c =
    let p = err_from_is_err_and c.from_residual.result c.from_residual.ensures.1 in
    rw (p.1, p.2) (on_fault c.args.tokens.now c.args.at c.args.at _ (λ s bad k. follows_stuck (boxed_view c.args.core) k) c.in_err-behind-in-Follow.ensures.skips)

pub returns-in_ok-behind-in-Follow-clause-reads : goal.returns-in_ok-behind-in-Follow-clause-reads
returns-in_ok-behind-in-Follow-clause-reads c = reads_upto boxed_view c.args.tokens.now c.in_ok-behind-in-Follow.behind c.args.at _ (λ r w. w) (λ s. follows_read (boxed_view c.args.core) (c.in_ok-behind-in-Follow.ensures.skips s)) c.behind_primary.ensures.reads

pub returns-in-Postfix-clause-reads : goal.returns-in-Postfix-clause-reads
returns-in-Postfix-clause-reads c = reads_upto boxed_view c.args.tokens.now (c.args.at + 1) c.args.at _ (λ r w. w) (λ s. core_postfix (boxed_view c.args.core) c.in-Postfix.postfix c.in-Postfix.ensures.next.1) c.behind_postfix.ensures.reads

pub returns-in_default-clause-reads : goal.returns-in_default-clause-reads
returns-in_default-clause-reads c = λ s. core_alone _ _ _ c.next.result c.next.ensures.next c.in_default.not-Follow c.in_default.not-Postfix
