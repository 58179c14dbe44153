-- A postfix repeats the primary; what else comes leaves it.
use Rattle.std.proofs.Common.{◌+◌}
use Rattle.rn_syntax.specs.View.{boxed_view}
use Rattle.rn_syntax.proofs.ProductionsRead.Compose.{reads_upto}
use Rattle.rn_syntax.proofs.ProductionsRead.Operands.{alone_took, postfix_at}
use Rattle.rn_syntax.proofs.productions.patterns.behind_primary.Goals as goal

pub returns-in-Postfix-clause-reads : goal.returns-in-Postfix-clause-reads
returns-in-Postfix-clause-reads c = reads_upto boxed_view c.args.tokens.now (c.args.at + 1) c.args.at _ (λ r w. w) (λ s. postfix_at (boxed_view c.args.primary) c.in-Postfix.postfix c.in-Postfix.ensures.next.1) c.behind_postfix.ensures.reads

pub returns-in_default-clause-reads : goal.returns-in_default-clause-reads
returns-in_default-clause-reads c = λ s. alone_took _ _ _ c.next.result c.next.ensures.next c.in_default.not-Postfix
