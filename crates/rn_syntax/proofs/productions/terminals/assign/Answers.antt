use Rattle.rn_syntax.specs.inside.Sequence.{by_method}
use Rattle.rn_syntax.proofs.ProductionsRead.Compose.{of_took}
use Rattle.rn_syntax.proofs.ProductionsRead.Next.{no_assign, assign_one}
use Rattle.rn_syntax.proofs.productions.terminals.assign.Goals as goal

pub returns-in-Assign-clause-reads : goal.returns-in-Assign-clause-reads
returns-in-Assign-clause-reads c = λ s. let n = c.in-Assign.ensures.next in of_took (λ b p. assign_one p) n.1 by_method

pub returns-in_default-clause-reads : goal.returns-in_default-clause-reads
returns-in_default-clause-reads c = λ s. no_assign _ _ c.next.result c.next.ensures.next c.in_default.not-Assign
