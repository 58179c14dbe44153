use Rattle.rn_syntax.proofs.ProductionsRead.Compose.{token_took}
use Rattle.rn_syntax.proofs.ProductionsRead.Next.{no_plain, no_other_method, no_method}
use Rattle.rn_syntax.proofs.productions.terminals.equals.Goals as goal

pub returns-in-Plain-clause-passes : goal.returns-in-Plain-clause-passes
returns-in-Plain-clause-passes c = λ s. let n = c.in-Assign.ensures.next in (n.0, token_took (rw c.in-Plain.is at n.1))

pub returns-in_default-method-clause-passes : goal.returns-in_default-method-clause-passes
returns-in_default-method-clause-passes c = λ s. no_plain _ _ c.next.result c.next.ensures.next (no_other_method c.next.result _ c.in-Assign.is c.in_default-method.not-Plain)

pub returns-in_default-clause-passes : goal.returns-in_default-clause-passes
returns-in_default-clause-passes c = λ s. no_plain _ _ c.next.result c.next.ensures.next (no_method c.next.result c.in_default.not-Assign)
