use Rattle.rn_syntax.proofs.ProductionsRead.Compose.{token_took}
use Rattle.rn_syntax.proofs.ProductionsRead.Next.{no_right_paren}
use Rattle.rn_syntax.proofs.productions.terminals.right_paren.Goals as goal

pub returns-in-RightParen-clause-passes : goal.returns-in-RightParen-clause-passes
returns-in-RightParen-clause-passes c = λ s. let n = c.in-RightParen.ensures.next in (n.0, token_took n.1)

pub returns-in_default-clause-passes : goal.returns-in_default-clause-passes
returns-in_default-clause-passes c = λ s. no_right_paren _ _ c.next.result c.next.ensures.next c.in_default.not-RightParen
