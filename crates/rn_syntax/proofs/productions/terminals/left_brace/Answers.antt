use Rattle.rn_syntax.proofs.ProductionsRead.Compose.{token_took}
use Rattle.rn_syntax.proofs.ProductionsRead.Next.{no_left_brace}
use Rattle.rn_syntax.proofs.productions.terminals.left_brace.Goals as goal

pub returns-in-LeftBrace-clause-passes : goal.returns-in-LeftBrace-clause-passes
returns-in-LeftBrace-clause-passes c = λ s. let n = c.in-LeftBrace.ensures.next in (n.0, token_took n.1)

pub returns-in_default-clause-passes : goal.returns-in_default-clause-passes
returns-in_default-clause-passes c = λ s. no_left_brace _ _ c.next.result c.next.ensures.next c.in_default.not-LeftBrace
