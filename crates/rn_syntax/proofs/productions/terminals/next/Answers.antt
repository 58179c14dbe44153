-- The next token is the head of what is left.
use Rattle.rn_syntax.proofs.ProductionsRead.Next.{next_at, segment_at, spelled_at}
use Rattle.rn_syntax.proofs.productions.terminals.next.Goals as goal

pub returns-clause-next : goal.returns-clause-next
returns-clause-next c = next_at c.args.tokens.now c.args.at _ _ c.if-at-tokens.false c.terminal_of.ensures.is

pub returns-clause-whole : goal.returns-clause-whole
returns-clause-whole c = λ s. c.terminal_of.ensures.whole (spelled_at c.args.tokens.now c.args.at _ c.if-at-tokens.false s)

pub returns-clause-same : goal.returns-clause-same
returns-clause-same c = segment_at c.args.tokens.now c.args.at _ _ c.if-at-tokens.false c.terminal_of.ensures.same
