-- Where the token begins, or the last one ends.
use Rattle.rn_syntax.proofs.ProductionsRead.Next.{place_at, place_past, last_get}
use Rattle.rn_syntax.proofs.productions.terminals.place.Goals as goal

pub returns-then-at-tokens : goal.returns-then-at-tokens
returns-then-at-tokens c = place_at c.args.tokens.now c.args.at _ c.if-at-tokens.true

pub returns-in-Some : goal.returns-in-Some
returns-in-Some c = place_past c.args.tokens.now c.args.at _ c.if-at-tokens.false (last_get c.args.tokens.now c.in-Some.last.now c.in-Some.ensures.value)
