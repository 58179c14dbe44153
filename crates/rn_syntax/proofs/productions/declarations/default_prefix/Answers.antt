use Rattle.rn_syntax.specs.Grammar as g
use Rattle.rn_syntax.proofs.ProductionsRead.Declared.{may_prefix, may_none}
use Rattle.rn_syntax.proofs.ProductionsRead.Next.{place_is, word_at_keyword}
use Rattle.rn_syntax.proofs.productions.declarations.default_prefix.Goals as goal

pub returns-in-Ident-clause-reads : goal.returns-in-Ident-clause-reads
returns-in-Ident-clause-reads c = λ s. let n = c.in-Ident.ensures.next in may_prefix g.by_name (place_is c.args.tokens.now n.1 c.place.ensures) n.1

pub returns-in-Keyword-clause-reads : goal.returns-in-Keyword-clause-reads
returns-in-Keyword-clause-reads c = λ s. let n = c.in-Keyword.ensures.next in may_prefix (word_at_keyword c.keyword_text.ensures) (place_is c.args.tokens.now n.1 c.place-in-Keyword.ensures) n.1

pub returns-in_default-clause-reads : goal.returns-in_default-clause-reads
returns-in_default-clause-reads c = λ s. may_none _ _ c.next.result c.next.ensures.next c.in_default.not-Ident c.in_default.not-Keyword
