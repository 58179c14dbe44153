use Rattle.std.proofs.Common.{subst, sym}
use Rattle.rn_syntax.specs.Terminal.{keyword}
use Rattle.rn_syntax.specs.Grammar.{IsWord, by_name, by_keyword}
use Rattle.rn_syntax.specs.inside.Sequence.{word_at}
use Rattle.rn_syntax.proofs.ProductionsRead.Compose.{of_took}
use Rattle.rn_syntax.proofs.ProductionsRead.Next.{no_word, word_at_one}
use Rattle.rn_syntax.proofs.productions.terminals.word.Goals as goal

pub returns-in-Ident-clause-reads : goal.returns-in-Ident-clause-reads
returns-in-Ident-clause-reads c = λ s. let n = c.in-Ident.ensures.next in of_took (λ b p. word_at_one by_name p) n.1 (word_at by_name)

pub returns-in-Keyword-clause-reads : goal.returns-in-Keyword-clause-reads
returns-in-Keyword-clause-reads c = λ s.
    let n = c.in-Keyword.ensures.next in
    let w = subst (λ x. IsWord (keyword c.in-Keyword.keyword) x) (sym c.keyword_text.ensures) by_keyword in
    of_took (λ b p. word_at_one w p) n.1 (word_at w)

pub returns-in_default-clause-reads : goal.returns-in_default-clause-reads
returns-in_default-clause-reads c = λ s. no_word _ _ c.next.result c.next.ensures.next c.in_default.not-Ident c.in_default.not-Keyword
