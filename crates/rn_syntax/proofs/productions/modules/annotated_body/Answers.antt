use Rattle.std.proofs.Common.{arith, ◌+◌, refl, map}
use Rattle.rn_text.specs.declared.keywords.Keyword.TheVariants as k
use Rattle.rn_syntax.specs.Terminal.{keyword}
use Rattle.rn_syntax.specs.View.{item_view}
use Rattle.rn_syntax.proofs.ProductionsRead.Compose.{reads_upto}
use Rattle.rn_syntax.proofs.ProductionsRead.Next.{terminal_at}
use Rattle.rn_syntax.proofs.ProductionsRead.Modular.{behind_grammar, behind_items}
use Rattle.rn_syntax.specs.Lent.{items_literals}
use Rattle.rn_syntax.proofs.ProductionsRead.Lending.{lends_on}
use Rattle.rn_syntax.proofs.productions.modules.annotated_body.Goals as goal

pub returns-then-is_keyword-clause-reads : goal.returns-then-is_keyword-clause-reads
returns-then-is_keyword-clause-reads c =
    let here = terminal_at c.args.tokens.now c.args.at (keyword k.Grammar) (c.if-is_keyword.ensures.inside refl) c.if-is_keyword.ensures.is in
    reads_upto (λ v. map item_view v.items) c.args.tokens.now (c.args.at + 1) c.args.at _ (λ r g. g) (λ s. behind_grammar here.1) c.grammar.ensures.reads

pub returns-clause-reads : goal.returns-clause-reads
returns-clause-reads c = reads_upto (λ v. map item_view v.items) c.args.tokens.now c.args.at c.args.at _ (λ r g. g) (λ s. behind_items c.if-is_keyword.ensures.is) c.annotated_items.ensures.reads

pub returns-then-is_keyword-clause-lent : goal.returns-then-is_keyword-clause-lent
returns-then-is_keyword-clause-lent c = lends_on c.args.tokens.now c.args.at (c.args.at + 1) (λ v. items_literals v.items) c.grammar.result (omega arith) c.grammar.ensures.lent
