use Rattle.std.proofs.Common.{◌+◌, arith, refl, map}
use Rattle.std.proofs.lemmas.Result.{err_from_is_err_and}
use Rattle.rn_text.specs.declared.keywords.Keyword.TheVariants as k
use Rattle.rn_syntax.specs.Terminal.{keyword}
use Rattle.rn_syntax.specs.View.{item_view}
use Rattle.rn_syntax.proofs.ProductionsRead.Compose.{on_fault, passed_on, reads_upto}
use Rattle.rn_syntax.proofs.ProductionsRead.Next.{terminal_at}
use Rattle.rn_syntax.proofs.ProductionsRead.Modular.{body_grammar, body_items, body_annotation, body_annotated}
use Rattle.rn_syntax.specs.Lent.{items_literals}
use Rattle.rn_syntax.proofs.ProductionsRead.Lending.{lends_on}
use Rattle.rn_syntax.proofs.productions.modules.body.Goals as goal

pub returns-in_err-behind-clause-reads : goal.returns-in_err-behind-clause-reads
returns-in_err-behind-clause-reads c =
    let p = err_from_is_err_and c.from_residual.result c.from_residual.ensures.1 in
    rw (p.1, p.2) (on_fault c.args.tokens.now c.args.at c.args.at _ (λ s bad k. body_annotation c.in-LeftBracket.ensures.next.1 k) c.in_err-behind.ensures.skips)

pub returns-in-LeftBracket-clause-inside : goal.returns-in-LeftBracket-clause-inside
returns-in-LeftBracket-clause-inside c = passed_on _ c.in_ok-behind.behind _ c.annotated_body.result (omega (arith, c.in_ok-behind.ensures.inside.further)) c.annotated_body.ensures.inside

pub returns-in-LeftBracket-clause-reads : goal.returns-in-LeftBracket-clause-reads
returns-in-LeftBracket-clause-reads c =
    reads_upto (λ v. map item_view v.items) c.args.tokens.now c.in_ok-behind.behind c.args.at _ (λ r g. g) (λ s. body_annotated c.in-LeftBracket.ensures.next.1 (c.in_ok-behind.ensures.skips s)) c.annotated_body.ensures.reads

pub returns-then-is_keyword-clause-inside : goal.returns-then-is_keyword-clause-inside
returns-then-is_keyword-clause-inside c = passed_on _ (c.args.at + 1) _ c.grammar.result (omega arith) c.grammar.ensures.inside

pub returns-then-is_keyword-clause-reads : goal.returns-then-is_keyword-clause-reads
returns-then-is_keyword-clause-reads c =
    let here = terminal_at c.args.tokens.now c.args.at (keyword k.Grammar) (c.if-is_keyword.ensures.inside refl) c.if-is_keyword.ensures.is in
    reads_upto (λ v. map item_view v.items) c.args.tokens.now (c.args.at + 1) c.args.at _ (λ r g. g) (λ s. body_grammar here.1) c.grammar.ensures.reads

pub returns-clause-inside : goal.returns-clause-inside
returns-clause-inside c = c.items.ensures.inside

pub returns-clause-reads : goal.returns-clause-reads
returns-clause-reads c = reads_upto (λ v. map item_view v.items) c.args.tokens.now c.args.at c.args.at _ (λ r g. g) (λ s. body_items _ _ c.next.result c.next.ensures.next c.in_default.not-LeftBracket c.if-is_keyword.ensures.is) c.items.ensures.reads

pub returns-in-LeftBracket-clause-lent : goal.returns-in-LeftBracket-clause-lent
returns-in-LeftBracket-clause-lent c = lends_on c.args.tokens.now c.args.at c.in_ok-behind.behind (λ v. items_literals v.items) c.annotated_body.result (omega (arith, c.in_ok-behind.ensures.inside.further)) c.annotated_body.ensures.lent

pub returns-then-is_keyword-clause-lent : goal.returns-then-is_keyword-clause-lent
returns-then-is_keyword-clause-lent c = lends_on c.args.tokens.now c.args.at (c.args.at + 1) (λ v. items_literals v.items) c.grammar.result (omega arith) c.grammar.ensures.lent
