use Rattle.std.proofs.Common.{arith, ◌++◌, ◌∷◌, [], ap, ◌∙◌, map}
use Rattle.std.proofs.lemmas.Result.{err_from_is_err_and}
use Rattle.rn_syntax.specs.View.{item_view}
use Rattle.rn_syntax.proofs.ProductionsRead.Compose.{on_fault, passed_on, reads_upto}
use Rattle.rn_syntax.proofs.ProductionsRead.Itemized.{first_read, first_stuck}
use Rattle.rn_syntax.specs.Lent.{items_literals}
use Rattle.rn_syntax.proofs.ProductionsRead.Lending.{lends_behind, more_lent}
use Rattle.rn_syntax.proofs.productions.modules.annotated_items.Goals as goal

pub returns-in_err-first-clause-reads : goal.returns-in_err-first-clause-reads
returns-in_err-first-clause-reads c =
    let p = err_from_is_err_and c.from_residual.result c.from_residual.ensures.1 in
    rw (p.1, p.2) (on_fault c.args.tokens.now c.args.at c.args.at _ (λ s bad k. first_stuck k) c.in_err-first.ensures.reads)

pub returns-clause-inside : goal.returns-clause-inside
returns-clause-inside c = passed_on _ c.in_ok-first.end _ c.items_behind.result (omega (arith, c.in_ok-first.ensures.inside.further)) c.items_behind.ensures.inside

pub returns-clause-reads : goal.returns-clause-reads
returns-clause-reads c =
    reads_upto (λ v. map item_view v.items) c.args.tokens.now c.in_ok-first.end c.args.at _ (λ r g. g)
    (λ s. first_read (ap (map item_view) (c.in_ok-push.ensures.items ∙ ap (λ l. l ++ c.in_ok-first.first ∷ []) c.new-read.ensures.items)) (c.in_ok-first.ensures.reads s))
    c.items_behind.ensures.reads

pub returns-clause-lent : goal.returns-clause-lent
returns-clause-lent c =
    let tokens = c.args.tokens.now in
    let on = c.in_ok-first.ensures.inside in
    lends_behind tokens c.args.at c.in_ok-first.end _ (λ v. items_literals v.items) c.items_behind.result (omega (arith, on.further))
    (λ s. more_lent tokens c.args.at c.args.at c.args.at c.in_ok-first.end [] _ c.in_ok-first.first (omega arith) (omega arith) (omega (arith, on.further)) (c.in_ok-push.ensures.items ∙ ap (λ l. l ++ c.in_ok-first.first ∷ []) c.new-read.ensures.items) tt (c.in_ok-first.ensures.lent s))
    c.items_behind.ensures.lent
