use Rattle.std.proofs.Common.{◌+◌, ◌∷◌, [], ◌∙◌, sym, ap, map, arith, refl, subst}
use Rattle.std.proofs.lemmas.List.{map-append}
use Rattle.std.proofs.lemmas.Result.{err_from_is_err_and}
use Rattle.rn_syntax.specs.Grammar.{AreItems}
use Rattle.rn_syntax.specs.inside.Follow.{Anything}
use Rattle.rn_syntax.specs.Lent.{AreLent, item_literals, items_literals}
use Rattle.rn_syntax.specs.View.{item_view}
use Rattle.rn_syntax.proofs.ProductionsRead.Lending.{widened, more_lent, lends_on, lends_none, lends_include, lends_behind}
use Rattle.rn_syntax.proofs.ProductionsRead.Compose.{on_fault, took_same, took_upto, stuck_upto, reads_upto, took_gives, upto_then}
use Rattle.rn_syntax.proofs.ProductionsRead.Next.{token_at}
use Rattle.rn_syntax.proofs.ProductionsRead.Rows.{so_far_row, so_far_note, stuck_note, stuck_annotation, stuck_row, so_far_took, so_far_same}
use Rattle.rn_syntax.proofs.ProductionsRead.Grouping.{item_row, behind_so_far, items_behind_none, div_item, include_item, item_keyword, item_other, item_pattern, open_stuck, open_read, list_stuck, list_read, brace_stuck, brace_read, can_items, can_div, DivGives}
use Rattle.rn_syntax.proofs.productions.items.+items.Goals as goal

-- ---- lists

pub items-returns-clause-reads : goal.items-returns-clause-reads
items-returns-clause-reads t c = reads_upto (λ v. map item_view v.items) c.args.tokens.now c.args.at c.args.at _ (λ r g. g) (λ s. items_behind_none _ (ap (map item_view) c.new.ensures.items)) c.items_behind.ensures.reads

pub items-returns-clause-lent : goal.items-returns-clause-lent
items-returns-clause-lent t c = lends_behind c.args.tokens.now c.args.at c.args.at _ (λ v. items_literals v.items) c.items_behind.result (omega arith) (λ s. subst (λ l. AreLent c.args.tokens.now c.args.at c.args.at (items_literals l)) (sym c.new.ensures.items) tt) c.items_behind.ensures.lent

pub items_behind-items-init : goal.items_behind-items-init
items_behind-items-init t c = record { further = omega arith; inside = c.requires; so_far = λ s. behind_so_far _ _; lent = λ s from l h. h }

pub items_behind-items-preserved-then-begins_note : goal.items_behind-items-preserved-then-begins_note
items_behind-items-preserved-then-begins_note t c =
    let here = token_at c.args.tokens.now c.items.end (c.items-test.ensures.inside refl) in
    record {
      further = omega (arith, c.in_ok-end.ensures.inside.further);
      inside = c.in_ok-end.ensures.inside.inside;
      so_far = λ s. so_far_note item_row _ (c.items.invariant.so_far s) here.2 (sym c.if-begins_note.ensures.is) (c.in_ok-end.ensures.skips s);
      lent = λ s from l h. widened c.args.tokens.now from from c.items.end c.in_ok-end.end (items_literals c.items.items.items) (omega arith) (omega (arith, c.in_ok-end.ensures.inside.further)) (c.items.invariant.lent s from l h);
    }

pub items_behind-items-preserved : goal.items_behind-items-preserved
items_behind-items-preserved t c = record {
  further = omega (arith, c.in_ok-body.ensures.inside.further, c.in_ok-item.ensures.inside.further);
  inside = c.in_ok-item.ensures.inside.inside;
  so_far = λ s. so_far_same _ _ (sym (ap (map item_view) c.in_ok-push.ensures.items ∙ map-append item_view c.items.items.items (c.in_ok-item.item ∷ [])))
      (so_far_row item_row _ (c.items.invariant.so_far s) (c.in_ok-body.ensures.skips s) (c.in_ok-item.ensures.reads s));
  lent = λ s from l h. more_lent c.args.tokens.now from c.items.end c.in_ok-body.body c.in_ok-item.behind c.items.items.items _ c.in_ok-item.item (omega (arith, l, c.items.invariant.further)) (omega (arith, c.in_ok-body.ensures.inside.further))
      (omega (arith, c.in_ok-item.ensures.inside.further)) c.in_ok-push.ensures.items (c.items.invariant.lent s from l h) (c.in_ok-item.ensures.lent s);
}

pub items_behind-returns-in_err-end-clause-reads : goal.items_behind-returns-in_err-end-clause-reads
items_behind-returns-in_err-end-clause-reads t c =
    let here = token_at c.args.tokens.now c.items.end (c.items-test.ensures.inside refl) in
    let p = err_from_is_err_and c.from_residual.result c.from_residual.ensures.1 in
    rw (p.1, p.2) (on_fault c.args.tokens.now (c.items.end + 1) c.args.at _ (λ s bad k. stuck_note item_row _ (c.items.invariant.so_far s) here.2 (sym c.if-begins_note.ensures.is) k) c.in_err-end.ensures.skips)

pub items_behind-returns-in_err-body-clause-reads : goal.items_behind-returns-in_err-body-clause-reads
items_behind-returns-in_err-body-clause-reads t c =
    let p = err_from_is_err_and c.from_residual-in_err-body.result c.from_residual-in_err-body.ensures.1 in
    rw (p.1, p.2) (on_fault c.args.tokens.now c.items.end c.args.at _ (λ s bad k. stuck_annotation item_row _ (c.items.invariant.so_far s) (sym c.items-test.ensures.is) (sym c.if-begins_note.ensures.is) k) c.in_err-body.ensures.skips)

pub items_behind-returns-in_err-item-clause-reads : goal.items_behind-returns-in_err-item-clause-reads
items_behind-returns-in_err-item-clause-reads t c =
    let p = err_from_is_err_and c.from_residual-in_err-item.result c.from_residual-in_err-item.ensures.1 in
    rw (p.1, p.2) (on_fault c.args.tokens.now c.in_ok-body.body c.args.at _ (λ s bad k. stuck_row item_row _ (c.items.invariant.so_far s) (sym c.items-test.ensures.is) (sym c.if-begins_note.ensures.is) (c.in_ok-body.ensures.skips s) k) c.in_err-item.ensures.reads)

pub items_behind-returns-clause-reads : goal.items_behind-returns-clause-reads
items_behind-returns-clause-reads t c = λ s. so_far_took item_row _ (c.items.invariant.so_far s) (sym c.items-test.ensures.is)

pub items_behind-returns-clause-lent : goal.items_behind-returns-clause-lent
items_behind-returns-clause-lent t c = c.items.invariant.lent

-- ---- one item

pub item-returns-in-Div-clause-lent : goal.item-returns-in-Div-clause-lent
item-returns-in-Div-clause-lent t c = lends_on c.args.tokens.now c.args.at (c.args.at + 1) item_literals c.div.result (omega arith) c.div.ensures.lent

pub item-returns-in-Include-clause-lent : goal.item-returns-in-Include-clause-lent
item-returns-in-Include-clause-lent t c = lends_include c.args.tokens.now c.args.at _ _ item_literals c.include.result (rw c.in-Include.is at c.in-Keyword.ensures.next.1) c.include.ensures.inside c.include.ensures.lent

pub item-returns-in_default-keyword-clause-lent : goal.item-returns-in_default-keyword-clause-lent
item-returns-in_default-keyword-clause-lent t c = lends_none c.args.tokens.now c.args.at item_literals c.component.result c.component.ensures.no_include

pub item-returns-in_default-clause-lent : goal.item-returns-in_default-clause-lent
item-returns-in_default-clause-lent t c = lends_none c.args.tokens.now c.args.at item_literals c.component-in_default.result c.component-in_default.ensures.no_include

pub item-returns-in-Div-clause-reads : goal.item-returns-in-Div-clause-reads
item-returns-in-Div-clause-reads t c =
    reads_upto item_view c.args.tokens.now (c.args.at + 1) c.args.at _ (λ r g. tt) (λ s. div_item (rw c.in-Div.is at c.in-Keyword.ensures.next.1)) c.div.ensures.reads

pub item-returns-in-Include-clause-reads : goal.item-returns-in-Include-clause-reads
item-returns-in-Include-clause-reads t c =
    reads_upto item_view c.args.tokens.now (c.args.at + 1) c.args.at _ (λ r g. g) (λ s. include_item (rw c.in-Include.is at c.in-Keyword.ensures.next.1)) c.include.ensures.reads

pub item-returns-in_default-keyword-clause-reads : goal.item-returns-in_default-keyword-clause-reads
item-returns-in_default-keyword-clause-reads t c =
    reads_upto item_view c.args.tokens.now c.args.at c.args.at _ item_pattern (λ s. item_keyword c.in-Keyword.ensures.next.1 c.in_default-keyword.not-Div c.in_default-keyword.not-Include) c.component.ensures.reads

pub item-returns-in_default-clause-reads : goal.item-returns-in_default-clause-reads
item-returns-in_default-clause-reads t c =
    reads_upto item_view c.args.tokens.now c.args.at c.args.at _ item_pattern (λ s. item_other _ _ c.next.result c.next.ensures.next c.in_default.not-Keyword) c.component-in_default.ensures.reads

-- ---- div

pub div-returns-in_err-inside-clause-reads : goal.div-returns-in_err-inside-clause-reads
div-returns-in_err-inside-clause-reads t c =
    let p = err_from_is_err_and c.from_residual.result c.from_residual.ensures.1 in
    rw (p.1, p.2) (on_fault c.args.tokens.now c.args.at c.args.at _ (λ s bad k. open_stuck AreItems DivGives Anything can_items can_div k) c.in_err-inside.ensures.passes)

pub div-returns-in_err-items-clause-reads : goal.div-returns-in_err-items-clause-reads
div-returns-in_err-items-clause-reads t c =
    let p = err_from_is_err_and c.from_residual-in_err-items.result c.from_residual-in_err-items.ensures.1 in
    rw (p.1, p.2) (on_fault c.args.tokens.now c.in_ok-inside.inside c.args.at _
    (λ s bad k. stuck_upto (open_read AreItems DivGives Anything can_items can_div (c.in_ok-inside.ensures.passes s).1) (list_stuck AreItems DivGives Anything can_items can_div k)) c.in_err-items.ensures.reads)

pub div-returns-in_err-behind-clause-reads : goal.div-returns-in_err-behind-clause-reads
div-returns-in_err-behind-clause-reads t c =
    let p = err_from_is_err_and c.from_residual-in_err-behind.result c.from_residual-in_err-behind.ensures.1 in
    rw (p.1, p.2) (on_fault c.args.tokens.now c.in_ok-items.end c.args.at _
    (λ s bad k. stuck_upto (upto_then (open_read AreItems DivGives Anything can_items can_div (c.in_ok-inside.ensures.passes s).1) (list_read AreItems DivGives Anything can_items can_div (c.in_ok-items.ensures.reads s)))
    (brace_stuck AreItems DivGives Anything can_items can_div _ k)) c.in_err-behind.ensures.passes)

pub div-returns-clause-reads : goal.div-returns-clause-reads
div-returns-clause-reads t c = λ s.
    took_same (sym c.division.ensures.tree)
    (took_upto (upto_then (open_read AreItems DivGives Anything can_items can_div (c.in_ok-inside.ensures.passes s).1) (brace_read AreItems DivGives Anything can_items can_div (c.in_ok-items.ensures.reads s) (c.in_ok-behind.ensures.passes s).1)) (took_gives _ _))

pub div-returns-clause-lent : goal.div-returns-clause-lent
div-returns-clause-lent t c = λ s. subst (AreLent c.args.tokens.now c.args.at c.in_ok-behind.behind) (sym c.division.ensures.literals)
    (widened c.args.tokens.now c.args.at c.in_ok-inside.inside c.in_ok-items.end c.in_ok-behind.behind _ (omega (arith, c.in_ok-inside.ensures.inside.further)) (omega (arith, c.in_ok-behind.ensures.inside.further)) (c.in_ok-items.ensures.lent s))
