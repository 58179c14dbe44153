use Rattle.std.proofs.Common.{◌+◌, ◌∷◌, [], ◌∙◌, sym, ap, map, arith, refl}
use Rattle.std.proofs.lemmas.List.{map-append}
use Rattle.std.proofs.lemmas.Result.{err_from_is_err_and}
use Rattle.rn_syntax.specs.Grammar.{AreInnerItems}
use Rattle.rn_syntax.specs.inside.Follow.{Anything}
use Rattle.rn_syntax.specs.Lent.{items_literals}
use Rattle.rn_syntax.specs.View.{item_view}
use Rattle.rn_syntax.proofs.ProductionsRead.Lending.{none_more}
use Rattle.rn_syntax.proofs.ProductionsRead.Compose.{on_fault, took_same, took_upto, stuck_upto, reads_upto, took_gives, upto_then}
use Rattle.rn_syntax.proofs.ProductionsRead.Next.{token_at}
use Rattle.rn_syntax.proofs.ProductionsRead.Rows.{so_far_row, so_far_note, stuck_note, stuck_annotation, stuck_row, so_far_took, so_far_same}
use Rattle.rn_syntax.proofs.ProductionsRead.Grouping.{inner_row, inner_so_far, div_inner, inner_keyword, inner_other, item_pattern, open_stuck, open_read, list_stuck, list_read, brace_stuck, brace_read, can_inner, can_div, DivGives}
use Rattle.rn_syntax.proofs.productions.items.+inner_items.Goals as goal

-- ---- lists

pub inner_items-inner-init : goal.inner_items-inner-init
inner_items-inner-init t c = record { further = omega arith; inside = c.requires; so_far = λ s. so_far_same _ _ (sym (ap (map item_view) c.new-items.ensures.items)) (inner_so_far _); no_include = ap items_literals c.new-items.ensures.items }

pub inner_items-inner-preserved-then-begins_note : goal.inner_items-inner-preserved-then-begins_note
inner_items-inner-preserved-then-begins_note t c =
    let here = token_at c.args.tokens.now c.inner.end (c.inner-test.ensures.inside refl) in
    record {
      further = omega (arith, c.in_ok-end.ensures.inside.further);
      inside = c.in_ok-end.ensures.inside.inside;
      so_far = λ s. so_far_note inner_row _ (c.inner.invariant.so_far s) here.2 (sym c.if-begins_note.ensures.is) (c.in_ok-end.ensures.skips s);
      no_include = c.inner.invariant.no_include;
    }

pub inner_items-inner-preserved : goal.inner_items-inner-preserved
inner_items-inner-preserved t c = record {
  further = omega (arith, c.in_ok-body.ensures.inside.further, c.in_ok-item.ensures.inside.further);
  inside = c.in_ok-item.ensures.inside.inside;
  so_far = λ s. so_far_same _ _ (sym (ap (map item_view) c.in_ok-push.ensures.items ∙ map-append item_view c.inner.items.items (c.in_ok-item.item ∷ [])))
      (so_far_row inner_row _ (c.inner.invariant.so_far s) (c.in_ok-body.ensures.skips s) (c.in_ok-item.ensures.reads s));
  no_include = none_more c.inner.items.items _ c.in_ok-item.item c.in_ok-push.ensures.items c.inner.invariant.no_include c.in_ok-item.ensures.no_include;
}

pub inner_items-returns-in_err-end-clause-reads : goal.inner_items-returns-in_err-end-clause-reads
inner_items-returns-in_err-end-clause-reads t c =
    let here = token_at c.args.tokens.now c.inner.end (c.inner-test.ensures.inside refl) in
    let p = err_from_is_err_and c.from_residual.result c.from_residual.ensures.1 in
    rw (p.1, p.2) (on_fault c.args.tokens.now (c.inner.end + 1) c.args.at _ (λ s bad k. stuck_note inner_row _ (c.inner.invariant.so_far s) here.2 (sym c.if-begins_note.ensures.is) k) c.in_err-end.ensures.skips)

pub inner_items-returns-in_err-body-clause-reads : goal.inner_items-returns-in_err-body-clause-reads
inner_items-returns-in_err-body-clause-reads t c =
    let p = err_from_is_err_and c.from_residual-in_err-body.result c.from_residual-in_err-body.ensures.1 in
    rw (p.1, p.2) (on_fault c.args.tokens.now c.inner.end c.args.at _ (λ s bad k. stuck_annotation inner_row _ (c.inner.invariant.so_far s) (sym c.inner-test.ensures.is) (sym c.if-begins_note.ensures.is) k) c.in_err-body.ensures.skips)

pub inner_items-returns-in_err-item-clause-reads : goal.inner_items-returns-in_err-item-clause-reads
inner_items-returns-in_err-item-clause-reads t c =
    let p = err_from_is_err_and c.from_residual-in_err-item.result c.from_residual-in_err-item.ensures.1 in
    rw (p.1, p.2) (on_fault c.args.tokens.now c.in_ok-body.body c.args.at _ (λ s bad k. stuck_row inner_row _ (c.inner.invariant.so_far s) (sym c.inner-test.ensures.is) (sym c.if-begins_note.ensures.is) (c.in_ok-body.ensures.skips s) k) c.in_err-item.ensures.reads)

pub inner_items-returns-clause-reads : goal.inner_items-returns-clause-reads
inner_items-returns-clause-reads t c = λ s. so_far_took inner_row _ (c.inner.invariant.so_far s) (sym c.inner-test.ensures.is)

-- ---- one item

pub inner_item-returns-in-Div-clause-reads : goal.inner_item-returns-in-Div-clause-reads
inner_item-returns-in-Div-clause-reads t c =
    reads_upto item_view c.args.tokens.now (c.args.at + 1) c.args.at _ (λ r g. tt) (λ s. div_inner (rw c.in-Div.is at c.in-Keyword.ensures.next.1)) c.inner_div.ensures.reads

pub inner_item-returns-in_default-keyword-clause-reads : goal.inner_item-returns-in_default-keyword-clause-reads
inner_item-returns-in_default-keyword-clause-reads t c =
    reads_upto item_view c.args.tokens.now c.args.at c.args.at _ item_pattern (λ s. inner_keyword c.in-Keyword.ensures.next.1 c.in_default-keyword.not-Div) c.component.ensures.reads

pub inner_item-returns-in_default-clause-reads : goal.inner_item-returns-in_default-clause-reads
inner_item-returns-in_default-clause-reads t c =
    reads_upto item_view c.args.tokens.now c.args.at c.args.at _ item_pattern (λ s. inner_other _ _ c.next.result c.next.ensures.next c.in_default.not-Keyword) c.component-in_default.ensures.reads

-- ---- div

pub inner_div-returns-in_err-inside-clause-reads : goal.inner_div-returns-in_err-inside-clause-reads
inner_div-returns-in_err-inside-clause-reads t c =
    let p = err_from_is_err_and c.from_residual.result c.from_residual.ensures.1 in
    rw (p.1, p.2) (on_fault c.args.tokens.now c.args.at c.args.at _ (λ s bad k. open_stuck AreInnerItems DivGives Anything can_inner can_div k) c.in_err-inside.ensures.passes)

pub inner_div-returns-in_err-items-clause-reads : goal.inner_div-returns-in_err-items-clause-reads
inner_div-returns-in_err-items-clause-reads t c =
    let p = err_from_is_err_and c.from_residual-in_err-items.result c.from_residual-in_err-items.ensures.1 in
    rw (p.1, p.2) (on_fault c.args.tokens.now c.in_ok-inside.inside c.args.at _
    (λ s bad k. stuck_upto (open_read AreInnerItems DivGives Anything can_inner can_div (c.in_ok-inside.ensures.passes s).1) (list_stuck AreInnerItems DivGives Anything can_inner can_div k)) c.in_err-items.ensures.reads)

pub inner_div-returns-in_err-behind-clause-reads : goal.inner_div-returns-in_err-behind-clause-reads
inner_div-returns-in_err-behind-clause-reads t c =
    let p = err_from_is_err_and c.from_residual-in_err-behind.result c.from_residual-in_err-behind.ensures.1 in
    rw (p.1, p.2) (on_fault c.args.tokens.now c.in_ok-items.end c.args.at _
    (λ s bad k. stuck_upto (upto_then (open_read AreInnerItems DivGives Anything can_inner can_div (c.in_ok-inside.ensures.passes s).1) (list_read AreInnerItems DivGives Anything can_inner can_div (c.in_ok-items.ensures.reads s)))
    (brace_stuck AreInnerItems DivGives Anything can_inner can_div _ k)) c.in_err-behind.ensures.passes)

pub inner_div-returns-clause-reads : goal.inner_div-returns-clause-reads
inner_div-returns-clause-reads t c = λ s.
    took_same (sym c.division.ensures.tree)
    (took_upto (upto_then (open_read AreInnerItems DivGives Anything can_inner can_div (c.in_ok-inside.ensures.passes s).1) (brace_read AreInnerItems DivGives Anything can_inner can_div (c.in_ok-items.ensures.reads s) (c.in_ok-behind.ensures.passes s).1)) (took_gives _ _))
