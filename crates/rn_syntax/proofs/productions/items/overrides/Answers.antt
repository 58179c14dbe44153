use Rattle.std.proofs.Common.{◌+◌, sym, ap, map}
use Rattle.std.proofs.lemmas.Result.{err_from_is_err_and}
use Rattle.rn_syntax.specs.inside.Follow.{Starts, no_brace}
use Rattle.rn_syntax.specs.Grammar.{AreInnerItems}
use Rattle.rn_syntax.specs.View.{item_view}
use Rattle.rn_syntax.proofs.ProductionsRead.Compose.{on_fault, took_same, took_upto, stuck_upto, upto_then, took_gives}
use Rattle.rn_syntax.proofs.ProductionsRead.Grouping.{list_stuck, list_read, brace_stuck, brace_read, can_inner}
use Rattle.rn_syntax.proofs.ProductionsRead.Inclusion.{ListGives, can_list, override_at, no_override}
use Rattle.rn_syntax.specs.Lent.{items_literals}
use Rattle.rn_syntax.proofs.productions.items.overrides.Goals as goal

pub returns-in_default-clause-reads : goal.returns-in_default-clause-reads
returns-in_default-clause-reads c = λ s. took_same (ap (map item_view) (sym c.new.ensures.items)) (no_override _ _ c.next.result c.next.ensures.next c.in_default.not-LeftBrace)

pub returns-in_err-items-clause-reads : goal.returns-in_err-items-clause-reads
returns-in_err-items-clause-reads c =
    let p = err_from_is_err_and c.from_residual.result c.from_residual.ensures.1 in
    rw (p.1, p.2) (on_fault c.args.tokens.now (c.args.at + 1) c.args.at _ (λ s bad k. stuck_upto (override_at c.in-LeftBrace.ensures.next.1) (list_stuck AreInnerItems ListGives (Starts no_brace) can_inner can_list k)) c.in_err-items.ensures.reads)

pub returns-in_err-behind-clause-reads : goal.returns-in_err-behind-clause-reads
returns-in_err-behind-clause-reads c =
    let p = err_from_is_err_and c.from_residual-in_err-behind.result c.from_residual-in_err-behind.ensures.1 in
    rw (p.1, p.2) (on_fault c.args.tokens.now c.in_ok-items.end c.args.at _
    (λ s bad k. stuck_upto (upto_then (override_at c.in-LeftBrace.ensures.next.1) (list_read AreInnerItems ListGives (Starts no_brace) can_inner can_list (c.in_ok-items.ensures.reads s))) (brace_stuck AreInnerItems ListGives (Starts no_brace) can_inner can_list _ k)) c.in_err-behind.ensures.passes)

pub returns-clause-reads : goal.returns-clause-reads
returns-clause-reads c = λ s.
    took_upto (upto_then (override_at c.in-LeftBrace.ensures.next.1) (brace_read AreInnerItems ListGives (Starts no_brace) can_inner can_list (c.in_ok-items.ensures.reads s) (c.in_ok-behind.ensures.passes s).1)) (took_gives _ _)

pub returns-in_default-clause-no_include : goal.returns-in_default-clause-no_include
returns-in_default-clause-no_include c = ap items_literals c.new.ensures.items
