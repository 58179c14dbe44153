use Rattle.std.proofs.Common.{arith, ◌+◌}
use Rattle.std.proofs.lemmas.Result.{err_from_is_err_and}
use Rattle.rn_syntax.proofs.ProductionsRead.Compose.{upto_at, upto_then, took_upto, stuck_upto, on_fault}
use Rattle.rn_syntax.proofs.ProductionsRead.Skipping.{follow_then, follow_stuck, no_follows}
use Rattle.rn_syntax.proofs.productions.annotations.skip_follows.Goals as goal

pub follows-init : goal.follows-init
follows-init c = record { further = omega arith; inside = c.requires; so_far = λ s. upto_at (λ t z r d. d) (λ t a z r d g. d) }

pub follows-preserved : goal.follows-preserved
follows-preserved c = record {
  further = omega (arith, c.in_ok-at.ensures.inside.further);
  inside = c.in_ok-at.ensures.inside.inside;
  so_far = λ s. upto_then (c.follows.invariant.so_far s) (follow_then c.in-Follow.ensures.next.1 (c.in_ok-at.ensures.skips s));
}

pub returns-in_err-at-clause-skips : goal.returns-in_err-at-clause-skips
returns-in_err-at-clause-skips c =
    let p = err_from_is_err_and c.from_residual.result c.from_residual.ensures.1 in
    rw (p.1, p.2) (on_fault c.args.tokens.now (c.follows.at + 1) c.args.at _ (λ s bad k. stuck_upto (c.follows.invariant.so_far s) (follow_stuck c.in-Follow.ensures.next.1 k)) c.in_err-at.ensures.skips)

pub returns-clause-skips : goal.returns-clause-skips
returns-clause-skips c = λ s. took_upto (c.follows.invariant.so_far s) (no_follows _ _ c.next.result c.next.ensures.next c.in_default.not-Follow)
