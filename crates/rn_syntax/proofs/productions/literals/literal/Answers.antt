use Rattle.std.proofs.Common.{ℕ, arith, ap, sym, ◌∙◌, ◌+◌, ◌++◌, refl, string_bytes}
use Rattle.rn_syntax.specs.Grammar.{Tokens}
use Rattle.std.proofs.lemmas.Result.{err_from_is_err_and}
use Rattle.rn_syntax.specs.inside.Follow.{first_terminal, no_tilde}
use Rattle.rn_syntax.specs.inside.Readers.{rest}
use Rattle.rn_syntax.proofs.ProductionsRead.Compose.{on_fault}
use Rattle.rn_syntax.proofs.ProductionsRead.Segmented.{literal_first, literal_none, literal_more, literal_stuck, literal_end, joins_same, borrows_alone, copied, ends_at}
use Rattle.rn_syntax.proofs.productions.literals.literal.Goals as goal

pub segments-init : goal.segments-init
segments-init c = record {
  further = c.in_ok-first.ensures.inside.further;
  inside = c.in_ok-first.ensures.inside.inside;
  so_far = λ s. joins_same (sym c.in_ok-text.ensures.ok) (literal_first (c.in_ok-first.ensures.reads s));
}

pub segments-preserved : goal.segments-preserved
segments-preserved c = record {
  further = omega (arith, c.in_ok-more.ensures.inside.further);
  inside = c.in_ok-more.ensures.inside.inside;
  so_far = λ s. joins_same (sym (c.in_ok-push_str.ensures.bytes ∙ ap (λ l. string_bytes c.segments.text ++ l) c.as_str.ensures.value))
      (literal_more (c.segments.invariant.so_far s) c.in-Tilde-next.ensures.next.1 (c.in_ok-more.ensures.reads s));
}

pub segments-preserved-in_ok-push_str : goal.segments-preserved-in_ok-push_str
segments-preserved-in_ok-push_str c = record {
  further = omega (arith, c.in_ok-more.ensures.inside.further);
  inside = c.in_ok-more.ensures.inside.inside;
  so_far = λ s. joins_same (sym (c.in_ok-push_str.ensures.bytes ∙ ap (λ l. string_bytes c.segments.text ++ l) c.as_str.ensures.value))
      (literal_more (c.segments.invariant.so_far s) c.in-Tilde-next.ensures.next.1 (c.in_ok-more.ensures.reads s));
}

pub returns-in_default-clause-reads : goal.returns-in_default-clause-reads
returns-in_default-clause-reads c = λ s. literal_end _ _ refl (literal_first (c.in_ok-first.ensures.reads s)) c.next.ensures.next c.in_default.not-Tilde

pub returns-in_err-more-clause-reads : goal.returns-in_err-more-clause-reads
returns-in_err-more-clause-reads c =
    let p = err_from_is_err_and c.from_residual-in_err-more.result c.from_residual-in_err-more.ensures.1 in
    rw (p.1, p.2) (on_fault c.args.tokens.now (c.segments.end + 1) c.args.at _ (λ s bad k. literal_stuck (c.segments.invariant.so_far s) c.in-Tilde-next.ensures.next.1 k) c.in_err-more.ensures.reads)

pub returns-in_err-first-clause-reads : goal.returns-in_err-first-clause-reads
returns-in_err-first-clause-reads c =
    let p = err_from_is_err_and c.from_residual.result c.from_residual.ensures.1 in
    rw (p.1, p.2) (on_fault c.args.tokens.now c.args.at c.args.at _ (λ s bad k. literal_none k) c.in_err-first.ensures.reads)

pub returns-clause-reads : goal.returns-clause-reads
returns-clause-reads c = λ s. literal_end _ _ refl (c.segments.invariant.so_far s) c.next-in-segments.ensures.next c.in_default-next.not-Tilde

pub returns-in_default-clause-borrows : goal.returns-in_default-clause-borrows
returns-in_default-clause-borrows c = λ s x e.
    borrows_alone _ _ _ (c.in_ok-first.ensures.borrows s x e)
    (ap (λ (n : ℕ). no_tilde (first_terminal (rest c.args.tokens.now n))) (sym c.in_ok-first.ensures.one) ∙ ends_at _ _ c.next.result c.next.ensures.next c.in_default.not-Tilde)

pub returns-clause-borrows : goal.returns-clause-borrows
returns-clause-borrows c = λ s x e.
    copied _ _ (ap (λ (n : ℕ). no_tilde (first_terminal (rest c.args.tokens.now n))) (sym c.in_ok-first.ensures.one) ∙ ap (λ (ts : Tokens). no_tilde (first_terminal ts)) c.in-Tilde.ensures.next.1)
