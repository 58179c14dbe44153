use Rattle.std.proofs.Common.{arith, ◌∷◌, [], ◌∙◌, sym, ap}
use Rattle.std.proofs.lemmas.List.{map-append}
use Rattle.std.proofs.lemmas.Result.{err_from_is_err_and}
use Rattle.rn_syntax.specs.View.{params_view, param_view}
use Rattle.rn_syntax.proofs.ProductionsRead.Compose.{on_fault, took_same}
use Rattle.rn_syntax.proofs.ProductionsRead.Parameters.{params_start, params_read, params_stuck, params_took, params_same, no_params}
use Rattle.rn_syntax.proofs.ProductionsRead.Next.{brace_at}
use Rattle.rn_syntax.proofs.productions.datatypes.params.Goals as goal

pub params-init : goal.params-init
params-init c = record {
  further = omega arith;
  inside = omega (arith, c.in-LeftBrace.ensures.inside);
  so_far = λ s. params_same (ap params_view (sym c.new-params.ensures.items)) (params_start c.in-LeftBrace.ensures.next.1);
}

pub params-preserved : goal.params-preserved
params-preserved c = record {
  further = omega (arith, c.in_ok-param.ensures.inside.further);
  inside = c.in_ok-param.ensures.inside.inside;
  so_far = λ s. params_same (sym (ap params_view c.in_ok-push.ensures.items ∙ map-append param_view c.params.params.items (c.in_ok-param.param ∷ [])))
      (params_read _ (c.params.invariant.so_far s) (sym c.is_right_brace.ensures.is ∙ c.params-test.true) (c.in_ok-param.ensures.reads s));
}

pub returns-in_default-clause-reads : goal.returns-in_default-clause-reads
returns-in_default-clause-reads c = λ s. took_same (ap params_view (sym c.new-params.ensures.items)) (no_params _ _ c.next.result c.next.ensures.next c.in_default.not-LeftBrace)

pub returns-in_err-param-clause-reads : goal.returns-in_err-param-clause-reads
returns-in_err-param-clause-reads c =
    let p = err_from_is_err_and c.from_residual.result c.from_residual.ensures.1 in
    rw (p.1, p.2) (on_fault c.args.tokens.now c.params.end c.args.at _ (λ s bad k. params_stuck _ (c.params.invariant.so_far s) (sym c.is_right_brace.ensures.is ∙ c.params-test.true) k) c.in_err-param.ensures.reads)

pub returns-clause-reads : goal.returns-clause-reads
returns-clause-reads c = λ s.
    let here = brace_at c.args.tokens.now c.params.end (c.is_right_brace.ensures.inside c.params-test.false) (sym c.is_right_brace.ensures.is ∙ c.params-test.false) in
    params_took _ (c.params.invariant.so_far s) here.1
