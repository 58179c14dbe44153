use Rattle.std.proofs.Common.{◌∷◌, [], sym, ap, ◌∙◌, map, arith}
use Rattle.std.proofs.lemmas.List.{map-append}
use Rattle.std.proofs.lemmas.Result.{err_from_is_err_and}
use Rattle.rn_syntax.specs.View.{declaration_view}
use Rattle.rn_syntax.proofs.ProductionsRead.Compose.{on_fault}
use Rattle.rn_syntax.proofs.ProductionsRead.Declared.{declared_start, declared_read, declared_stuck, declared_took, so_far_same}
use Rattle.rn_syntax.proofs.productions.declarations.declarations.Goals as goal

pub declarations-init : goal.declarations-init
declarations-init c = record { inside = omega arith; so_far = λ s. so_far_same _ _ (ap (map declaration_view) (sym c.new-declarations.ensures.items)) (declared_start _) }

pub declarations-preserved : goal.declarations-preserved
declarations-preserved c = record {
  inside = c.in_ok-declaration.ensures.inside.inside;
  so_far = λ s. so_far_same _ _ (sym (ap (map declaration_view) c.in_ok-push.ensures.items ∙ map-append declaration_view c.declarations.declarations.items (c.in_ok-declaration.declaration ∷ [])))
      (declared_read _ _ _ (c.declarations.invariant.so_far s) (sym c.declarations-test.ensures.is) (c.in_ok-declaration.ensures.reads s));
}

pub returns-in_err-declaration-clause-reads : goal.returns-in_err-declaration-clause-reads
returns-in_err-declaration-clause-reads c =
    let p = err_from_is_err_and c.from_residual.result c.from_residual.ensures.1 in
    rw (p.1, p.2) (on_fault c.args.tokens.now c.declarations.end 0 _ (λ s bad k. declared_stuck _ _ _ (c.declarations.invariant.so_far s) (sym c.declarations-test.ensures.is) k) c.in_err-declaration.ensures.reads)

pub returns-clause-reads : goal.returns-clause-reads
returns-clause-reads c = λ s. declared_took _ _ _ (c.declarations.invariant.so_far s) (sym c.declarations-test.ensures.is)
