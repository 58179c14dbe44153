use Rattle.std.proofs.lemmas.Result.{err_from_is_err_and}
use Rattle.rn_syntax.specs.View.{any_view}
use Rattle.rn_syntax.specs.inside.Boxes.{boxed_class_view}
use Rattle.rn_syntax.specs.Tree as t
use Rattle.rn_syntax.proofs.ProductionsRead.Compose.{on_fault, made_passed, made_reads}
use Rattle.rn_syntax.proofs.ProductionsRead.Classes.{followed_took, followed_stuck}
use Rattle.rn_syntax.proofs.productions.names.any_class.Goals as goal

pub returns-in_err-end-clause-reads : goal.returns-in_err-end-clause-reads
returns-in_err-end-clause-reads c =
    let p = err_from_is_err_and c.from_residual.result c.from_residual.ensures.1 in
    rw (p.1, p.2) (on_fault c.args.tokens.now c.args.at c.args.at _ (λ s bad k. followed_stuck (t.all (any_view c.args.any)) k) c.in_err-end.ensures.skips)

pub returns-clause-inside : goal.returns-clause-inside
returns-clause-inside c = made_passed boxed_class_view _ _ _ _ c.all_names.result c.all_names.ensures c.in_ok-end.ensures.inside

pub returns-clause-reads : goal.returns-clause-reads
returns-clause-reads c = made_reads boxed_class_view c.args.tokens.now c.args.at c.in_ok-end.end c.all_names.result c.all_names.ensures (λ s. followed_took (t.all (any_view c.args.any)) (c.in_ok-end.ensures.skips s))
