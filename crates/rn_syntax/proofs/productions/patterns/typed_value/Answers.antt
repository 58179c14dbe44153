use Rattle.std.proofs.lemmas.Result.{err_from_is_err_and}
use Rattle.rn_syntax.specs.View.{boxed_view, datatype_view}
use Rattle.rn_syntax.proofs.ProductionsRead.Compose.{on_fault, made_reads, made_advanced}
use Rattle.rn_syntax.proofs.ProductionsRead.Operands.{value_took, value_stuck}
use Rattle.rn_syntax.proofs.productions.patterns.typed_value.Goals as goal

pub returns-in_err-text-clause-reads : goal.returns-in_err-text-clause-reads
returns-in_err-text-clause-reads c =
    let p = err_from_is_err_and c.from_residual.result c.from_residual.ensures.1 in
    rw (p.1, p.2) (on_fault c.args.tokens.now c.args.at c.args.at _ (λ s bad k. value_stuck (datatype_view c.args.datatype) k) c.in_err-text.ensures.reads)

pub returns-clause-inside : goal.returns-clause-inside
returns-clause-inside c = made_advanced boxed_view _ _ _ _ c.value.result c.value.ensures c.in_ok-text.ensures.inside

pub returns-clause-reads : goal.returns-clause-reads
returns-clause-reads c = made_reads boxed_view c.args.tokens.now c.args.at c.in_ok-text.end c.value.result c.value.ensures (λ s. value_took (datatype_view c.args.datatype) (c.in_ok-text.ensures.reads s))
