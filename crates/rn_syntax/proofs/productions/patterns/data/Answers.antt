-- A literal makes a value; what else comes leaves a datum.
use Rattle.std.proofs.lemmas.Result.{err_from_is_err_and}
use Rattle.rn_syntax.specs.View.{boxed_view, datatype_view}
use Rattle.rn_syntax.proofs.ProductionsRead.Compose.{on_fault, reads_upto, made_reads, made_passed}
use Rattle.rn_syntax.proofs.ProductionsRead.Operands.{no_segment, valued_at, datum_took, datum_stuck}
use Rattle.rn_syntax.proofs.productions.patterns.data.Goals as goal

pub returns-in-Segment-clause-reads : goal.returns-in-Segment-clause-reads
returns-in-Segment-clause-reads c = reads_upto boxed_view c.args.tokens.now c.args.at c.args.at _ (λ r w. w) (λ s. valued_at (datatype_view c.args.datatype) c.in-Segment.ensures.next.1) c.typed_value.ensures.reads

pub returns-in_err-params-clause-reads : goal.returns-in_err-params-clause-reads
returns-in_err-params-clause-reads c =
    let p = err_from_is_err_and c.from_residual.result c.from_residual.ensures.1 in
    let e = no_segment _ _ c.next.result c.next.ensures.next c.in_default.not-Segment in
    rw (p.1, p.2) (on_fault c.args.tokens.now c.args.at c.args.at _ (λ s bad k. datum_stuck (datatype_view c.args.datatype) e k) c.in_err-params.ensures.reads)

pub returns-clause-inside : goal.returns-clause-inside
returns-clause-inside c = made_passed boxed_view _ _ _ _ c.datum.result c.datum.ensures c.in_ok-params.ensures.inside

pub returns-clause-reads : goal.returns-clause-reads
returns-clause-reads c =
    let e = no_segment _ _ c.next.result c.next.ensures.next c.in_default.not-Segment in
    made_reads boxed_view c.args.tokens.now c.args.at c.in_ok-params.end c.datum.result c.datum.ensures (λ s. datum_took (datatype_view c.args.datatype) e (c.in_ok-params.ensures.reads s))
