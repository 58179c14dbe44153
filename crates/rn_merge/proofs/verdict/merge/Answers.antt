use Rattle.std.proofs.lemmas.Result.{IfOk-weaker}
use Rattle.rn_assemble.specs.GrammarView.{grammar_view}
use Rattle.rn_assemble.specs.ShortTexts.{short_texts}
use Rattle.rn_simplify.specs.NormalView.{normal_view}
use Rattle.rn_merge.proofs.Verdicts.Schemas.{answered_refusal, lacking, printed_answer, printed_known, printed_refusal, printed_schema}
use Rattle.rn_merge.proofs.Verdicts.SetVerdict.{answered_first}
use Rattle.rn_merge.proofs.verdict.merge.Goals as goal

pub returns-in_err-grammar-clause-verdict : goal.returns-in_err-grammar-clause-verdict
returns-in_err-grammar-clause-verdict c =
    answered_first c.args.set.now c.from_residual.result c.in_err-grammar.field-0.0 c.from_residual.ensures.1 c.in_err-grammar.ensures

pub returns-in_err-grammar-clause-first : goal.returns-in_err-grammar-clause-first
returns-in_err-grammar-clause-first c =
    let s = c.args.set.now in
    answered_refusal s c.from_residual.result (answered_first s c.from_residual.result c.in_err-grammar.field-0.0 c.from_residual.ensures.1 c.in_err-grammar.ensures)

pub returns-in_err-normal-clause-first : goal.returns-in_err-normal-clause-first
returns-in_err-normal-clause-first c = lacking c.args.set.now c.from_residual-in_err-normal.result c.from_residual-in_err-normal.ensures.1

pub print_long-requires-clause-known : goal.print_long-requires-clause-known
print_long-requires-clause-known c =
    let short = c.in_ok-grammar.field-0 in
    printed_known c.args.set.now (short_texts short.uris) (grammar_view short.grammar) (normal_view c.in_ok-normal.normal) c.in_ok-grammar.ensures c.in_ok-normal.ensures.canonical

pub returns-clause-verdict : goal.returns-clause-verdict
returns-clause-verdict c =
    let short = c.in_ok-grammar.field-0 in
    printed_answer c.args.set.now (short_texts short.uris) (grammar_view short.grammar) (normal_view c.in_ok-normal.normal) c.in_ok-grammar.ensures c.in_ok-normal.ensures.canonical
    c.print_long.result c.print_long.ensures.ok c.print_long.ensures.err

pub returns-clause-first : goal.returns-clause-first
returns-clause-first c =
    let short = c.in_ok-grammar.field-0 in
    printed_refusal c.args.set.now (short_texts short.uris) (grammar_view short.grammar) (normal_view c.in_ok-normal.normal) c.in_ok-grammar.ensures c.in_ok-normal.ensures.canonical
    c.print_long.result c.print_long.ensures.ok c.print_long.ensures.err

pub returns-clause-documents : goal.returns-clause-documents
returns-clause-documents c =
    let short = c.in_ok-grammar.field-0 in
    IfOk-weaker c.print_long.result _ _ (λ t h. h.documents)
    (printed_schema c.args.set.now (short_texts short.uris) (grammar_view short.grammar) (normal_view c.in_ok-normal.normal) c.in_ok-grammar.ensures c.in_ok-normal.ensures.canonical
    c.print_long.result c.print_long.ensures.ok c.print_long.ensures.err)

pub returns-clause-unrefused : goal.returns-clause-unrefused
returns-clause-unrefused c =
    let short = c.in_ok-grammar.field-0 in
    IfOk-weaker c.print_long.result _ _ (λ t h. h.unrefused)
    (printed_schema c.args.set.now (short_texts short.uris) (grammar_view short.grammar) (normal_view c.in_ok-normal.normal) c.in_ok-grammar.ensures c.in_ok-normal.ensures.canonical
    c.print_long.result c.print_long.ensures.ok c.print_long.ensures.err)

pub returns-clause-plain_once : goal.returns-clause-plain_once
returns-clause-plain_once c =
    let short = c.in_ok-grammar.field-0 in
    IfOk-weaker c.print_long.result _ _ (λ t h. h.plain_once)
    (printed_schema c.args.set.now (short_texts short.uris) (grammar_view short.grammar) (normal_view c.in_ok-normal.normal) c.in_ok-grammar.ensures c.in_ok-normal.ensures.canonical
    c.print_long.result c.print_long.ensures.ok c.print_long.ensures.err)

pub returns-clause-one_method : goal.returns-clause-one_method
returns-clause-one_method c =
    let short = c.in_ok-grammar.field-0 in
    IfOk-weaker c.print_long.result _ _ (λ t h. h.one_method)
    (printed_schema c.args.set.now (short_texts short.uris) (grammar_view short.grammar) (normal_view c.in_ok-normal.normal) c.in_ok-grammar.ensures c.in_ok-normal.ensures.canonical
    c.print_long.result c.print_long.ensures.ok c.print_long.ensures.err)

pub returns-clause-again : goal.returns-clause-again
returns-clause-again c =
    let short = c.in_ok-grammar.field-0 in
    IfOk-weaker c.print_long.result _ _ (λ t h. h.again)
    (printed_schema c.args.set.now (short_texts short.uris) (grammar_view short.grammar) (normal_view c.in_ok-normal.normal) c.in_ok-grammar.ensures c.in_ok-normal.ensures.canonical
    c.print_long.result c.print_long.ensures.ok c.print_long.ensures.err)

pub returns-clause-alone : goal.returns-clause-alone
returns-clause-alone c =
    let short = c.in_ok-grammar.field-0 in
    IfOk-weaker c.print_long.result _ _ (λ t h. h.alone)
    (printed_schema c.args.set.now (short_texts short.uris) (grammar_view short.grammar) (normal_view c.in_ok-normal.normal) c.in_ok-grammar.ensures c.in_ok-normal.ensures.canonical
    c.print_long.result c.print_long.ensures.ok c.print_long.ensures.err)
