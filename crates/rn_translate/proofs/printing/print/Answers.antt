-- The declarations, and the terms behind them.
use Rattle.std.proofs.Common.{◌++◌, [], subst}
use Rattle.rn_translate.specs.inside.DraftTokens.{IsPrintedAs}
use Rattle.rn_translate.specs.inside.PrintedTerms.{declared_tokens, terms_tokens}
use Rattle.rn_translate.proofs.PrintedMeanings.{printed_meant}
use Rattle.rn_translate.proofs.WrittenTokens.{writes_more, writes_then_none}
use Rattle.rn_translate.proofs.printing.print.Goals as goal

pub returns-clause-tokens : goal.returns-clause-tokens
returns-clause-tokens c =
    let first = declared_tokens c.args.declared.now in
    let more = terms_tokens c.args.declared.now c.args.terms.now in
    let new = c.new-whole.result in
    let both = writes_more new c.put_declarations.new.self c.put_terms.new.self first more c.in_ok-put_declarations.ensures.tokens c.in_ok-put_terms.ensures.tokens in
    writes_then_none new c.put_terms.new.self c.end_line.new.self (first ++ more) both c.in_ok-end_line.ensures.tokens [] c.new-whole.ensures.tokens

pub returns-clause-meant : goal.returns-clause-meant
returns-clause-meant c = λ default ts is.
    subst (IsPrintedAs c.end_line.new.self) (printed_meant c.args.declared.now c.args.terms.now default ts is) (returns-clause-tokens c)
