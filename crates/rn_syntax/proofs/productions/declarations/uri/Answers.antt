use Rattle.std.proofs.Common.{refl}
use Rattle.std.proofs.lemmas.Result.{err_from_is_err_and}
use Rattle.rn_syntax.proofs.ProductionsRead.Compose.{on_fault}
use Rattle.rn_text.specs.declared.keywords.Keyword.TheVariants as k
use Rattle.rn_syntax.specs.Terminal.{keyword}
use Rattle.rn_syntax.proofs.ProductionsRead.Declared.{inherit_took, uri_took, uri_stuck}
use Rattle.rn_syntax.proofs.ProductionsRead.Next.{terminal_at}
use Rattle.rn_syntax.proofs.productions.declarations.uri.Goals as goal

pub returns-then-is_keyword-clause-reads : goal.returns-then-is_keyword-clause-reads
returns-then-is_keyword-clause-reads c = λ s. inherit_took (terminal_at c.args.tokens.now c.args.at (keyword k.Inherit) (c.if-is_keyword.ensures.inside refl) c.if-is_keyword.ensures.is).1

pub returns-in_err-text-clause-reads : goal.returns-in_err-text-clause-reads
returns-in_err-text-clause-reads c =
    let p = err_from_is_err_and c.from_residual.result c.from_residual.ensures.1 in
    rw (p.1, p.2) (on_fault c.args.tokens.now c.args.at c.args.at _ (λ s bad k. uri_stuck c.if-is_keyword.ensures.is k) c.in_err-text.ensures.reads)

pub returns-clause-reads : goal.returns-clause-reads
returns-clause-reads c = λ s. uri_took c.if-is_keyword.ensures.is (c.in_ok-text.ensures.reads s)
