use Rattle.std.proofs.Common.{◌+◌, refl}
use Rattle.std.proofs.lemmas.Result.{err_from_is_err_and}
use Rattle.rn_text.specs.declared.keywords.Keyword.TheVariants as k
use Rattle.rn_syntax.specs.Terminal.{keyword}
use Rattle.rn_syntax.proofs.ProductionsRead.Compose.{on_fault}
use Rattle.rn_syntax.proofs.ProductionsRead.Next.{terminal_at}
use Rattle.rn_syntax.proofs.ProductionsRead.Inclusion.{no_inherit_here, inherit_equals, inherit_prefix, inherit_took}
use Rattle.rn_syntax.proofs.productions.items.inherit.Goals as goal

pub returns-then-not-is_keyword-clause-reads : goal.returns-then-not-is_keyword-clause-reads
returns-then-not-is_keyword-clause-reads c = λ s. no_inherit_here c.if-not-is_keyword.ensures.is

pub returns-in_err-value-clause-reads : goal.returns-in_err-value-clause-reads
returns-in_err-value-clause-reads c =
    let here = terminal_at c.args.tokens.now c.args.at (keyword k.Inherit) (c.if-not-is_keyword.ensures.inside refl) c.if-not-is_keyword.ensures.is in
    let p = err_from_is_err_and c.from_residual.result c.from_residual.ensures.1 in
    rw (p.1, p.2) (on_fault c.args.tokens.now (c.args.at + 1) c.args.at _ (λ s bad k. inherit_equals here.1 k) c.in_err-value.ensures.passes)

pub returns-in_err-prefix-clause-reads : goal.returns-in_err-prefix-clause-reads
returns-in_err-prefix-clause-reads c =
    let here = terminal_at c.args.tokens.now c.args.at (keyword k.Inherit) (c.if-not-is_keyword.ensures.inside refl) c.if-not-is_keyword.ensures.is in
    let p = err_from_is_err_and c.from_residual-in_err-prefix.result c.from_residual-in_err-prefix.ensures.1 in
    rw (p.1, p.2) (on_fault c.args.tokens.now c.in_ok-value.value c.args.at _ (λ s bad k. inherit_prefix here.1 (c.in_ok-value.ensures.passes s).1 k) c.in_err-prefix.ensures.reads)

pub returns-clause-reads : goal.returns-clause-reads
returns-clause-reads c =
    let here = terminal_at c.args.tokens.now c.args.at (keyword k.Inherit) (c.if-not-is_keyword.ensures.inside refl) c.if-not-is_keyword.ensures.is in
    λ s. inherit_took here.1 (c.in_ok-value.ensures.passes s).1 (c.in_ok-prefix.ensures.reads s)
