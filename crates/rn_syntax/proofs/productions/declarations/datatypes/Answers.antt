use Rattle.std.proofs.Common.{◌+◌}
use Rattle.std.proofs.lemmas.Result.{err_from_is_err_and}
use Rattle.rn_syntax.specs.View.{place_view}
use Rattle.rn_syntax.proofs.ProductionsRead.Compose.{on_fault, took_upto, stuck_upto}
use Rattle.rn_syntax.proofs.ProductionsRead.Declared.{datatypes_prefix, datatypes_upto, library_equals, library_stuck, library_took}
use Rattle.rn_syntax.proofs.productions.declarations.datatypes.Goals as goal

pub returns-in_err-prefix-clause-reads : goal.returns-in_err-prefix-clause-reads
returns-in_err-prefix-clause-reads c =
    let p = err_from_is_err_and c.from_residual.result c.from_residual.ensures.1 in
    rw (p.1, p.2) (on_fault c.args.tokens.now c.args.at c.args.at _ (λ s bad k. datatypes_prefix k) c.in_err-prefix.ensures.reads)

pub returns-in_err-value-clause-reads : goal.returns-in_err-value-clause-reads
returns-in_err-value-clause-reads c =
    let p = err_from_is_err_and c.from_residual-in_err-value.result c.from_residual-in_err-value.ensures.1 in
    rw (p.1, p.2) (on_fault c.args.tokens.now (c.args.at + 1) c.args.at _ (λ s bad k. stuck_upto (datatypes_upto (c.in_ok-prefix.ensures.reads s)) (library_equals (place_view c.in_ok-prefix.prefix) k)) c.in_err-value.ensures.passes)

pub returns-in_err-library-clause-reads : goal.returns-in_err-library-clause-reads
returns-in_err-library-clause-reads c =
    let p = err_from_is_err_and c.from_residual-in_err-library.result c.from_residual-in_err-library.ensures.1 in
    rw (p.1, p.2) (on_fault c.args.tokens.now c.in_ok-value.value c.args.at _ (λ s bad k. stuck_upto (datatypes_upto (c.in_ok-prefix.ensures.reads s)) (library_stuck (place_view c.in_ok-prefix.prefix) (c.in_ok-value.ensures.passes s).1 k)) c.in_err-library.ensures.reads)

pub returns-clause-reads : goal.returns-clause-reads
returns-clause-reads c = λ s. took_upto (datatypes_upto (c.in_ok-prefix.ensures.reads s)) (library_took (place_view c.in_ok-prefix.prefix) (c.in_ok-value.ensures.passes s).1 (c.in_ok-library.ensures.reads s))
