-- The tree has the fault, and no bracket was too many.
use Rattle.std.proofs.Common.{◌∙◌, sym, subst}
use Rattle.std.specs.Prelude.{MatchOption}
use Rattle.rn_syntax.specs.Faults.{HasModuleFault, HasNoFault}
use Rattle.rn_syntax.specs.View.{module_view}
use Rattle.rn_syntax.proofs.FaultPlaces.TreeFaults.{found_fault, syntax_fault}
use Rattle.std.proofs.lemmas.Result.{err_from_is_err_and}
use Rattle.rn_syntax.proofs.reader.parse.Goals as goal

pub returns-in-Some-2-clause-fault : goal.returns-in-Some-2-clause-fault
returns-in-Some-2-clause-fault c =
    let m = module_view c.in_ok-module.module in
    found_fault c.args.tokens.now m c.in-Some-2.fault (sym c.too_deep.ensures ∙ c.in_default.is) c.in_ok-module.ensures.tree
    (subst (λ o. MatchOption o (HasNoFault m) (HasModuleFault m)) c.in-Some-2.is c.in_ok-fault.ensures)

pub returns-in_err-module-clause-fault : goal.returns-in_err-module-clause-fault
returns-in_err-module-clause-fault c =
    let p = err_from_is_err_and c.from_residual.result c.from_residual.ensures.1 in
    rw (p.1, p.2) (syntax_fault c.args.tokens.now _ (sym c.too_deep.ensures ∙ c.in_default.is) c.in_err-module.ensures.place)
