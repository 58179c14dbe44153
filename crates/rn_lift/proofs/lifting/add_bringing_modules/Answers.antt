use Rattle.std.proofs.Common.{◌≡◌, ◌⊎◌, inr, None, arith}
use Rattle.std.specs.Prelude.{Contains}
use Rattle.std.proofs.lemmas.List.{take_all}
use Rattle.std.proofs.Common.{All, List, subst, ◌∙◌}
use Rattle.rn_scopes.specs.declared.scopes.Scope.{Scope}
use Rattle.rn_lift.specs.inside.Planned.{IsBrought}
use Rattle.rn_lift.specs.declared.lifted.LiftedModule.{LiftedModule}
use Rattle.rn_lift.proofs.ListsWithOneMore.{all_there, still_there}
use Rattle.rn_lift.proofs.LiftedModules.InPlan.{brought_more}
use Rattle.rn_lift.proofs.lifting.add_bringing_modules.Goals as goal

pub loop-scope-preserved : goal.loop-scope-preserved
loop-scope-preserved c =
    let old = c.args.modules.now.items in
    let ms = c.loop-scope.modules.items in
    let ns = c.push.new.self.items in
    let m = c.in_ok-module.module in
    record {
      kept = λ x h. still_there ms ns m x c.in_ok-push.ensures.items (c.loop-scope.invariant.kept x h);
      others = all_there (λ (x : LiftedModule). Contains old x ⊎ (x.basis ≡ None)) ms ns m c.in_ok-push.ensures.items c.loop-scope.invariant.others (inr c.in_ok-module.ensures.has_no_basis);
      brought = brought_more c.args.plan.now ms ns m c.scopes_brought-scope-items.result.now c.loop-scope.scope-index c.scope-item.result c.in_ok-push.ensures.items c.loop-scope-test.true c.scope-item.is c.in_ok-module.ensures c.loop-scope.invariant.brought;
    }

pub returns-clause-brought : goal.returns-clause-brought
returns-clause-brought c =
    let ss = c.scopes_brought-scope-items.result.now in
    let all = take_all c.loop-scope.scope-index ss (omega arith) in
    subst (λ (l : List Scope). All (IsBrought c.args.plan.now c.loop-scope.modules.items) l) (all ∙ c.scopes_brought-scope-items.ensures) c.loop-scope.invariant.brought
