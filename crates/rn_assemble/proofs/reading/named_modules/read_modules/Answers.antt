-- The names and texts that the loop met are the first of the effective modules.
use Rattle.std.proofs.Common.{◌∷◌, ◌++◌, [], refl, subst, sym}
use Rattle.std.specs.Slice.Iter.{iter_rest}
use Rattle.std.proofs.lemmas.Iterator.{YieldsList-from_slice}
use Rattle.std.proofs.lemmas.Iterator.Consumers.{YieldsList-end, YieldsList-so_far, YieldsList-turn}
use Rattle.std.proofs.lemmas.Result.{err_from_is_err_and}
use Rattle.rn_assemble.specs.Refused.{IsFirstRefusal}
use Rattle.rn_assemble.proofs.Answering.ReadModules.{AreReadFrom, read_more, all_met, all_in_order, met_refused}
use Rattle.rn_assemble.proofs.reading.named_modules.read_modules.Goals as goal

pub returns-in_err-tree-clause-err : goal.returns-in_err-tree-clause-err
returns-in_err-tree-clause-err c =
    let rest = iter_rest c.iter-module-items.result in
    let road = YieldsList-from_slice rest (cc) in
    let so_far = YieldsList-so_far road c.loop-module.yielded _ c.loop-module.yielded_by in
    let turn = YieldsList-turn road c.loop-module.yielded _ c.loop-module.yielded_by _ _ c.in-Some.module c.in-Some.is c.next.ensures.steps in
    let p = err_from_is_err_and c.from_residual-in_err-tree.result c.from_residual-in_err-tree.ensures.1 in
    rw (p.1) (subst (IsFirstRefusal c.args.set.now) (sym p.2) (met_refused c.args.set.now _ c.in_ok-effective_modules.ensures.modules rest c.iter-module-items.ensures.items c.loop-module.yielded c.loop-module.modules.items c.loop-module.invariant so_far c.in-Some.module.now turn c.in_err-tree.field-0.0 c.in_err-tree.ensures))

pub loop-module-preserved : goal.loop-module-preserved
loop-module-preserved c =
    subst (AreReadFrom (c.loop-module.yielded ++ c.in-Some.module ∷ [])) (sym c.in_ok-push.ensures.items)
    (read_more c.loop-module.yielded c.loop-module.modules.items c.in-Some.module (record { name = c.in-Some.module.now.0; tree = c.in_ok-tree.tree }) c.loop-module.invariant (refl, c.in_ok-tree.ensures))

pub returns-clause-ok : goal.returns-clause-ok
returns-clause-ok c =
    let rest = iter_rest c.iter-module-items.result in
    let all = YieldsList-end (YieldsList-from_slice rest (cc)) c.loop-module.yielded _ c.loop-module.yielded_by _ _ c.in-None.is c.next.ensures.steps in
    all_met c.args.set.now _ c.in_ok-effective_modules.ensures.modules rest c.iter-module-items.ensures.items c.loop-module.yielded c.loop-module.modules.items c.loop-module.invariant all.0

pub returns-clause-in_order : goal.returns-clause-in_order
returns-clause-in_order c =
    let rest = iter_rest c.iter-module-items.result in
    let all = YieldsList-end (YieldsList-from_slice rest (cc)) c.loop-module.yielded _ c.loop-module.yielded_by _ _ c.in-None.is c.next.ensures.steps in
    all_in_order c.args.set.now _ c.in_ok-effective_modules.ensures.modules rest c.iter-module-items.ensures.items c.loop-module.yielded c.loop-module.modules.items c.loop-module.invariant all.0
