-- The search by names finds the module, or there is none.
use Rattle.std.proofs.Common.{rules}
use Rattle.std.proofs.lemmas.Fn.{always_returns_same}
use Rattle.rn_text.specs.Texts.{text_cmp}
use Rattle.rn_modset.proofs.EffectiveModules.NameSearch.{found_there, found_nowhere}
use Rattle.rn_modset.proofs.effective.Effective.get.Goals as goal

pub returns-in-Ok-clause-text : goal.returns-in-Ok-clause-text
returns-in-Ok-clause-text c =
    let by_name = c.in-Ok.ensures.position (λ m. text_cmp m.0.now c.args.name.now) (always_returns_same _ _ _ (λ a r g called. (search rules, search rules))) in
    rw (← c.self.view_is) (found_there c.self.inside.modules.items c.args.name.now c.in-Ok.at c.index.result.now (rw c.deref.ensures.value at c.in-Ok.ensures.bound) (rw c.deref.ensures.value at by_name) c.index.ensures)

pub returns-in-Err-clause-text : goal.returns-in-Err-clause-text
returns-in-Err-clause-text c =
    let by_name = c.in-Err.ensures.position (λ m. text_cmp m.0.now c.args.name.now) (always_returns_same _ _ _ (λ a r g called. (search rules, search rules))) in
    rw (← c.self.view_is) (found_nowhere c.self.inside.modules.items c.args.name.now c.in-Err.field-0 c.self.invariant (rw c.deref.ensures.value at by_name))
