use Rattle.std.proofs.Common.{◌∙◌, ap, rules, sym}
use Rattle.std.specs.Result.{result_ok}
use Rattle.std.proofs.lemmas.Fn.{always_returns_same}
use Rattle.rn_text.specs.Texts.{text_cmp}
use Rattle.rn_assemble.specs.declared.reading.named_modules.NamedModule.{NamedModule}
use Rattle.rn_assemble.proofs.Expansion.ModulePlaces.{place_found}
use Rattle.rn_assemble.proofs.including.inclusion.module_named.Goals as goal

pub returns-in-Ok-clause-place : goal.returns-in-Ok-clause-place
returns-in-Ok-clause-place c = λ o. ap result_ok (sym c.in-Ok.is) ∙ place_found c.args.modules.now c.args.name.now c.binary_search_by.result o (c.binary_search_by.ensures.position (λ (y : NamedModule). text_cmp y.name.now c.args.name.now) (always_returns_same _ _ _ (λ a r f' k. search rules))) c.binary_search_by.ensures.bound

pub returns-in-Err-clause-place : goal.returns-in-Err-clause-place
returns-in-Err-clause-place c = λ o. ap result_ok (sym c.in-Err.is) ∙ place_found c.args.modules.now c.args.name.now c.binary_search_by.result o (c.binary_search_by.ensures.position (λ (y : NamedModule). text_cmp y.name.now c.args.name.now) (always_returns_same _ _ _ (λ a r f' k. search rules))) c.binary_search_by.ensures.bound
