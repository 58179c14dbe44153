use Rattle.std.proofs.Common.{◌≡◌, ◌∷◌, ◌++◌, List, [], length, append_assoc, append-nil, length-append, sym, ap, ◌∙◌, arith}
use Rattle.std.specs.Vec.Iter.{into_iter_items}
use Rattle.std.proofs.lemmas.List.{map-append}
use Rattle.rn_assemble.specs.declared.reading.named_modules.NamedModule.{NamedModule}
use Rattle.rn_assemble.specs.inside.Views.{module_names, modules_view, named_module_view, with_items}
use Rattle.rn_assemble.proofs.Gathering.GatheredItems.{nothing_left, with_both_more}
use Rattle.rn_assemble.proofs.reading.named_modules.split_items.Goals as goal

-- when nothing is left, all modules were met
all_met : (all before left : List NamedModule) → before ++ left ≡ all → length left ≡ 0 → before ≡ all
all_met all before left rest none = sym (append-nil before) ∙ ap (λ l. before ++ l) (sym (nothing_left left none)) ∙ rest

pub loop-module-preserved : goal.loop-module-preserved
loop-module-preserved c =
    let at = c.loop-module in
    let m = c.in-Some.module in
    let head : NamedModule = record { name = m.name; tree = record { decls = m.tree.decls; items = c.new.result } } in
    let left = into_iter_items c.next.new.self in
    let step : into_iter_items at.module-iterator ≡ m ∷ left = c.in-Some.ensures.steps.0 in
    let heads : c.push.new.self.items ≡ at.heads.items ++ head ∷ [] = c.in_ok-push.ensures.items in
    let all : c.push-in-loop-module.new.self.items ≡ at.all.items ++ m.tree.items ∷ [] = c.in_ok-push-2.ensures.items in
    let name = λ (n : NamedModule). n.name.now in
    record {
      items = ap (λ hs. with_items hs c.push-in-loop-module.new.self.items) heads ∙ ap (with_items (at.heads.items ++ head ∷ [])) all
          ∙ with_both_more at.heads.items at.all.items head m.tree.items at.invariant.size
          ∙ ap (λ ms. ms ++ named_module_view m ∷ []) at.invariant.items ∙ sym (map-append named_module_view at.yielded (m ∷ []));
      names = ap module_names heads ∙ map-append name at.heads.items (head ∷ []) ∙ ap (λ ns. ns ++ m.name.now ∷ []) at.invariant.names ∙ sym (map-append name at.yielded (m ∷ []));
      size = omega (arith, ap length heads, ap length all, length-append at.heads.items (head ∷ []), length-append at.all.items (m.tree.items ∷ []), at.invariant.size);
      rest = append_assoc at.yielded (m ∷ []) left ∙ ap (λ ms. at.yielded ++ ms) (sym step) ∙ at.invariant.rest;
      count = omega (arith, c.in-Some.ensures.steps.1, at.invariant.count, ap length step);
    }

pub returns-clause-items : goal.returns-clause-items
returns-clause-items c = c.loop-module.invariant.items ∙ ap modules_view (all_met c.args.modules.items c.loop-module.yielded _ c.loop-module.invariant.rest (sym c.loop-module.invariant.count ∙ c.in-None.ensures.steps.0))

pub returns-clause-names : goal.returns-clause-names
returns-clause-names c = c.loop-module.invariant.names ∙ ap module_names (all_met c.args.modules.items c.loop-module.yielded _ c.loop-module.invariant.rest (sym c.loop-module.invariant.count ∙ c.in-None.ensures.steps.0))

pub returns-clause-size : goal.returns-clause-size
returns-clause-size c = c.loop-module.invariant.size
