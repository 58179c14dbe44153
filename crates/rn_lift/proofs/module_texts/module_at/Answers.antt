use Rattle.std.proofs.Common.{ap, subst, sym, ◌∙◌, string_bytes}
use Rattle.std.specs.Prelude.{String}
use Rattle.std.specs.declared.alloc.Global.{Global}
use Rattle.rn_lift.specs.LiftedModules.{IsModuleOf}
use Rattle.rn_lift.specs.inside.Planned.{IsPlanned, IsPlannedScope}
use Rattle.rn_lift.proofs.module_texts.module_at.Goals as goal

pub returns : goal.returns
returns c =
    let place = c.in-Some.found.place.now in
    let unit = c.in-Some.found.unit.now in
    let given = c.in-Some.found.given.now in
    record {
      place = place;
      unit = unit;
      given = given;
      is_place_with_file = c.in-Some.ensures;
      is_name = ap (λ (s : String Global). string_bytes s) c.finish.ensures.name ∙ c.in_ok-name.ensures.cases;
      is_basis = c.finish.ensures.basis;
      is_module = subst (λ (s : String Global). IsModuleOf (IsPlanned c.args.units.now c.args.plan.now) (IsPlannedScope c.args.plan.now) (string_bytes c.args.plan.now.names.start) given.file given.targets.items (record { file = unit.file; grammar = unit.grammar; scope = place.scope }) (string_bytes s)) (sym c.finish.ensures.text) c.in_ok-draft.ensures;
    }
