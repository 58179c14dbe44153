-- The count of instances goes on by those of one root more.
use Rattle.std.proofs.Common.{arith, ap, ◌<◌, length}
use Rattle.std.specs.Prelude.{sum_by}
use Rattle.std.proofs.lemmas.Bool.{lt-ltb, ltb-true}
use Rattle.std.proofs.lemmas.List.{take_all, get_or-map, length-map}
use Rattle.std.proofs.lemmas.List.Elements.{Contains-get_or}
use Rattle.std.proofs.lemmas.List.Sums.{sum_by_more}
use Rattle.rn_graph.specs.Graph.{rows_of}
use Rattle.rn_assemble.specs.inside.Instances.{instances_of}
use Rattle.rn_assemble.specs.declared.reading.named_modules.ModuleId.{ModuleId}
use Rattle.rn_assemble.specs.inside.Views.{module_numbers}
use Rattle.rn_assemble.proofs.including.inclusion.has_too_many_instances.Goals as goal

pub instances_up_to-count-requires-clause-within : goal.instances_up_to-count-requires-clause-within
instances_up_to-count-requires-clause-within c =
    let roots = c.args.roots.now in
    let i = c.loop-root.root-index in
    let is = get_or-map (λ (m : ModuleId). m.0) roots i (record { 0 = 0 }) 0 c.loop-root-test.true in
    let below = c.requires.within _ (Contains-get_or (module_numbers roots) i 0 (omega (arith, c.loop-root-test.true, length-map roots (λ (m : ModuleId). m.0)))) in
    omega (arith, below, is)

pub loop-root-preserved : goal.loop-root-preserved
loop-root-preserved c =
    let roots = c.args.roots.now in
    let i = c.loop-root.root-index in
    let there : i < length (module_numbers roots) = omega (arith, c.loop-root-test.true, length-map roots (λ (m : ModuleId). m.0)) in
    let is = get_or-map (λ (m : ModuleId). m.0) roots i (record { 0 = 0 }) 0 c.loop-root-test.true in
    record {
      up_to = omega (arith, c.loop-root.invariant.up_to, c.instances_up_to-count.ensures.up_to);
      counted = λ depth l.
          let f = instances_of depth (rows_of c.args.rows.now) in
          omega (arith, c.loop-root.invariant.up_to, c.loop-root.invariant.counted depth l, c.instances_up_to-count.ensures.counted depth (omega (arith, l)), sum_by_more f (module_numbers roots) i 0 there, ap f is);
    }

pub returns : goal.returns
returns c = λ depth l.
    let f = instances_of depth (rows_of c.args.rows.now) in
    let roots = c.args.roots.now in
    let all = ap (sum_by f) (take_all c.loop-root.root-index (module_numbers roots) (omega (arith, c.loop-root-test.false, length-map roots (λ (m : ModuleId). m.0)))) in
    let counted = c.loop-root.invariant.counted depth l in
    ((λ t. omega (arith, ltb-true 512 c.loop-root.count t, counted, all)), (λ h. lt-ltb 512 c.loop-root.count (omega (arith, h, counted, all))))
