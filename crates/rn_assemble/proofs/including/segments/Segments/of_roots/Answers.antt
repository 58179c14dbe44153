use Rattle.std.proofs.Common.{◌≡◌, ◌<◌, ℕ, suc, List, length, get_or, take, sym, ap, subst, ◌++◌, ◌∷◌, [], ◌∙◌, arith, Contains}
use Rattle.std.specs.Borrow.{Bor}
use Rattle.std.proofs.lemmas.List.{take_all, take_more, get_or-map, length-map}
use Rattle.std.proofs.lemmas.List.Elements.{Contains-get_or}
use Rattle.rn_text.specs.Texts.{Text}
use Rattle.rn_assemble.specs.Components.{components_within, instance_limit}
use Rattle.rn_assemble.specs.declared.reading.contents.Contents.{Contents}
use Rattle.rn_assemble.specs.inside.Bringing.{Brings, CanList}
use Rattle.rn_assemble.specs.inside.ContentsOf.{name_at}
use Rattle.rn_assemble.specs.inside.Lacking.{LacksWithin}
use Rattle.rn_assemble.specs.declared.reading.named_modules.ModuleId.{ModuleId}
use Rattle.rn_assemble.specs.inside.Views.{module_numbers}
use Rattle.rn_assemble.proofs.Expansion.EmptyPlaces.{can_begin}
use Rattle.rn_assemble.proofs.Expansion.RootSegments.{AreRootSegments, root_lacks, root_segments, roots_more, roots_none}
use Rattle.rn_assemble.proofs.including.segments.Segments.of_roots.Goals as goal

pub loop-root-init : goal.loop-root-init
loop-root-init c = record {
  brought = λ modules can below.
      let x = c.in_ok-segments.segments in
      let e = c.in_ok-segments.ensures in
      let same : x.contents.now ≡ c.args.contents.now = ap (λ (r : Bor (List Contents)). r.now) e.contents in
      roots_none modules c.args.contents.now x same e.list e.brought (can_begin modules x (subst (CanList modules) (sym same) can) e.list e.brought e.places e.sizes);
}

pub loop-root-preserved : goal.loop-root-preserved
loop-root-preserved c = record {
  brought = λ modules can below.
      let roots = module_numbers c.args.roots.now in
      let i = c.loop-root.root-index in
      let there : i < length roots = omega (arith, c.loop-root-test.true, length-map c.args.roots.now (λ (m : ModuleId). m.0)) in
      let r = (get_or c.args.roots.now i (record { 0 = 0 })).0 in
      let is : get_or roots i 0 ≡ r = get_or-map (λ (m : ModuleId). m.0) c.args.roots.now i (record { 0 = 0 }) 0 c.loop-root-test.true in
      let now = c.loop-root.segments in
      let new = c.bring.new.self in
      let n = name_at modules r in
      let h = c.loop-root.invariant.brought modules can below in
      let within : r < length modules = below r (subst (Contains roots) is (Contains-get_or roots i 0 there)) in
      let b = subst (λ (u : Text). Brings modules now new (components_within (suc instance_limit) modules n u) (components_within (suc instance_limit) modules n u) (LacksWithin (suc instance_limit) modules n u)) c.args.constants.now.none_is
      (c.in_ok-bring.ensures modules h.brings.can within) in
      subst (λ (l : List ℕ). AreRootSegments modules c.args.contents.now new l) (sym (take_more roots i 0 there ∙ ap (λ n. take i roots ++ n ∷ []) is)) (roots_more modules c.args.contents.now now new (take i roots) r h b);
}

pub returns-clause-segments : goal.returns-clause-segments
returns-clause-segments c = λ modules can below.
    let roots = module_numbers c.args.roots.now in
    let all = take_all c.loop-root.root-index roots (omega (arith, c.loop-root-test.false, length-map c.args.roots.now (λ (m : ModuleId). m.0))) in
    root_segments modules c.args.contents.now c.loop-root.segments roots (subst (λ (l : List ℕ). AreRootSegments modules c.args.contents.now c.loop-root.segments l) all (c.loop-root.invariant.brought modules can below))

pub returns-clause-lacks : goal.returns-clause-lacks
returns-clause-lacks c = λ modules can below y k.
    let roots = module_numbers c.args.roots.now in
    let all = take_all c.loop-root.root-index roots (omega (arith, c.loop-root-test.false, length-map c.args.roots.now (λ (m : ModuleId). m.0))) in
    root_lacks modules c.args.contents.now c.loop-root.segments roots (subst (λ (l : List ℕ). AreRootSegments modules c.args.contents.now c.loop-root.segments l) all (c.loop-root.invariant.brought modules can below)) y k
