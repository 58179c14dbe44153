-- Each step of the walk, the first conflict, and the modules at its end.
use Rattle.std.proofs.Common.{◌≡◌, [], ◌∷◌, ◌++◌, is_ok, true, sym, ap, ◌∙◌, arith}
use Rattle.std.proofs.lemmas.List.{map_push}
use Rattle.std.specs.Option.{option_map}
use Rattle.std.specs.String.{string_bytes}
use Rattle.rn_modset.specs.Contributions.{members_of}
use Rattle.rn_modset.specs.Modules.{AreEffective, IsFirstConflict, modules_of, module_of}
use Rattle.rn_modset.specs.inside.Neighbours.{IsFollowed, IsContradicted}
use Rattle.rn_modset.specs.Sets.{Rises}
use Rattle.rn_modset.proofs.TestAnswers.TruthValues.{differs}
use Rattle.rn_modset.proofs.EffectiveModules.SetWalk.{walk_start}
use Rattle.rn_modset.proofs.EffectiveModules.SlicePlaces.{IsHeldAt}
use Rattle.rn_modset.proofs.EffectiveModules.WalkSteps.{step_on, step_conflict, step_text, step_withdrawal, walk_done}
use Rattle.rn_modset.proofs.sets.ModuleSet.effective.Goals as goal
use Rattle.rn_modset.proofs.sets.ModuleSet.effective.Goals.{in-Some+in_ok-map_err, in_default}

pub loop-at-init : goal.loop-at-init
loop-at-init c = rw c.new-modules.ensures.items (walk_start (members_of c.as_slice-members.result.now))

pub loop-at-preserved-then-is_followed : goal.loop-at-preserved-then-is_followed
loop-at-preserved-then-is_followed c =
    let held : IsHeldAt c.as_slice-members.result.now c.loop-at.at c.index-members-at.result = record { within = omega arith; is = c.index-members-at.is } in
    step_on c.as_slice-members.result.now c.loop-at.at c.index-members-at.result (modules_of c.loop-at.modules.items) held c.loop-at.invariant (c.is_followed.ensures.0 c.if-is_followed.true)

pub returns-then-is_contradicted-clause-fault : goal.returns-then-is_contradicted-clause-fault
returns-then-is_contradicted-clause-fault c =
    let cs = c.as_slice-members.result.now in
    let held : IsHeldAt cs c.loop-at.at c.index-members-at.result = record { within = omega arith; is = c.index-members-at.is } in
    let rises : Rises (members_of cs) = rw c.as_slice-members.ensures.items c.as_slice-members.ensures.kept.rises in
    let first : IsFirstConflict (members_of cs) (string_bytes c.index-members-at.result.name) c.index-members-at.result.revision =
    step_conflict cs c.loop-at.at c.index-members-at.result (modules_of c.loop-at.modules.items) rises held c.loop-at.invariant
    (λ f. differs c.if-is_followed.false (c.is_followed.ensures.1 f)) (c.is_contradicted.ensures.0 c.if-is_contradicted.true) in
    rw c.in_ok-clone.ensures.cases (rw c.as_slice-members.ensures.items at first)

pub loop-at-preserved : goal.loop-at-preserved
loop-at-preserved c =
    let cs = c.as_slice-members.result.now in
    let held : IsHeldAt cs c.loop-at.at c.index-members-at.result = record { within = omega arith; is = c.index-members-at.is } in
    let rises : Rises (members_of cs) = rw c.as_slice-members.ensures.items c.as_slice-members.ensures.kept.rises in
    let last : ¬ (IsFollowed cs c.loop-at.at) = λ f. differs c.if-is_followed.false (c.is_followed.ensures.1 f) in
    let alone : ¬ (IsContradicted cs c.loop-at.at) = λ f. differs c.if-is_contradicted.false (c.is_contradicted.ensures.1 f) in
    elim c.match-held.branch [
      | in-Some+in_ok-map_err w ↦
          let ok : is_ok w.push.result ≡ true = sym w.map_err.ensures.variant ∙ ap is_ok w.in_ok-map_err.was in
          let items : w.push.new.self.items ≡ c.loop-at.modules.items ++ (w.as_str.result, w.as_slice.result) ∷ [] = rw ok at w.push.ensures.items in
          let modules : modules_of w.push.new.self.items ≡ modules_of c.loop-at.modules.items ++ (w.as_str.result.now, w.as_slice.result.now) ∷ [] =
          ap modules_of items ∙ map_push module_of c.loop-at.modules.items (w.as_str.result, w.as_slice.result) in
          let step = step_text cs c.loop-at.at c.index-members-at.result (modules_of c.loop-at.modules.items) w.in-Some.text.items rises held c.loop-at.invariant last alone (ap (option_map (λ v. v.items)) w.in-Some.is) in
          rw (w.modules-is, modules, w.as_str.ensures.value, w.as_slice.ensures.value) step
      | in_default w ↦ rw w.modules-is (step_withdrawal cs c.loop-at.at c.index-members-at.result (modules_of c.loop-at.modules.items) rises held c.loop-at.invariant last alone (ap (option_map (λ v. v.items)) w.in_default.is))
    ]

pub returns-clause-modules : goal.returns-clause-modules
returns-clause-modules c =
    let done : AreEffective (members_of c.as_slice-members.result.now) (modules_of c.loop-at.modules.items) = walk_done c.as_slice-members.result.now c.loop-at.at (modules_of c.loop-at.modules.items) c.loop-at.invariant (omega arith) in
    rw c.as_slice-members.ensures.items at done
