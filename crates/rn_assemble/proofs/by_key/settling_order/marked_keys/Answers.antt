use Rattle.std.proofs.lemmas.List.{map-append}
use Rattle.std.proofs.Common.{ap, refl, ◌∙◌, rules, [], ◌∷◌}
use Rattle.rn_assemble.specs.declared.reading.keys.KeyId.{KeyId}
use Rattle.rn_assemble.specs.inside.Views.{key_numbers}
use Rattle.rn_assemble.proofs.Referring.MarkedPlaces.{no_places, more_places, same_places}
use Rattle.rn_assemble.proofs.by_key.settling_order.marked_keys.Goals as goal
use Rattle.rn_assemble.proofs.by_key.settling_order.marked_keys.Goals.{then-marks-number+in_ok-push, else-marks-number}

pub loop-number-init : goal.loop-number-init
loop-number-init c = no_places c.args.marks.now 0 (key_numbers c.new-keys.result.items) refl (ap key_numbers c.new-keys.ensures.items)

pub loop-number-preserved : goal.loop-number-preserved
loop-number-preserved c = elim c.if-marks-number.branch [
  | then-marks-number+in_ok-push w ↦ more_places c.args.marks.now c.loop-number.number (key_numbers c.loop-number.keys.items) (key_numbers c.if-marks-number.keys.items) (search rules) (ap (λ v. key_numbers v.items) w.keys-is ∙ ap key_numbers w.in_ok-push.ensures.items ∙ map-append (λ (k : KeyId). k.0) c.loop-number.keys.items (record { 0 = c.loop-number.number } ∷ [])) c.loop-number.invariant
  | else-marks-number w ↦ same_places c.args.marks.now c.loop-number.number (key_numbers c.loop-number.keys.items) (key_numbers c.if-marks-number.keys.items) (search rules) (ap (λ v. key_numbers v.items) w.keys-is) c.loop-number.invariant
]
