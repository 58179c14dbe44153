-- The mark of one number more.
use Rattle.std.proofs.lemmas.List.{get_or-map, length-map, take_all}
use Rattle.std.proofs.Common.{◌+◌, take, sym, ap, subst, arith, ◌<◌, length, set, true}
use Rattle.rn_assemble.specs.declared.reading.keys.KeyId.{KeyId}
use Rattle.rn_assemble.specs.inside.Views.{key_numbers}
use Rattle.rn_assemble.specs.inside.Referred.{AreMarksOf}
use Rattle.rn_assemble.proofs.Referring.SetMarks.{mark_past, mark_set}
use Rattle.rn_assemble.proofs.by_key.references.marks_of.Goals as goal
use Rattle.rn_assemble.proofs.by_key.references.marks_of.Goals.{then-key-len, else-key-len}

pub loop-key-preserved : goal.loop-key-preserved
loop-key-preserved c =
    let keys = c.args.keys.now in
    let numbers = key_numbers keys in
    let i = c.loop-key.key-index in
    let marks = c.loop-key.marks.items in
    let there : i < length numbers = omega (arith, c.loop-key-test.true, length-map keys (λ (k : KeyId). k.0)) in
    let is = get_or-map (λ (k : KeyId). k.0) keys i (record { 0 = 0 }) 0 c.loop-key-test.true in
    let size = c.loop-key.marks.ok.0 in
    let more = AreMarksOf (take (i + 1) numbers) c.args.count in
    elim c.if-key-len.branch [
      | then-key-len w ↦ subst more (sym (ap (λ v. v.items) w.marks-is))
          (subst (λ n. more (set marks n true)) is (mark_set numbers i c.args.count marks there c.loop-key.invariant (omega (arith, w.if-key-len.true, c.len.ensures, size, is))))
      | else-key-len w ↦ subst more (sym (ap (λ v. v.items) w.marks-is))
          (mark_past numbers i c.args.count marks there c.loop-key.invariant (omega (arith, w.if-key-len.false, c.len.ensures, size, is)))
    ]

pub returns : goal.returns
returns c =
    let keys = c.args.keys.now in
    let all = take_all c.loop-key.key-index (key_numbers keys) (omega (arith, c.loop-key-test.false, length-map keys (λ (k : KeyId). k.0))) in
    subst (λ ns. AreMarksOf ns c.args.count c.loop-key.marks.items) all c.loop-key.invariant
