use Rattle.std.proofs.Common.{refl, ap, ◌∙◌, arith}
use Rattle.std.specs.Prelude.{◌||◌}
use Rattle.std.proofs.lemmas.List.{take_all}
use Rattle.std.proofs.lemmas.List.Elements.{Contains-get_or}
use Rattle.rn_graph.specs.Graph.{is_marked}
use Rattle.rn_assemble.specs.SettlingOrder.{holds}
use Rattle.rn_flat.proofs.ReachedMarks.{next_mark, no_mark}
use Rattle.rn_flat.proofs.unreached.set_marks.Goals as goal

pub index_mut-requires : goal.index_mut-requires
index_mut-requires c =
    let b = c.requires _ (Contains-get_or c.args.numbers.now c.loop-number.number-index 0 c.loop-number-test.true) in
    omega (arith, b, c.loop-number.invariant.size)

pub loop-number-init : goal.loop-number-init
loop-number-init c = record { size = refl; marks = λ x. no_mark (is_marked c.args.marks.now.items x) }

pub loop-number-preserved : goal.loop-number-preserved
loop-number-preserved c =
    let b = c.requires _ (Contains-get_or c.args.numbers.now c.loop-number.number-index 0 c.loop-number-test.true) in
    record {
      size = c.loop-number.invariant.size;
      marks = λ x. next_mark c.loop-number.marks.items _ c.args.numbers.now c.loop-number.number-index x (is_marked c.args.marks.now.items x) c.loop-number-test.true (omega (arith, b, c.loop-number.invariant.size, c.loop-number.marks.ok)) refl (c.loop-number.invariant.marks x);
    }

pub returns-clause-marks : goal.returns-clause-marks
returns-clause-marks c = λ x.
    c.loop-number.invariant.marks x ∙ ap (λ l. is_marked c.args.marks.now.items x || holds l x) (take_all c.loop-number.number-index c.args.numbers.now c.loop-number-test.false)
