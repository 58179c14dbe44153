use Rattle.std.proofs.Common.{arith}
use Rattle.std.proofs.lemmas.Option.{slice_get_within}
use Rattle.rn_lift.proofs.StandIns.EachPart.{more}
use Rattle.rn_lift.proofs.edits.edits_of_file.Goals as goal

pub loop-number-preserved : goal.loop-number-preserved
loop-number-preserved c = record {
  are_edits = c.in_ok-add_edit.ensures.are_edits c.loop-number.invariant.are_edits;
  covered = more c.args.view.now c.loop-number.edits.items c.add_edit.new.edits.items c.loop-number.number c.in_ok-add_edit.ensures c.loop-number.invariant.covered;
}

pub returns-clause-covered : goal.returns-clause-covered
returns-clause-covered c = record { each = λ n p e g. c.loop-number.invariant.covered n (omega (arith, slice_get_within c.args.view.now.given.now.file.outline.now.parts.items n p e, c.args.view.now.given.now.file.outline.now.parts.ok.0)) p e g }
