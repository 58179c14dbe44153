use Rattle.std.proofs.Common.{arith}
use Rattle.rn_xml.specs.inside.Rests.{source}
use Rattle.rn_xml.proofs.MarkupPieces.{misc_space, misc_more}
use Rattle.std.specs.Str.{chars}
use Rattle.rn_text.specs.Texts.{is_white}
use Rattle.rn_xml.proofs.Refusals.RefusedFronts.{if_err}
use Rattle.rn_xml.proofs.Refusals.RefusedMarkup.{lacks_misc, misc_refused, stops_run}
use Rattle.rn_xml.proofs.markup.after_misc.Goals as goal

pub loop-after-init : goal.loop-after-init
loop-after-init c = (c.after_space-rest.utf8, omega arith, misc_space (source c.args.text.now) (source c.after_space-rest.result.now) c.after_space-rest.ensures.space, stops_run is_white (chars c.args.text.now) (chars c.after_space-rest.result.now) c.after_space-rest.ensures.run)

pub loop-after-preserved : goal.loop-after-preserved
loop-after-preserved c =
    let shorter = rw c.in-Some.is at c.in_ok-after.ensures.reads in
    let piece = rw c.in-Some.is at c.in_ok-after.ensures.piece in (
      c.after_space-rest-in-Some.utf8,
      omega arith,
      misc_more (source c.args.text.now) (source c.loop-after.rest.now) (source c.in-Some.after.now) (source c.after_space-rest-in-Some.result.now) c.loop-after.invariant.2 piece c.after_space-rest-in-Some.ensures.space,
      stops_run is_white (chars c.in-Some.after.now) (chars c.after_space-rest-in-Some.result.now) c.after_space-rest-in-Some.ensures.run,
    )

pub returns-in_err-after-clause-refused : goal.returns-in_err-after-clause-refused
returns-in_err-after-clause-refused c = if_err c.from_residual.result (misc_refused (source c.args.text.now) (source c.loop-after.rest.now) c.loop-after.invariant.2 c.in_err-after.ensures.refused)

pub returns-clause-all : goal.returns-clause-all
returns-clause-all c = let none = rw c.in_default.is at c.in_ok-after.ensures.piece in lacks_misc (chars c.loop-after.rest.now) c.loop-after.invariant.3 none
