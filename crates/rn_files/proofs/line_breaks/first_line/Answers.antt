use Rattle.std.proofs.Common.{◌+◌, sym, ◌∙◌}
use Rattle.std.proofs.lemmas.List.{take_rest}
use Rattle.rn_files.proofs.LineCuts.{none_passed, line_goes_on}
use Rattle.rn_files.proofs.line_breaks.first_line.Goals as goal

pub loop-i-init : goal.loop-i-init
loop-i-init c = none_passed c.args.bytes.now

pub loop-i-preserved : goal.loop-i-preserved
loop-i-preserved c =
    line_goes_on c.args.bytes.now _ c.loop-i.i c.loop-i-test.true (take_rest c.args.bytes.now (c.loop-i.i + 1)) (sym c.closes.ensures ∙ c.if-closes.false)
    c.loop-i.invariant
