use Rattle.std.proofs.Common.{◌<◌, ◌+◌, arith, sym, ◌∙◌, ap}
use Rattle.std.proofs.lemmas.List.{take_rest}
use Rattle.rn_files.proofs.LineCuts.{next_line}
use Rattle.rn_files.proofs.line_breaks.line_at.Goals as goal

pub loop-length-preserved : goal.loop-length-preserved
loop-length-preserved c =
    let inv = c.loop-length.invariant in
    let next = next_line c.args.bytes.now _ c.loop-length.start c.in-Some.length inv.4.0 inv.0 (take_rest c.args.bytes.now c.loop-length.start) c.in-Some.ensures inv.4.1 inv.4.3 in
    let some : 0 < c.in-Some.length = c.in-Some.ensures.some in
    (next.0, omega arith, omega arith, (λ _. next.1), (next.2.0, next.2.1, ap (λ z. z + 1) (inv.4.2 ∙ sym next.2.2), next.2.3))
