use Rattle.rn_rng.specs.Layout.{in_element}
use Rattle.rn_rng.proofs.Writing.{writes_both, writes_then}
use Rattle.rn_rng.proofs.lines.Writer.line.Goals as goal

pub returns : goal.returns
returns c =
    let texts = writes_both in_element c.args.prefix.now c.args.text.now c.put_escaped.ensures c.put_escaped-2.ensures in
    writes_then c.put_front.ensures (writes_then c.put.ensures (writes_then texts c.put_end.ensures))
