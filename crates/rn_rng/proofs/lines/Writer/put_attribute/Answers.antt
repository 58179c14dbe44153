use Rattle.rn_rng.specs.Layout.{in_attribute}
use Rattle.rn_rng.proofs.Writing.{writes_both, writes_then}
use Rattle.rn_rng.proofs.lines.Writer.put_attribute.Goals as goal

pub returns : goal.returns
returns c =
    let a = c.args.attribute.now in
    writes_then c.put.ensures (writes_then c.put-2.ensures (writes_then c.put-3.ensures (writes_then (writes_both in_attribute a.prefix.now a.value.now c.put_escaped.ensures c.put_escaped-2.ensures) c.put-4.ensures)))
