use Rattle.rn_rng.proofs.Writing.{writes_then}
use Rattle.rn_rng.proofs.lines.Writer.put_end.Goals as goal

pub returns : goal.returns
returns c = writes_then c.put.ensures (writes_then c.put-2.ensures c.put-3.ensures)
