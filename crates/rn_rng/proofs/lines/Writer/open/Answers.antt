use Rattle.rn_rng.proofs.Writing.{writes_then}
use Rattle.rn_rng.proofs.lines.Writer.open.Goals as goal

pub returns : goal.returns
returns c = writes_then c.put_front.ensures c.put.ensures
