use Rattle.rn_rng.proofs.Writing.{writes_then}
use Rattle.rn_rng.proofs.lines.Writer.close.Goals as goal

pub returns : goal.returns
returns c = writes_then c.put_indent.ensures c.put_end.ensures
