use Rattle.rn_pattern.proofs.Ordered.PatternKinds.{interleave_seen}
use Rattle.rn_assemble.proofs.resolving.nodes.interleave.Goals as goal

pub returns : goal.returns
returns c = interleave_seen _
