use Rattle.rn_pattern.proofs.Ordered.PatternKinds.{group_seen}
use Rattle.rn_assemble.proofs.resolving.nodes.group.Goals as goal

pub returns : goal.returns
returns c = group_seen _
