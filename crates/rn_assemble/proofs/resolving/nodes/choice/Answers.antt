use Rattle.rn_pattern.proofs.Ordered.PatternKinds.{choice_seen}
use Rattle.rn_assemble.proofs.resolving.nodes.choice.Goals as goal

pub returns : goal.returns
returns c = choice_seen _
