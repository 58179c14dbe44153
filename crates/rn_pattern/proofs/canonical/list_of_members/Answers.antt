-- The ids of a list are those of its members.
use Rattle.std.proofs.Common.{length}
use Rattle.rn_pattern.proofs.Stores.Gathering.{known_below}
use Rattle.rn_pattern.proofs.canonical.list_of_members.Goals as goal

pub returns-then-is_empty-clause-stored : goal.returns-then-is_empty-clause-stored
returns-then-is_empty-clause-stored c ts h = c.neutral.ensures.below (length ts)

pub returns-clause-stored : goal.returns-clause-stored
returns-clause-stored c ts h = c.node.ensures.below (length ts) (known_below ts c.args.members.items h)
