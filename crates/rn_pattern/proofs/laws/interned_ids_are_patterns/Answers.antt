use Rattle.std.proofs.Common.{ap}
use Rattle.rn_pattern.specs.inside.Stored.{tree_at, trees_of_nodes}
use Rattle.rn_pattern.proofs.Stores.Sharing.{ids_tell}
use Rattle.rn_pattern.proofs.laws.interned_ids_are_patterns.Goals as goal

pub returns : goal.returns
returns c = λ s i j h k. (ap (tree_at (trees_of_nodes s.nodes.keys)), ids_tell s i j h k)
