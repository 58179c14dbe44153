-- As many trees as nodes, each once.
use Rattle.std.proofs.Common.{sym, ◌∙◌}
use Rattle.rn_pattern.proofs.Stores.NodeTrees.{length-trees_of_nodes}
use Rattle.rn_pattern.proofs.Stores.Sharing.{ids_tell}
use Rattle.rn_pattern.proofs.tables.interned.Interned.nodes.Goals as goal

pub returns-clause-count : goal.returns-clause-count
returns-clause-count c = c.len.ensures.len ∙ sym (length-trees_of_nodes c.args.self.now.nodes.keys)

pub returns-clause-distinct : goal.returns-clause-distinct
returns-clause-distinct c i j h k e =
    ids_tell c.args.self.now i j h k e
