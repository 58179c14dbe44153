-- As many trees as nodes.
use Rattle.std.proofs.Common.{arith}
use Rattle.rn_pattern.proofs.Stores.NodeTrees.{length-trees_of_nodes}
use Rattle.rn_pattern.proofs.tables.plain.Plain.nodes.Goals as goal

pub returns : goal.returns
returns c = omega (arith, c.len.ensures, length-trees_of_nodes c.args.self.now.nodes.items, c.args.self.now.nodes.ok.0)
