-- One more node behind the others.
use Rattle.std.proofs.Common.{ap, ◌∙◌, arith, is_ok}
use Rattle.rn_pattern.specs.inside.Stored.{trees_of_nodes}
use Rattle.rn_pattern.proofs.Stores.NodeTrees.{length-trees_of_nodes, trees_of_nodes-push, NameEarlier-pushed, stands_at_end, adds_at_end, keeps_pushed, grows_pushed}
use Rattle.rn_pattern.proofs.tables.plain.PlainNodeStore.add.Goals as goal

pub invariant_of-self : goal.invariant_of-self
invariant_of-self c =
    record { earlier = NameEarlier-pushed (is_ok c.push.result) c.args.self.now.nodes.items c.push.new.self.items c.args.node c.push.ensures.items c.args.self.now.earlier c.requires }

pub returns-clause-made : goal.returns-clause-made
returns-clause-made c =
    let ns = c.args.self.now.nodes.items in
    stands_at_end (trees_of_nodes ns) (trees_of_nodes c.push.new.self.items) _ _ (omega (arith, c.len.ensures, length-trees_of_nodes ns, c.args.self.now.nodes.ok.0)) (ap trees_of_nodes c.in_ok-push.ensures.items ∙ trees_of_nodes-push ns c.args.node)

pub returns-clause-kept : goal.returns-clause-kept
returns-clause-kept c = keeps_pushed (is_ok c.push.result) c.args.self.now.nodes.items c.push.new.self.items c.args.node c.push.ensures.items

pub returns-clause-grows : goal.returns-clause-grows
returns-clause-grows c = grows_pushed (is_ok c.push.result) c.args.self.now.nodes.items c.push.new.self.items c.args.node c.push.ensures.items

pub returns-clause-adds : goal.returns-clause-adds
returns-clause-adds c =
    let ns = c.args.self.now.nodes.items in
    adds_at_end (trees_of_nodes ns) (trees_of_nodes c.push.new.self.items) _ _ (omega (arith, c.len.ensures, length-trees_of_nodes ns, c.args.self.now.nodes.ok.0)) (ap trees_of_nodes c.in_ok-push.ensures.items ∙ trees_of_nodes-push ns c.args.node)
