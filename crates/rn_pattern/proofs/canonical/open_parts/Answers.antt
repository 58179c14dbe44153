-- One more part in the members.
use Rattle.std.proofs.Common.{flat_map, ap, ◌∙◌, arith}
use Rattle.std.proofs.lemmas.List.{take_all}
use Rattle.rn_pattern.specs.inside.Lists.{members_by}
use Rattle.rn_pattern.specs.inside.Stored.{tree_at, trees_of_nodes}
use Rattle.rn_pattern.proofs.Stores.Gathering.{flat_map-through, gathered_list, gathered_itself}
use Rattle.rn_pattern.proofs.canonical.open_parts.Goals as goal
use Rattle.rn_pattern.proofs.canonical.open_parts.Goals.{in-Some+in_ok-extend_from_slice-in-Some, in-None+in_ok-push-in-None}

pub loop-part-preserved : goal.loop-part-preserved
loop-part-preserved c =
    let ts = trees_of_nodes c.args.nodes.now.nodes.now in
    let inv = c.loop-part.invariant in
    elim c.match-members_of.branch [
      | in-Some+in_ok-extend_from_slice-in-Some w ↦ gathered_list ts c.args.connector c.args.parts.now c.loop-part.part-index _ c.loop-part-test.true c.requires c.get.result.now c.get.ensures.tree c.members_of.result (c.members_of.ensures.tree (tree_at ts)) (c.members_of.ensures.below _ c.get.ensures.below) c.loop-part.members.items c.match-members_of.members.items inv.0 inv.1 w.in-Some.within w.in-Some.is (ap (λ v. v.items) w.members-is ∙ w.in_ok-extend_from_slice-in-Some.ensures.items)
      | in-None+in_ok-push-in-None w ↦ gathered_itself ts c.args.connector c.args.parts.now c.loop-part.part-index _ c.loop-part-test.true c.requires c.get.result.now c.get.ensures.tree c.members_of.result (c.members_of.ensures.tree (tree_at ts)) (c.members_of.ensures.below _ c.get.ensures.below) c.loop-part.members.items c.match-members_of.members.items inv.0 inv.1 w.in-None.is (ap (λ v. v.items) w.members-is ∙ w.in_ok-push-in-None.ensures.items)
    ]

pub returns-clause-members : goal.returns-clause-members
returns-clause-members c =
    let at = tree_at (trees_of_nodes c.args.nodes.now.nodes.now) in
    c.loop-part.invariant.0
    ∙ ap (flat_map (λ j. members_by c.args.connector (at j))) (take_all c.loop-part.part-index c.args.parts.now (omega arith))
    ∙ flat_map-through (members_by c.args.connector) at c.args.parts.now
