use Rattle.std.proofs.Common.{◌≡◌, ◌+◌, ◌*◌, map, take}
use Rattle.rn_pattern.specs.View.{shared_view}
use Rattle.rn_simplify.proofs.Simplified.NodeSizes.{tree_size, ids_size, except_size}
use Rattle.rn_simplify.proofs.rebuilding.+rebuild.Given as goal

abbrev pub decreases-rebuild : goal.decreases-rebuild
decreases-rebuild g l = 3 * tree_size (g.P.Patterns.tree_of l.store.now l.id)

abbrev pub decreases-rebuild_box : goal.decreases-rebuild_box
decreases-rebuild_box g l = 3 * tree_size (g.P.Patterns.tree_of l.store.now l.id) + 1

abbrev pub decreases-rebuild_shared : goal.decreases-rebuild_shared
decreases-rebuild_shared g l = 3 * tree_size (g.P.Patterns.tree_of l.store.now l.id) + 1

abbrev pub decreases-rebuild_except : goal.decreases-rebuild_except
decreases-rebuild_except g l = except_size (g.P.Patterns.tree_of l.store.now) l.except

abbrev pub decreases-rebuild_members : goal.decreases-rebuild_members
decreases-rebuild_members g l = 3 * ids_size (g.P.Patterns.tree_of l.store.now) l.ids.now + 2

abbrev pub invariant-rebuild_members-loop-i : goal.invariant-rebuild_members-loop-i
invariant-rebuild_members-loop-i g l = map shared_view l.members.items ≡ map (g.P.Patterns.tree_of l.store) (take l.i l.ids)
