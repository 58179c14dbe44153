use Rattle.std.proofs.Common.{◌≡◌, map, take}
use Rattle.rn_pattern.specs.Store.{KeepsIds, KnowsAll}
use Rattle.rn_pattern.specs.View.{shared_view}
use Rattle.rn_simplify.specs.inside.FormKinds.{settled_form}
use Rattle.rn_simplify.proofs.joined_bodies.member_ids.Given as goal

abbrev pub invariant-loop-index : goal.invariant-loop-index
invariant-loop-index g l = record {
  kept : KeepsIds g.P.Patterns.knows g.P.Patterns.tree_of l.initial.store l.store;
  known : KnowsAll (g.P.Patterns.knows l.store) l.ids.items;
  made : map (g.P.Patterns.tree_of l.store) l.ids.items ≡ map (settled_form l.settled) (map shared_view (take l.index l.members));
}
