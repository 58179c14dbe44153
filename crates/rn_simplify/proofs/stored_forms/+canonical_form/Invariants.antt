use Rattle.std.proofs.Common.{◌≡◌, ◌++◌, map, take}
use Rattle.rn_pattern.specs.Store.{KeepsIds, KnowsAll}
use Rattle.rn_pattern.specs.View.{shared_trees}
use Rattle.rn_simplify.specs.inside.ListParts.{parts}
use Rattle.rn_simplify.specs.inside.FormKinds.{settled_form}
use Rattle.rn_simplify.proofs.stored_forms.+canonical_form.Given as goal

abbrev pub invariant-push_parts-loop-member : goal.invariant-push_parts-loop-member
invariant-push_parts-loop-member g l = record {
  kept : KeepsIds g.P.Patterns.knows g.P.Patterns.tree_of l.initial.store l.store;
  known : KnowsAll (g.P.Patterns.knows l.store) l.ids.items;
  made : map (g.P.Patterns.tree_of l.store) l.ids.items ≡ map (g.P.Patterns.tree_of l.initial.store) l.initial.ids.items
      ++ map (settled_form l.settled) (parts l.kind (shared_trees (take l.member-index l.members)));
}
