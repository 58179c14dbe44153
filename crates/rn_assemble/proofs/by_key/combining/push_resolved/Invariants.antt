-- The patterns of the components before were added, and all keep the restrictions on name classes.
use Rattle.std.proofs.Common.{◌≡◌, ◌++◌, List, map, take}
use Rattle.std.specs.List.{AllByRecursion}
use Rattle.std.specs.Rc.{rc_str_bytes}
use Rattle.rn_pattern.specs.NameRules.{KeepsNameRules}
use Rattle.rn_pattern.specs.View.{shared_view}
use Rattle.rn_syntax.specs.Tree.{Declaration}
use Rattle.rn_assemble.specs.inside.ContextBindings.{BindsAs}
use Rattle.rn_assemble.specs.inside.Patterns.{resolved_bodies}
use Rattle.rn_assemble.proofs.by_key.combining.push_resolved.Given as goal

abbrev pub invariant-loop-component : goal.invariant-loop-component
invariant-loop-component l = record {
  added : (ds : List Declaration) → BindsAs l.context.bindings.now ds
      → map shared_view l.members.items ≡ map shared_view l.fn.members.items ++ resolved_bodies (rc_str_bytes l.context.inherited.now) ds (take l.component-index l.components);
  keep : (ds : List Declaration) → BindsAs l.context.bindings.now ds
      → AllByRecursion KeepsNameRules (resolved_bodies (rc_str_bytes l.context.inherited.now) ds (take l.component-index l.components));
}
