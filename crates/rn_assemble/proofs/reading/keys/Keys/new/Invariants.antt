-- With the names that are left to add, the list gets those of all modules.
use Rattle.std.proofs.Common.{◌≡◌, ◌++◌, drop}
use Rattle.std.specs.Prelude.{flat_map}
use Rattle.rn_assemble.specs.Components.{NamedModule}
use Rattle.rn_assemble.specs.inside.Keyed.{texts_of, defines}
use Rattle.rn_assemble.specs.inside.Views.{modules_view}
use Rattle.rn_assemble.proofs.reading.keys.Keys.new.Given as goal

abbrev pub invariant-loop-module : goal.invariant-loop-module
invariant-loop-module l = record {
  so_far : texts_of l.names.items ++ flat_map (λ (m : NamedModule). defines m.tree.items) (modules_view (drop l.module-index l.modules)) ≡ flat_map (λ (m : NamedModule). defines m.tree.items) (modules_view l.modules);
}
