-- In the trees of texts no include is among an include's own items.
use Rattle.std.proofs.Common.{◌≡◌, List, [], ◌∷◌, ◌++◌, refl}
use Rattle.std.specs.List.{AllByRecursion, AllZip}
use Rattle.rn_modset.specs.Contributions.{Member}
use Rattle.rn_modset.specs.Modules as effective
use Rattle.rn_syntax.specs.Tree.{Item, Module, items_of, item_includes, includes}
use Rattle.rn_syntax.specs.Grammar as g
use Rattle.rn_syntax.specs.Grammar.{Tokens, IsComponent, AreInnerItems, MayHaveOverrides, AreItems, IsModule}
use Rattle.rn_assemble.specs.Components.{NamedModule}
use Rattle.rn_assemble.specs.inside.Contained.{IsFlat, AreFlat}
use Rattle.rn_assemble.specs.Refusal.{IsModuleOf, AreModules}

component_bare : {ts rest : Tokens} {x : Item} → IsComponent ts x rest → item_includes x ≡ []
component_bare (g.define p) = refl
component_bare (g.start p) = refl

component_flat : {ts rest : Tokens} {x : Item} → IsComponent ts x rest → IsFlat x
component_flat (g.define p) = tt
component_flat (g.start p) = tt

inner_bare : {ts rest : Tokens} {xs : List Item} → AreInnerItems ts xs rest → includes (items_of xs) ≡ []
inner_bare g.none = refl
inner_bare (g.component a c m) = let first = component_bare c in let rest = inner_bare m in λ i. first i ++ rest i
inner_bare (g.div a n m) = let first = inner_bare n in let rest = inner_bare m in λ i. first i ++ rest i
inner_bare (g.note n m) = inner_bare m

override_bare : {ts rest : Tokens} {xs : List Item} → MayHaveOverrides ts xs rest → includes (items_of xs) ≡ []
override_bare g.none = refl
override_bare (g.braces n) = inner_bare n

items_flat : {ts rest : Tokens} {xs : List Item} → AreItems ts xs rest → AreFlat (items_of xs)
items_flat g.none = tt
items_flat (g.component a c m) = (component_flat c, items_flat m)
items_flat (g.div a n m) = (items_flat n, items_flat m)
items_flat (g.include a l i o m) = (override_bare o, items_flat m)
items_flat (g.note n m) = items_flat m

module_flat : {ts : Tokens} {m : Module} → IsModule ts m → AreFlat m.items
module_flat (g.items d i) = items_flat i
module_flat (g.grammar d a i f) = items_flat i

trees_flat : (texts : List effective.Module) (modules : List NamedModule) → AllZip (λ (x : effective.Module) (m : NamedModule). (m.name ≡ x.0) × IsModuleOf x.1 m.tree) texts modules → AllByRecursion (λ (m : NamedModule). AreFlat m.tree.items) modules
trees_flat [] [] h = tt
trees_flat [] (m ∷ modules) h = absurd h
trees_flat (x ∷ texts) [] h = absurd h
trees_flat (x ∷ texts) (m ∷ modules) h = (module_flat h.0.1.1.2, trees_flat texts modules h.1)

-- the trees of a set's modules
pub modules_flat : (s : List Member) (modules : List NamedModule) → AreModules s modules → AllByRecursion (λ (m : NamedModule). AreFlat m.tree.items) modules
modules_flat s modules are = trees_flat are.texts modules are.trees
