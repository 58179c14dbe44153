-- What following includes adds to the segments of a set (RELAX NG 2001, 4.7).
use Rattle.std.specs.Prelude.{ℕ, ◌<◌, ◌≤◌, ◌≡◌, ◌↔◌, ◌⊎◌, ◌&&◌, not, true, Bool, List, [], ◌++◌, length, map, slice_get, slice_range, Option, Some, None, Contains}
use Rattle.std.specs.List.{AllByRecursion}
use Rattle.std.specs.List.Sorted.{IsStrictlySortedBy}
use Rattle.rn_graph.specs.Graph.{AllBelow}
use Rattle.rn_text.specs.Texts.{Text, text_cmp}
use Rattle.rn_syntax.specs.Tree.{Declaration}
use Rattle.rn_assemble.specs.Components.{Component, Key, NamedModule, components_within, handed_on, has_key}
use Rattle.rn_assemble.specs.declared.reading.contents.Contents.{Contents}
use Rattle.rn_assemble.specs.declared.reading.contents.Include.{Include}
use Rattle.rn_assemble.specs.declared.reading.named_modules.ModuleId.{ModuleId}
use Rattle.rn_assemble.specs.declared.resolving.context.Context.{Context}
use Rattle.rn_assemble.specs.declared.including.segments.FollowedInclude.{FollowedInclude}
use Rattle.rn_assemble.specs.declared.including.segments.Segment.{Segment}
use Rattle.rn_assemble.specs.declared.including.segments.Segments.{Segments}
use Rattle.rn_assemble.specs.inside.Contained.{AreFlat, Inclusion, WrittenComponent}
use Rattle.rn_assemble.specs.inside.ContentsOf.{AreContents, declarations_at, name_at, resolved_component, segment_begin, segment_end, written_at}
use Rattle.rn_assemble.specs.inside.ContextBindings.{BindsAs}
use Rattle.rn_assemble.specs.inside.Lacking.{LacksWithin}
use Rattle.rn_assemble.specs.inside.Segments.{AreSegments, IsBrought, IsLackOf, left_from, some_has_key}

-- the components of an included module, if there is one
abbrev pub included_in : ℕ → List NamedModule → Option ℕ → Text → List Component
included_in depth modules None inherited = []
included_in depth modules (Some i) inherited = components_within depth modules (name_at modules i) inherited

-- what the include brings in, before its own components override it
abbrev pub brought_in : ℕ → List NamedModule → Text → List Declaration → Inclusion → List Component
brought_in depth modules inherited ds i = included_in depth modules i.module_at (handed_on inherited ds i.inherit)

-- modules in their order, and their contents
pub record CanList (modules : List NamedModule) (contents : List Contents) : Type 0 where
  pub in_order : IsStrictlySortedBy text_cmp (map (λ (m : NamedModule). m.name) modules)
  pub flat : AllByRecursion (λ (m : NamedModule). AreFlat m.tree.items) modules
  pub are : AreContents modules contents

-- modules in their order, and their segments so far
pub record CanBring (modules : List NamedModule) (x : Segments) : Type 0 where
  pub can : CanList modules x.contents.now
  pub are : AreSegments modules x
  pub brought : AllByRecursion (IsBrought modules x.contents.now x.list.items) x.brought.items

-- an include of the list overrides the key, of which it brought nothing in, and its module has the name
pub record IsLackIn (modules : List NamedModule) (list : List Segment) (followed : List FollowedInclude) (y : Text) (k : Key) : Type 0 where
  pub include : FollowedInclude
  pub among : Contains followed include
  pub name_is : name_at modules include.module.0 ≡ y
  pub lacks : IsLackOf modules list include k

-- the segment of that number of a module can be added
pub record CanAdd (modules : List NamedModule) (x : Segments) (m j : ℕ) (context : Context) (from to : ℕ) : Type 0 where
  pub within : m < length modules
  pub binds : BindsAs context.bindings.now (declarations_at modules m)
  pub numbered : (c : Contents) → slice_get x.contents.now m ≡ Some c → (j ≤ length c.includes.items) × (from ≡ segment_begin c.includes.items j) × (to ≡ segment_end c j)
  pub ordered : from ≤ to
  pub to_within : to ≤ length (written_at modules m)

-- the include has that number among those of the module, and the context is that of the module
pub record CanInclude (modules : List NamedModule) (contents : List Contents) (m j : ℕ) (context : Context) (include : Include) (ds : List Declaration) : Type 0 where
  pub within : m < length modules
  pub declarations : ds ≡ declarations_at modules m
  pub binds : BindsAs context.bindings.now ds
  pub own : (c : Contents) → slice_get contents m ≡ Some c → slice_get c.includes.items j ≡ Some include
  pub included : (i : ModuleId) → include.module ≡ Some i → i.0 < length modules
  pub ordered : include.from ≤ include.to
  pub to_within : include.to ≤ length (written_at modules m)

-- the include's own components, with their names resolved
abbrev pub own_components : List NamedModule → ℕ → Text → List Declaration → Inclusion → List Component
own_components modules m inherited ds i = map (resolved_component inherited ds) (slice_range (written_at modules m) i.first i.end)

-- the included module, if there is one, or one that it includes, is called y and lacks the key
abbrev pub IncludedLacks : (depth : ℕ) → List NamedModule → Option ℕ → (inherited y : Text) → Key → Type 0
IncludedLacks depth modules None inherited y k = ⊥
IncludedLacks depth modules (Some i) inherited y k = LacksWithin depth modules (name_at modules i) inherited y k

-- an include in the module x with its declarations and components
module _ (depth : ℕ) (modules : List NamedModule) (x inherited : Text) (ds : List Declaration) (ws : List WrittenComponent) where
  -- the include's own components have the key, and the included ones don't
  abbrev pub own_lacks : Inclusion → Key → Bool
  own_lacks i k = has_key k (map (resolved_component inherited ds) (slice_range ws i.first i.end)) && not (has_key k (included_in depth modules i.module_at (handed_on inherited ds i.inherit)))

  -- by the include, or further within, the module y lacks the key
  abbrev pub InclusionLacks : Inclusion → Text → Key → Type 0
  InclusionLacks i y k = ((x ≡ y) × (own_lacks i k ≡ true)) ⊎ IncludedLacks depth modules i.module_at (handed_on inherited ds i.inherit) y k

-- segments were added, and the includes that brought them in. They have the components cs, but for those that one of these includes
-- overrides; without leaving those out they have components of the keys of all; and L holds of the modules and keys that lack
pub record Brings (modules : List NamedModule) (old new : Segments) (cs all : List Component) (L : Text → Key → Type 0) : Type 0 where
  pub can : CanBring modules new
  pub contents : new.contents ≡ old.contents
  pub segments : List Segment
  pub list_is : new.list.items ≡ old.list.items ++ segments
  pub followed : List FollowedInclude
  pub brought_is : new.brought.items ≡ old.brought.items ++ followed
  pub inside : AllByRecursion (λ (b : FollowedInclude). (length old.list.items ≤ b.from) × (b.to ≤ length new.list.items)) followed
  pub left : left_from modules followed (length old.list.items) segments ≡ cs
  pub keys : (k : Key) → some_has_key modules k segments ≡ has_key k all
  pub lacks : (y : Text) (k : Key) → IsLackIn modules new.list.items followed y k ↔ L y k

-- ---- of which modules a contract speaks

-- P holds of the modules that have these contents, where the roots are numbers of modules
abbrev pub OfRoots : List Contents → List ℕ → (List NamedModule → Type 0) → Type 0
OfRoots contents roots P = (modules : List NamedModule) → CanList modules contents → AllBelow (length modules) roots → P modules
