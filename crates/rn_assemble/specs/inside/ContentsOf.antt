-- The modules' contents as they lie in the code, and their components with names resolved.
use Rattle.std.specs.Prelude.{ℕ, zero, suc, ◌≡◌, ◌<◌, ◌≤◌, List, [], length, map, slice_get, slice_index_or, Some, Contains}
use Rattle.std.specs.List.{AllZip}
use Rattle.std.specs.List.Sorted.{IsNonDecreasingBy}
use Rattle.std.specs.Option.{option_map_or}
use Rattle.rn_text.specs.Texts.{Text}
use Rattle.rn_syntax.specs.Tree.{Declaration}
use Rattle.rn_assemble.specs.Components.{Component, NamedModule}
use Rattle.rn_assemble.specs.Resolve.{resolved_pattern}
use Rattle.rn_assemble.specs.declared.reading.contents.Contents.{Contents}
use Rattle.rn_assemble.specs.declared.reading.contents.Include.{Include}
use Rattle.rn_assemble.specs.Written.{WrittenComponent, written_components, inclusions}
pub use Rattle.rn_assemble.specs.Written.{written_at}
use Rattle.rn_assemble.specs.inside.ContextBindings.{BindsAs}
use Rattle.rn_assemble.specs.inside.Views.{inclusion_view}

-- the contents are those of the module
pub record IsContents (modules : List NamedModule) (m : NamedModule) (c : Contents) : Type 0 where
  pub bindings : BindsAs c.bindings m.tree.declarations
  pub count : c.count ≡ length (written_components m.tree.items)
  pub includes : map inclusion_view c.includes.items ≡ inclusions modules 0 m.tree.items

-- the own components of each include stand behind those of the includes before it
abbrev pub HasOrderedIncludes : Contents → Type 0
HasOrderedIncludes c = IsNonDecreasingBy (λ (i : Include). i.from) c.includes.items

abbrev pub AreContents : List NamedModule → List Contents → Type 0
AreContents modules contents = AllZip (IsContents modules) modules contents

-- the name of a module by its place
abbrev pub name_at : List NamedModule → ℕ → Text
name_at modules i = slice_index_or (map (λ (m : NamedModule). m.name) modules) i []

-- what the module at a place declares
abbrev pub declarations_at : List NamedModule → ℕ → List Declaration
declarations_at modules i = option_map_or (λ (m : NamedModule). m.tree.declarations) (slice_get modules i) []

-- a written component with its names resolved
abbrev pub resolved_component : Text → List Declaration → WrittenComponent → Component
resolved_component inherited ds w = record { key = w.key; method = w.method; body = resolved_pattern inherited ds w.pattern }

-- where the segment of that number begins: at the first component, or at the own components of the include before it
abbrev pub segment_begin : List Include → ℕ → ℕ
segment_begin includes zero = 0
segment_begin includes (suc n) = option_map_or (λ (i : Include). i.from) (slice_get includes n) 0

-- where it ends: at the own components of the next include, or behind the last component
abbrev pub segment_end : Contents → ℕ → ℕ
segment_end c n = option_map_or (λ (i : Include). i.from) (slice_get c.includes.items n) c.count

-- the own components of each include come before those of any include behind it
pub record AreApart (includes : List Include) : Type 0 where
  pub ordered : (i : Include) → Contains includes i → i.from ≤ i.to
  pub apart : (m n : ℕ) (a b : Include) → m < n → slice_get includes m ≡ Some a → slice_get includes n ≡ Some b → a.to ≤ b.from

-- the component of that number stands in the segment, and in none behind it
pub record IsSegmentOf (c : Contents) (component n : ℕ) : Type 0 where
  pub within : n ≤ length c.includes.items
  pub begins : segment_begin c.includes.items n ≤ component
  pub ends : n < length c.includes.items → component < segment_end c n
