-- The segments of a set, as they lie in the code, and what includes override in them (RELAX NG 2001, 4.7).
use Rattle.std.specs.Prelude.{ℕ, suc, ◌<◌, ◌≤◌, ◌≡◌, ◌&&◌, not, nat_lt, true, false, Bool, List, [], ◌∷◌, ◌++◌, filter, length, map, slice_get, slice_range, Some, Vec, Contains}
use Rattle.std.specs.Option.{option_map_or}
use Rattle.std.specs.declared.alloc.Global.{Global}
use Rattle.std.specs.Rc.{rc_str_bytes}
use Rattle.std.specs.List.{AllByRecursion, AllZip, list_any}
use Rattle.std.specs.List.Sorted.{IsStrictlyIncreasing}
use Rattle.rn_assemble.specs.Components.{Component, Key, NamedModule, has_key, same_key}
use Rattle.rn_assemble.specs.declared.reading.contents.Contents.{Contents}
use Rattle.rn_assemble.specs.declared.reading.contents.Include.{Include}
use Rattle.rn_assemble.specs.declared.including.segments.FollowedInclude.{FollowedInclude}
use Rattle.rn_assemble.specs.declared.including.segments.Segment.{Segment}
use Rattle.rn_assemble.specs.declared.including.segments.Segments.{Segments}
use Rattle.rn_assemble.specs.inside.Contained.{WrittenComponent}
use Rattle.rn_assemble.specs.inside.ContentsOf.{AreApart, AreContents, HasOrderedIncludes, declarations_at, resolved_component, segment_begin, segment_end, written_at}
use Rattle.rn_assemble.specs.inside.ContextBindings.{BindsAs}

module _ (modules : List NamedModule) where
  -- the components of a segment, with their names resolved
  abbrev pub segment_components : Segment → List Component
  segment_components s = map (resolved_component (rc_str_bytes s.context.inherited.now) (declarations_at modules s.module.0)) (slice_range (written_at modules s.module.0) s.from s.to)

  -- whether the include's own components have the key
  abbrev pub overrides : Key → FollowedInclude → Bool
  overrides k b = list_any (λ (w : WrittenComponent). same_key k w.key) (slice_range (written_at modules b.module.0) b.own_from b.own_to)

  -- whether the include brought in the segment at a place
  abbrev pub covers : FollowedInclude → ℕ → Bool
  covers b n = not (nat_lt n b.from) && nat_lt n b.to

  -- whether some include that brought the segment at a place in overrides the key
  abbrev pub is_overridden : List FollowedInclude → Key → ℕ → Bool
  is_overridden followed k n = list_any (λ (b : FollowedInclude). covers b n && overrides k b) followed

  -- what is left of the segments, of which the first one has the place n
  abbrev pub left_from : List FollowedInclude → ℕ → List Segment → List Component
  left_from followed n [] = []
  left_from followed n (s ∷ ss) = filter (λ (c : Component). not (is_overridden followed c.key n)) (segment_components s) ++ left_from followed (suc n) ss

  -- whether some of the segments has a component of the key
  abbrev pub some_has_key : Key → List Segment → Bool
  some_has_key k ss = list_any (λ (s : Segment). has_key k (segment_components s)) ss

  -- the include overrides a key of which it brought nothing in
  abbrev pub IsLackOf : List Segment → FollowedInclude → Key → Type 0
  IsLackOf list b k = (overrides k b ≡ true) × (some_has_key k (slice_range list b.from b.to) ≡ false)

-- the places in the list of that number
abbrev pub places_in : List (Vec ℕ Global) → ℕ → List ℕ
places_in lists j = option_map_or (λ (v : Vec ℕ Global). v.items) (slice_get lists j) []

-- the places of the segments of a module that have that number among those of the module
abbrev pub places_at : List (Vec (Vec ℕ Global) Global) → (m j : ℕ) → List ℕ
places_at places m j = option_map_or (λ (numbers : Vec (Vec ℕ Global) Global). places_in numbers.items j) (slice_get places m) []

-- each module has a list of places for each of its segments
abbrev pub HavePlaces : List Contents → List (Vec (Vec ℕ Global) Global) → Type 0
HavePlaces contents places = AllZip (λ (c : Contents) (numbers : Vec (Vec ℕ Global) Global). length numbers.items ≡ suc (length c.includes.items)) contents places

-- the segment is one of a module, under a namespace
pub record IsSegment (modules : List NamedModule) (contents : List Contents) (s : Segment) : Type 0 where
  pub module_within : s.module.0 < length modules
  pub binds : BindsAs s.context.bindings.now (declarations_at modules s.module.0)
  pub ordered : s.from ≤ s.to
  pub within : s.to ≤ length (written_at modules s.module.0)

-- the segment has that number among those of its module
pub record HasNumber (contents : List Contents) (m j : ℕ) (s : Segment) : Type 0 where
  pub module_is : s.module.0 ≡ m
  pub begins : option_map_or (λ (c : Contents). segment_begin c.includes.items j) (slice_get contents m) 0 ≡ s.from
  pub ends : option_map_or (λ (c : Contents). segment_end c j) (slice_get contents m) 0 ≡ s.to

-- the place is that of the first segment with the same components under the same namespace
pub record IsFirstLike (list : List Segment) (n : ℕ) (s : Segment) : Type 0 where
  pub before : s.first ≤ n
  pub alike : (f : Segment) → slice_get list s.first ≡ Some f → (f.module.0 ≡ s.module.0) × (f.from ≡ s.from) × (f.to ≡ s.to) × (f.first ≡ s.first)
      × (rc_str_bytes f.context.inherited.now ≡ rc_str_bytes s.context.inherited.now)

-- the segments are those of modules, and each module has lists of the places of its own
pub record AreSegments (modules : List NamedModule) (x : Segments) : Type 0 where
  pub contents : AreContents modules x.contents.now
  pub sizes : HavePlaces x.contents.now x.places.items
  pub each : AllByRecursion (IsSegment modules x.contents.now) x.list.items
  pub first : (n : ℕ) (s : Segment) → slice_get x.list.items n ≡ Some s → IsFirstLike x.list.items n s
  pub placed : (n : ℕ) (s : Segment) → slice_get x.list.items n ≡ Some s → (j : ℕ) × Contains (places_at x.places.items s.module.0 j) n
  pub numbered : (m j n : ℕ) → Contains (places_at x.places.items m j) n → (s : Segment) × (slice_get x.list.items n ≡ Some s) × HasNumber x.contents.now m j s
  pub rise : (m j : ℕ) → IsStrictlyIncreasing (places_at x.places.items m j)

-- the include brought in segments that are there, and its own components are there too
pub record IsBrought (modules : List NamedModule) (contents : List Contents) (list : List Segment) (b : FollowedInclude) : Type 0 where
  pub module_within : b.module.0 < length modules
  pub own_ordered : b.own_from ≤ b.own_to
  pub own : (c : Contents) → slice_get contents b.module.0 ≡ Some c → (i : Include) × (slice_get c.includes.items b.number ≡ Some i) × (b.own_from ≡ i.from) × (b.own_to ≡ i.to)
  pub own_within : b.own_to ≤ length (written_at modules b.module.0)
  pub ordered : b.from ≤ b.to
  pub within : b.to ≤ length list

-- the segments have these components, but for those that includes override
pub record AreSegmentsOf (modules : List NamedModule) (x : Segments) (cs : List Component) : Type 0 where
  pub are : AreSegments modules x
  pub ordered : AllByRecursion HasOrderedIncludes x.contents.now
  pub apart : AllByRecursion (λ (c : Contents). AreApart c.includes.items) x.contents.now
  pub brought : AllByRecursion (IsBrought modules x.contents.now x.list.items) x.brought.items
  pub left : left_from modules x.brought.items 0 x.list.items ≡ cs
