-- Where the first component of each name stands: in which segment, and with which number among those of its module.
use Rattle.std.specs.Prelude.{ℕ, suc, ◌<◌, ◌≤◌, ◌≡◌, ◌⊎◌, true, false, List, length, map, nat_eq, slice_get, Some, Contains}
use Rattle.std.specs.List.{AllByRecursion, IsDistinct}
use Rattle.rn_text.specs.Texts.{Text}
use Rattle.rn_assemble.specs.Components.{Component, Key, NamedModule, has_key}
use Rattle.rn_assemble.specs.declared.by_key.settling_order.FirstPlace.{FirstPlace}
use Rattle.rn_assemble.specs.declared.including.segments.Segment.{Segment}
use Rattle.rn_assemble.specs.declared.including.segments.Segments.{Segments}
use Rattle.rn_assemble.specs.inside.Contained.{WrittenComponent}
use Rattle.rn_assemble.specs.inside.ContentsOf.{written_at}
use Rattle.rn_assemble.specs.inside.Keyed.{key_at}
use Rattle.rn_assemble.specs.inside.Segments.{is_overridden}

-- a component of the key is left in the segment, with that number
pub record IsLeftAt (modules : List NamedModule) (x : Segments) (k : Key) (segment number : ℕ) : Type 0 where
  pub s : Segment
  pub at : slice_get x.list.items segment ≡ Some s
  pub after : s.from ≤ number
  pub before : number < s.to
  pub written : (w : WrittenComponent) × (slice_get (written_at modules s.module.0) number ≡ Some w) × (w.key ≡ k)
  pub left : is_overridden modules x.brought.items k segment ≡ false

-- of each name that has components, the place of the first one, each name once
pub record AreFirstPlaces (modules : List NamedModule) (x : Segments) (names : List Text) (cs : List Component) (places : List FirstPlace) : Type 0 where
  pub once : IsDistinct nat_eq (map (λ (p : FirstPlace). p.key.0) places)
  pub each : AllByRecursion (λ (p : FirstPlace). (0 < p.key.0) × (p.key.0 < suc (length names)) × IsLeftAt modules x (key_at names p.key.0) p.segment p.number
      × ((segment number : ℕ) → IsLeftAt modules x (key_at names p.key.0) segment number → (p.segment < segment) ⊎ ((p.segment ≡ segment) × (p.number ≤ number)))) places
  pub all : (n : ℕ) → 0 < n → n < suc (length names) → has_key (key_at names n) cs ≡ true → Contains (map (λ (p : FirstPlace). p.key.0) places) n
