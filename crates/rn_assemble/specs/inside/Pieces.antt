-- The pieces of a key, as they lie in the code: which components of its row stand in which segment.
use Rattle.std.specs.Prelude.{ℕ, ◌-◌, ◌<◌, ◌≤◌, ◌≡◌, ◌≢◌, ◌==◌, ◌&&◌, not, nat_lt, Bool, false, List, [], ◌∷◌, flat_map, filter, length, map, slice_get, slice_range, Option, Some, None, Contains}
use Rattle.std.specs.Option.{option_map_or}
use Rattle.std.specs.Rc.{rc_str_bytes}
use Rattle.std.specs.List.{AllByRecursion, list_any}
use Rattle.std.specs.List.Sorted.{IsStrictlyIncreasing, IsStrictlySortedBy}
use Rattle.rn_text.specs.Texts.{Text, text_cmp}
use Rattle.rn_assemble.specs.Combine.{of_key}
use Rattle.rn_assemble.specs.Components.{Component, Key, NamedModule}
use Rattle.rn_assemble.specs.declared.reading.key_rows.KeyRows.{KeyRows}
use Rattle.rn_assemble.specs.declared.reading.key_rows.WrittenComponent as code
use Rattle.rn_assemble.specs.declared.reading.keys.Keys.{Keys}
use Rattle.rn_assemble.specs.declared.reading.named_modules.ModuleId.{ModuleId}
use Rattle.rn_assemble.specs.declared.including.pieces.Piece.{Piece}
use Rattle.rn_assemble.specs.declared.including.segments.FollowedInclude.{FollowedInclude}
use Rattle.rn_assemble.specs.declared.including.segments.Segment.{Segment}
use Rattle.rn_assemble.specs.declared.including.segments.Segments.{Segments}
use Rattle.rn_assemble.specs.inside.ContentsOf.{declarations_at, resolved_component}
use Rattle.rn_assemble.specs.inside.Rows.{AreRows, IsRowOf, placed_view}
use Rattle.rn_assemble.specs.inside.Segments.{AreSegmentsOf, IsLackOf, is_overridden}
use Rattle.rn_assemble.specs.inside.Views.{names_of}

-- those components of a row that stand in the segment
abbrev pub parts_in : Segment → List code.WrittenComponent → List code.WrittenComponent
parts_in s row = filter (λ (w : code.WrittenComponent). (w.module.0 == s.module.0) && (not (nat_lt w.number s.from) && nat_lt w.number s.to)) row

-- whether one of the components of a row is one of the include's own
abbrev pub overrides_in : List code.WrittenComponent → FollowedInclude → Bool
overrides_in row b = list_any (λ (w : code.WrittenComponent). (w.module.0 == b.module.0) && (not (nat_lt w.number b.own_from) && nat_lt w.number b.own_to)) row

-- the piece has the components of the row that stand in its segment
pub record IsPiece (list : List Segment) (row : List code.WrittenComponent) (p : Piece) : Type 0 where
  pub segment_within : p.segment < length list
  pub ordered : p.from < p.to
  pub within : p.to ≤ length row
  pub parts : (s : Segment) → slice_get list p.segment ≡ Some s → slice_range row p.from p.to ≡ parts_in s row

-- the piece is the only one, and it has one component; none where the pieces have no or several components
abbrev pub IsOnlyComponent : List Piece → Option Piece → Type 0
IsOnlyComponent pieces None = (p : Piece) → pieces ≡ p ∷ [] → p.to - p.from ≢ 1
IsOnlyComponent pieces (Some p) = (pieces ≡ p ∷ []) × (p.to - p.from ≡ 1)

-- a component of the key, with its names resolved as in the segment
abbrev pub component_in : List NamedModule → Key → Segment → code.WrittenComponent → Component
component_in modules k s w = resolved_component (rc_str_bytes s.context.inherited.now) (declarations_at modules s.module.0) (placed_view k w).component

-- the components of a piece of the key
abbrev pub piece_components : List NamedModule → List Segment → Key → List code.WrittenComponent → Piece → List Component
piece_components modules list k row p = option_map_or (λ (s : Segment). map (component_in modules k s) (slice_range row p.from p.to)) (slice_get list p.segment) []

-- the pieces are those of the key in the components cs, in their order
pub record ArePieces (modules : List NamedModule) (list : List Segment) (k : Key) (row : List code.WrittenComponent) (cs : List Component) (pieces : List Piece) : Type 0 where
  pub each : AllByRecursion (IsPiece list row) pieces
  pub rise : IsStrictlyIncreasing (map (λ (p : Piece). p.segment) pieces)
  pub are : flat_map (piece_components modules list k row) pieces ≡ of_key k cs

-- the pieces are in the segments in which no include overrides the key, and in each of these that has a component of the row
pub record AreLeft (modules : List NamedModule) (x : Segments) (k : Key) (row : List code.WrittenComponent) (pieces : List Piece) : Type 0 where
  pub each : AllByRecursion (λ (p : Piece). is_overridden modules x.brought.items k p.segment ≡ false) pieces
  pub all : (n : ℕ) (s : Segment) (w : code.WrittenComponent) → slice_get x.list.items n ≡ Some s → Contains (parts_in s row) w → is_overridden modules x.brought.items k n ≡ false → Contains (map (λ (p : Piece). p.segment) pieces) n

-- the pieces are those of the key in all segments, those that includes override too
pub record AreAllPieces (list : List Segment) (row : List code.WrittenComponent) (pieces : List Piece) : Type 0 where
  pub unmarked : AllByRecursion (λ (p : Piece). p.is_overridden ≡ false) pieces
  pub each : AllByRecursion (IsPiece list row) pieces
  pub rise : IsStrictlyIncreasing (map (λ (p : Piece). p.segment) pieces)
  pub all : (n : ℕ) (s : Segment) (w : code.WrittenComponent) → slice_get list n ≡ Some s → Contains (parts_in s row) w → Contains (map (λ (p : Piece). p.segment) pieces) n

-- the number of the least module with an include that overrides the key, of which it brought nothing in, if there is one
abbrev pub IsLeastLacking : List NamedModule → Segments → Key → Option ModuleId → Type 0
IsLeastLacking modules x k None = (b : FollowedInclude) → Contains x.brought.items b → ¬ IsLackOf modules x.list.items b k
IsLeastLacking modules x k (Some m) = ((b : FollowedInclude) × Contains x.brought.items b × (b.module.0 ≡ m.0) × IsLackOf modules x.list.items b k)
    × ((b : FollowedInclude) → Contains x.brought.items b → IsLackOf modules x.list.items b k → m.0 ≤ b.module.0)

-- ---- of which components a contract speaks

-- P holds of the key and the components of the set, where the row has those that modules define under the key
abbrev pub OfRow : List code.WrittenComponent → Segments → (List NamedModule → Key → List Component → Type 0) → Type 0
OfRow row x P = (modules : List NamedModule) (k : Key) (cs : List Component) → IsRowOf modules k row → AreSegmentsOf modules x cs → P modules k cs

-- P holds of the key and the components of the set, where these are the pieces of the key
abbrev pub OfPieces : List code.WrittenComponent → Segments → List Piece → (List NamedModule → Key → List Component → Type 0) → Type 0
OfPieces row x pieces P = (modules : List NamedModule) (k : Key) (cs : List Component) → AreSegmentsOf modules x cs
    → ArePieces modules x.list.items k row cs pieces → P modules k cs

-- the pieces are of the row, in some segments
abbrev pub AreSomePieces : List code.WrittenComponent → List Piece → Type 0
AreSomePieces row pieces = (list : List Segment) × AllByRecursion (IsPiece list row) pieces

-- P holds of the key and the components of which these are the pieces, in whatever segments
abbrev pub WithPieces : List code.WrittenComponent → List Piece → (Key → List Component → Type 0) → Type 0
WithPieces row pieces P = (modules : List NamedModule) (list : List Segment) (k : Key) (cs : List Component) → ArePieces modules list k row cs pieces → P k cs

-- P holds of the names of the keys and the components of the set, where the rows have what modules define
abbrev pub OfKeys : Keys → KeyRows → Segments → (List Text → List Component → Type 0) → Type 0
OfKeys keys rows x P = (modules : List NamedModule) (cs : List Component) → IsStrictlySortedBy text_cmp (names_of keys)
    → AreRows modules (names_of keys) rows.rows.items → AreSegmentsOf modules x cs → P (names_of keys) cs

-- the same, for rows without keys
abbrev pub OfRows : KeyRows → Segments → (List Text → List Component → Type 0) → Type 0
OfRows rows x P = (modules : List NamedModule) (names : List Text) (cs : List Component) → IsStrictlySortedBy text_cmp names
    → AreRows modules names rows.rows.items → AreSegmentsOf modules x cs → P names cs

-- the row and the segments are those of some key and some modules
pub record IsKnownRow (row : List code.WrittenComponent) (x : Segments) : Type 0 where
  pub modules : List NamedModule
  pub key : Key
  pub components : List Component
  pub row_is : IsRowOf modules key row
  pub segments_are : AreSegmentsOf modules x components

-- the rows and the segments are those of some modules, by the numbers of these names
pub record AreKnownBy (names : List Text) (rows : KeyRows) (x : Segments) : Type 0 where
  pub modules : List NamedModule
  pub components : List Component
  pub in_order : IsStrictlySortedBy text_cmp names
  pub rows_are : AreRows modules names rows.rows.items
  pub segments_are : AreSegmentsOf modules x components

-- the same, by the numbers of some names
abbrev pub AreKnown : KeyRows → Segments → Type 0
AreKnown rows x = (names : List Text) × AreKnownBy names rows x
