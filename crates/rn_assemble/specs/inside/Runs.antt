-- Runs of a row: the components of one module that no include parts.
use Rattle.std.specs.Prelude.{ℕ, ◌<◌, ◌≤◌, ◌≡◌, ◌⊎◌, ◌↔◌, ◌&&◌, not, nat_lt, Bool, true, false, List, ◌++◌, length, map, slice_get, Option, Some, None, Contains}
use Rattle.std.specs.List.{AllPairs, list_any}
use Rattle.rn_assemble.specs.declared.reading.contents.Contents.{Contents}
use Rattle.rn_assemble.specs.declared.reading.key_rows.WrittenComponent as code
use Rattle.rn_assemble.specs.declared.including.pieces.Piece.{Piece}
use Rattle.rn_assemble.specs.declared.including.segments.FollowedInclude.{FollowedInclude}
use Rattle.rn_assemble.specs.declared.including.segments.Segments.{Segments}
use Rattle.rn_assemble.specs.inside.ContentsOf.{IsSegmentOf, segment_end}
use Rattle.rn_assemble.specs.inside.Pieces.{overrides_in}
use Rattle.rn_assemble.specs.inside.Segments.{places_at}

-- the component is of a module before the other's, or has the lower number in the same module
abbrev pub Precedes : code.WrittenComponent → code.WrittenComponent → Type 0
Precedes v w = (v.module.0 < w.module.0) ⊎ ((v.module.0 ≡ w.module.0) × (v.number < w.number))

-- each component of the row precedes those behind it
abbrev pub IsOrderedRow : List code.WrittenComponent → Type 0
IsOrderedRow row = AllPairs Precedes row

-- the components behind the one at an index, up to another index, are of the module m and below a number; the next one isn't
pub record IsEndOfRun (row : List code.WrittenComponent) (from m end to : ℕ) : Type 0 where
  pub further : from < to
  pub within : to ≤ length row
  pub inside : (i : ℕ) (w : code.WrittenComponent) → from < i → i < to → slice_get row i ≡ Some w → (w.module.0 ≡ m) × (w.number < end)
  pub behind : (w : code.WrittenComponent) → slice_get row to ≡ Some w → w.module.0 ≡ m → end ≤ w.number

-- the piece that a run gives the segment at a place
abbrev pub piece_of : (from to : ℕ) → ℕ → Piece
piece_of from to n = record { segment = n; from = from; to = to; is_overridden = false }

-- the run that begins at an index was added, with a piece for each segment that it stands in
pub record AddsRun (x : Segments) (row : List code.WrittenComponent) (from to : ℕ) (old new : List Piece) : Type 0 where
  pub further : from < to
  pub within : to ≤ length row
  pub added : (w : code.WrittenComponent) (c : Contents) → slice_get row from ≡ Some w → slice_get x.contents.now w.module.0 ≡ Some c
      → (j : ℕ) × IsSegmentOf c w.number j × IsEndOfRun row from w.module.0 (segment_end c j) to × (new ≡ old ++ map (piece_of from to) (places_at x.places.items w.module.0 j))

-- whether an include of the list that brought the segment at a place in overrides the row's key
abbrev pub is_overridden_in : List code.WrittenComponent → List FollowedInclude → ℕ → Bool
is_overridden_in row followed n = list_any (λ (b : FollowedInclude). (not (nat_lt n b.from) && nat_lt n b.to) && overrides_in row b) followed

-- the piece, marked where an include overrides the key
abbrev pub marked_in : List code.WrittenComponent → List FollowedInclude → Piece → Piece
marked_in row followed p = record { segment = p.segment; from = p.from; to = p.to; is_overridden = is_overridden_in row followed p.segment }

-- the piece, marked
abbrev pub marked : Piece → Piece
marked p = record { segment = p.segment; from = p.from; to = p.to; is_overridden = true }

-- the pieces from one index up to another are those of the segments that the include brought in
pub record ArePiecesIn (pieces : List Piece) (b : FollowedInclude) (from to : ℕ) : Type 0 where
  pub ordered : from ≤ to
  pub within : to ≤ length pieces
  pub are : (i : ℕ) (p : Piece) → slice_get pieces i ≡ Some p → ((from ≤ i) × (i < to)) ↔ ((b.from ≤ p.segment) × (p.segment < b.to))

-- the include overrides the row's key, and none of the pieces is in the segments that it brought in
pub record IsLackByPieces (row : List code.WrittenComponent) (pieces : List Piece) (b : FollowedInclude) : Type 0 where
  pub overrides : overrides_in row b ≡ true
  pub none : (p : Piece) → Contains pieces p → b.from ≤ p.segment → p.segment < b.to → ⊥

-- the component is one of the row, and one of the include's own; none where no component of the row is
abbrev pub IsFirstOwn : List code.WrittenComponent → FollowedInclude → Option code.WrittenComponent → Type 0
IsFirstOwn row b None = overrides_in row b ≡ false
IsFirstOwn row b (Some w) = Contains row w × (w.module.0 ≡ b.module.0) × (b.own_from ≤ w.number) × (w.number < b.own_to)
