-- What is known of segments, rows and pieces, as it is asked for where they are read.
use Rattle.std.proofs.Common.{◌≡◌, ℕ, ◌<◌, ◌≤◌, List, length, sym, subst, arith}
use Rattle.std.specs.List.{AllByRecursion}
use Rattle.rn_pattern.proofs.Ordered.InOrder.{contained_each, each_contained}
use Rattle.rn_assemble.specs.Components.{Component, NamedModule, set_components}
use Rattle.rn_assemble.specs.declared.including.pieces.Piece.{Piece}
use Rattle.rn_assemble.specs.declared.including.segments.FollowedInclude.{FollowedInclude}
use Rattle.rn_assemble.specs.declared.including.segments.Segments.{Segments}
use Rattle.rn_assemble.specs.declared.reading.key_rows.KeyRows.{KeyRows}
use Rattle.rn_assemble.specs.declared.reading.key_rows.WrittenComponent as code
use Rattle.rn_text.specs.Texts.{Text}
use Rattle.rn_assemble.specs.inside.Checked.{AreExpanded}
use Rattle.rn_assemble.specs.inside.Diagnosing.{AreInList, HasBrought}
use Rattle.rn_assemble.specs.inside.Keyed.{key_at}
use Rattle.rn_assemble.specs.inside.Pieces.{AreKnown, AreKnownBy, ArePieces, AreSomePieces, IsKnownRow, IsPiece, OfRow}
use Rattle.rn_assemble.specs.inside.Rows.{row_at}
use Rattle.rn_assemble.specs.inside.Segments.{AreSegmentsOf, IsBrought}
use Rattle.rn_assemble.proofs.KeyFaults.KnownRows.{row_of}
use Rattle.rn_assemble.proofs.Referring.FoundReferences.{ranges}

-- includes brought in segments that are there
pub has_brought : (modules : List NamedModule) (x : Segments) (cs : List Component) → AreSegmentsOf modules x cs → HasBrought x
has_brought modules x cs a = each_contained (λ (b : FollowedInclude). (b.from ≤ b.to) × (b.to ≤ length x.list.items)) x.brought.items (λ b c. let h = contained_each (IsBrought modules x.contents.now x.list.items) x.brought.items a.brought b c in (h.ordered, h.within))

-- what is expanded is known
pub known_by : (modules : List NamedModule) (names : List Text) (rows : KeyRows) (x : Segments) → AreExpanded modules names rows x → AreKnownBy names rows x
known_by modules names rows x h = record { modules = modules; components = set_components modules; in_order = h.in_order; rows_are = h.rows_are; segments_are = h.segments_are }

-- the row of a number is known
pub known_row : (rows : KeyRows) (x : Segments) → AreKnown rows x → (n : ℕ) → n < length rows.rows.items → (row : List code.WrittenComponent) → row ≡ row_at rows.rows.items n → IsKnownRow row x
known_row rows x k n l row e =
    let h = k.1 in
    record { modules = h.modules; key = key_at k.0 n; components = h.components; row_is = row_of h.modules k.0 rows h.rows_are n l row e; segments_are = h.segments_are }

-- the pieces of a known row
module _ (row : List code.WrittenComponent) (x : Segments) (known : IsKnownRow row x) (pieces : List Piece) (found : OfRow row x (λ modules k cs. ArePieces modules x.list.items k row cs pieces)) where
  are : ArePieces known.modules x.list.items known.key row known.components pieces
  are = found known.modules known.key known.components known.row_is known.segments_are

  pub known_ranges : AllByRecursion (λ (p : Piece). (p.from ≤ p.to) × (p.to ≤ length row)) pieces
  known_ranges = ranges known.modules x.list.items known.key row known.components pieces are

  pub known_pieces : AreSomePieces row pieces
  known_pieces = (x.list.items, are.each)

  pub known_in_list : (n : ℕ) → n ≡ length x.list.items → AreInList n pieces
  known_in_list n e = each_contained (λ (p : Piece). p.segment < n) pieces (λ p c. let is = contained_each (IsPiece x.list.items row) pieces are.each p c in omega (arith, is.segment_within, e))

-- the pieces that a slice holds, of the row of a number
pub known_slice : (rows : KeyRows) (x : Segments) → AreKnown rows x → (n : ℕ) → n < length rows.rows.items → (row : List code.WrittenComponent) → row ≡ row_at rows.rows.items n
    → (slice pieces : List Piece) → slice ≡ pieces → OfRow row x (λ modules k cs. ArePieces modules x.list.items k row cs pieces)
    → (count : ℕ) → count ≡ length x.list.items → AreSomePieces row slice × AreInList count slice
known_slice rows x k n l row e slice pieces same found count size =
    let known = known_row rows x k n l row e in
    let held = subst (λ (ps : List Piece). OfRow row x (λ modules j cs. ArePieces modules x.list.items j row cs ps)) (sym same) found in
    (known_pieces row x known slice held, known_in_list row x known slice held count size)
