-- Which keys have components, and which methods need some.
use Rattle.std.proofs.Common.{◌≡◌, ◌-◌, ◌<◌, Bool, true, false, ◌&&◌, List, [], ◌∷◌, length, flat_map, refl, ap, arith, length-append, length-drop, drop}
use Rattle.std.specs.List.{AllByRecursion, list_any}
use Rattle.std.proofs.lemmas.Bool.{false≢true}
use Rattle.std.proofs.lemmas.List.{length-map, length-take-le}
use Rattle.std.proofs.lemmas.List.Sums.{count_by-le-length}
use Rattle.rn_text.specs.Texts.{Text}
use Rattle.rn_assemble.specs.Combine.{IsMixed, IsPlainTwice, is_choice, is_interleave, is_plain, of_key, uses}
use Rattle.rn_assemble.specs.Components.{Component, Key, NamedModule, has_key}
use Rattle.rn_assemble.specs.declared.reading.key_rows.WrittenComponent as code
use Rattle.rn_assemble.specs.declared.including.pieces.Piece.{Piece}
use Rattle.rn_assemble.specs.declared.including.segments.Segment.{Segment}
use Rattle.rn_assemble.specs.declared.including.segments.Segments.{Segments}
use Rattle.rn_assemble.specs.inside.Keyed.{AreNames}
use Rattle.rn_assemble.specs.inside.Pieces.{ArePieces, IsPiece, component_in, piece_components}
use Rattle.rn_assemble.specs.inside.Segments.{AreSegmentsOf}
use Rattle.rn_assemble.proofs.KeyFaults.PieceMethods.{part, piece_is}
use Rattle.rn_assemble.proofs.Naming.KnownKeys.{HasNumber, set_number}
use Rattle.rn_assemble.proofs.Referring.LeastKeys.{has_none, has_some}

any_some : {X : Type 0} (test : X → Bool) (xs : List X) → list_any test xs ≡ true → 0 < length xs
any_some test [] h = absurd (false≢true h)
any_some test (x ∷ xs) h = omega arith

first_of : (a b : Bool) → (a && b) ≡ true → a ≡ true
first_of true b h = refl
first_of false b h = h

module _ (modules : List NamedModule) (names : List Text) (x : Segments) (cs : List Component) (n : AreNames modules names) (a : AreSegmentsOf modules x cs) where
  -- a key with two plain components has a number
  pub plain_number : (k : Key) → IsPlainTwice k cs → HasNumber names k
  plain_number k p = set_number modules names x cs n a k (has_some k cs (omega (arith, p, count_by-le-length (λ (c : Component). is_plain c.method) (of_key k cs))))

  -- so has a key of both methods
  pub mixed_number : (k : Key) → IsMixed k cs → HasNumber names k
  mixed_number k m = set_number modules names x cs n a k (has_some k cs (any_some (λ (c : Component). is_choice c.method) (of_key k cs) (first_of (uses is_choice k cs) (uses is_interleave k cs) m)))

module _ (modules : List NamedModule) (list : List Segment) (k : Key) (row : List code.WrittenComponent) (cs : List Component) where
  part_some : (p : Piece) → IsPiece list row p → 0 < length (piece_components modules list k row p)
  part_some p h =
      let r = piece_is modules list k row p h in
      let rest = length-drop p.from row in
      let size : length (part row p) ≡ p.to - p.from = length-take-le (p.to - p.from) (drop p.from row) (omega (arith, rest, h.ordered, h.within)) in
      omega (arith, ap length r.1, length-map (part row p) (component_in modules k r.0), size, h.ordered)

  some_parts : (ps : List Piece) → AllByRecursion (IsPiece list row) ps → 0 < length ps → 0 < length (flat_map (piece_components modules list k row) ps)
  some_parts [] h l = absurd (omega (arith, l))
  some_parts (p ∷ ps) h l = omega (arith, part_some p h.0, length-append (piece_components modules list k row p) (flat_map (piece_components modules list k row) ps))

  -- a key with pieces has components
  pub key_there : (ps : List Piece) → ArePieces modules list k row cs ps → 0 < length ps → has_key k cs ≡ true
  key_there ps h l = has_some k cs (omega (arith, some_parts ps h.each l, ap length h.are))

  no_parts : (ps : List Piece) → length ps ≡ 0 → length (flat_map (piece_components modules list k row) ps) ≡ 0
  no_parts [] e = refl
  no_parts (p ∷ ps) e = absurd (omega (arith, e))

  -- a key without pieces has none
  pub key_missing : (ps : List Piece) → ArePieces modules list k row cs ps → length ps ≡ 0 → has_key k cs ≡ false
  key_missing ps h e = has_none k cs (omega (arith, no_parts ps e, ap length h.are))
