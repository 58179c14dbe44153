-- The pieces of what an include brought in, between the points at which the pieces part.
use Rattle.std.proofs.Common.{◌≡◌, ℕ, ◌+◌, ◌<◌, ◌≤◌, true, false, ltb, inl, inr, List, length, map, Some, subst, arith}
use Rattle.std.specs.Prelude.{slice_get}
use Rattle.std.specs.List.Sorted.{IsNonDecreasingBy, IsPartitionPoint, IsStrictlyIncreasing}
use Rattle.std.proofs.lemmas.Bool.{cases_lt, ltb-false, ltb-true}
use Rattle.std.proofs.lemmas.List.{get_or-map, length-map}
use Rattle.std.proofs.lemmas.List.Sorted.{IsNonDecreasingBy-from_all_adjacent}
use Rattle.std.proofs.lemmas.Option.{get_or_from_slice_get, slice_get_within}
use Rattle.rn_assemble.specs.declared.including.pieces.Piece.{Piece}
use Rattle.rn_assemble.specs.declared.including.segments.FollowedInclude.{FollowedInclude}
use Rattle.rn_assemble.specs.inside.Runs.{ArePiecesIn}
use Rattle.rn_assemble.proofs.KeyPieces.RowFacts.{element_at}

abbrev segment_of : Piece → ℕ
segment_of p = p.segment

-- the first n pieces are in segments before a place, and the others in none before it
abbrev pub PartAt : List Piece → (place n : ℕ) → Type 0
PartAt pieces place n = IsPartitionPoint (λ (p : Piece). ltb p.segment place ≡ true) (λ (p : Piece). ltb p.segment place ≡ false) pieces n

pub segments_rise : (pieces : List Piece) → IsStrictlyIncreasing (map (λ (p : Piece). p.segment) pieces) → IsNonDecreasingBy (λ (p : Piece). p.segment) pieces
segments_rise pieces s = IsNonDecreasingBy-from_all_adjacent segment_of pieces (λ k d l.
    let size = length-map pieces segment_of in
    omega (arith, s k (omega (arith, l, size)), get_or-map segment_of pieces k d 0 (omega (arith, l)), get_or-map segment_of pieces (k + 1) d 0 l))

module _ (pieces : List Piece) (place n : ℕ) (parts : PartAt pieces place n) (i : ℕ) (p : Piece) (at : slice_get pieces i ≡ Some p) where
  pub before_point : i < n → p.segment < place
  before_point l = ltb-true p.segment place (subst (λ (q : Piece). ltb q.segment place ≡ true) (get_or_from_slice_get pieces i p p at) (parts.0 i p (omega arith) l))

  pub from_point : n ≤ i → place ≤ p.segment
  from_point l = ltb-false p.segment place (subst (λ (q : Piece). ltb q.segment place ≡ false) (get_or_from_slice_get pieces i p p at) (parts.1 i p l (slice_get_within pieces i p at)))

  pub is_before_point : p.segment < place → i < n
  is_before_point l = elim (cases_lt i n) [ inl h ↦ h | inr h ↦ absurd (omega (arith, l, from_point h)) ]

  pub is_from_point : place ≤ p.segment → n ≤ i
  is_from_point l = elim (cases_lt i n) [ inl h ↦ absurd (omega (arith, l, before_point h)) | inr h ↦ h ]

pub pieces_between : (pieces : List Piece) (b : FollowedInclude) (from to : ℕ) → b.from ≤ b.to → from ≤ length pieces → to ≤ length pieces → PartAt pieces b.from from → PartAt pieces b.to to → ArePiecesIn pieces b from to
pieces_between pieces b from to ordered l m parts ends = record {
  ordered = elim (cases_lt to from) [
    | inl h ↦
        let p = element_at pieces to (omega (arith, h, l)) in
        absurd (omega (arith, ordered, before_point pieces b.from from parts to p.0 p.1 h, from_point pieces b.to to ends to p.0 p.1 (omega arith)))
    | inr h ↦ h
  ];
  within = m;
  are = λ i p at. (
    (λ h. (from_point pieces b.from from parts i p at h.0, before_point pieces b.to to ends i p at h.1)),
    (λ h. (is_from_point pieces b.from from parts i p at h.0, is_before_point pieces b.to to ends i p at h.1)),
  );
}
