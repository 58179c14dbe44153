-- The patterns that the pieces of a key bring to its list, and where those of each segment begin.
use Rattle.std.proofs.Common.{◌≡◌, ℕ, ◌≢◌, ◌+◌, ◌-◌, ◌<◌, inl, inr, List, [], ◌∷◌, ◌++◌, append_assoc, append-nil, drop, flat_map, get_or, length, length-append, length-drop, map, set, take, Option, Some, None, Contains, refl, sym, ap, ◌∙◌, subst, arith}
use Rattle.std.specs.Prelude.{filter, nat_lt, not, slice_get, slice_range, ◌&&◌, ◌==◌}
use Rattle.std.specs.List.{AllByRecursion}
use Rattle.std.specs.Option.{option_map_or}
use Rattle.std.specs.Rc.{rc_str_bytes}
use Rattle.std.proofs.lemmas.Bool.{cases_eq}
use Rattle.std.proofs.lemmas.List.{drop_at, drop_more, get_or-set_other, get_or-set_same, length-map, length-take, map-append, take_at}
use Rattle.std.proofs.lemmas.List.Elements.{Contains-get_or}
use Rattle.std.proofs.lemmas.Option.{same_Some, slice_get-get_or, slice_get_within}
use Rattle.std.proofs.lemmas.Simd.{map-map}
use Rattle.rn_pattern.specs.Tree.{Tree}
use Rattle.rn_pattern.proofs.Ordered.InOrder.{contained_each}
use Rattle.rn_pattern.proofs.Stores.Gathering.{flat_map-more}
use Rattle.rn_assemble.specs.Combine.{bodies}
use Rattle.rn_assemble.specs.Components.{Component, Key, NamedModule}
use Rattle.rn_assemble.specs.declared.reading.key_rows.WrittenComponent as code
use Rattle.rn_assemble.specs.declared.including.pieces.Piece.{Piece}
use Rattle.rn_assemble.specs.declared.including.segments.Segment.{Segment}
use Rattle.rn_assemble.specs.declared.reading.contents.Contents.{Contents}
use Rattle.rn_assemble.specs.inside.ContentsOf.{declarations_at}
use Rattle.rn_assemble.specs.inside.ContextBindings.{BindsAs}
use Rattle.rn_assemble.specs.inside.Patterns.{resolved_bodies}
use Rattle.rn_assemble.specs.inside.Pieces.{ArePieces, IsPiece, component_in, parts_in, piece_components}
use Rattle.rn_assemble.specs.Resolve.{resolved_pattern}
use Rattle.rn_syntax.specs.View.{boxed_view}
use Rattle.rn_assemble.specs.inside.Segments.{IsFirstLike, IsSegment}

-- the trees stand in the list, from that place on
pub record StandAt (us : List Tree) (b : ℕ) (ts : List Tree) : Type 0 where
  pub front : List Tree
  pub behind : List Tree
  pub are : ts ≡ front ++ (us ++ behind)
  pub place : length front ≡ b

pub stand_last : (us ts : List Tree) → StandAt us (length ts) (ts ++ us)
stand_last us ts = record { front = ts; behind = []; are = ap (λ vs. ts ++ vs) (sym (append-nil us)); place = refl }

pub stand_on : (us : List Tree) (b : ℕ) (ts vs : List Tree) → StandAt us b ts → StandAt us b (ts ++ vs)
stand_on us b ts vs h = record {
  front = h.front;
  behind = h.behind ++ vs;
  are = ap (λ xs. xs ++ vs) h.are ∙ append_assoc h.front (us ++ h.behind) vs ∙ ap (λ xs. h.front ++ xs) (append_assoc us h.behind vs);
  place = h.place;
}

-- what is taken from there
pub taken_at : (us : List Tree) (b count : ℕ) (ts : List Tree) → StandAt us b ts → count ≡ length us → take count (drop b ts) ≡ us
taken_at us b count ts h e = ap (λ xs. take count (drop b xs)) h.are ∙ ap (take count) (drop_at h.front (us ++ h.behind) b h.place) ∙ take_at us h.behind count (sym e)

-- the piece at an index
pub piece_at : (list : List Segment) (row : List code.WrittenComponent) (pieces : List Piece) → AllByRecursion (IsPiece list row) pieces → (i : ℕ) (p d : Piece) → i < length pieces → p ≡ get_or pieces i d → IsPiece list row p
piece_at list row pieces each i p d l e = contained_each (IsPiece list row) pieces each p (subst (Contains pieces) (sym e) (Contains-get_or pieces i d l))

-- what the bindings of a segment stand for
pub segment_binds : (modules : List NamedModule) (list : List Segment) (contents : List Contents) (n : ℕ) (s : Segment) → AllByRecursion (IsSegment modules contents) list → n < length list → s ≡ get_or list n s → BindsAs s.context.bindings.now (declarations_at modules s.module.0)
segment_binds modules list contents n s each l got = (contained_each (IsSegment modules contents) list each s (subst (Contains list) (sym got) (Contains-get_or list n s l))).binds

some_segment : (list : List Segment) (n : ℕ) → n < length list → Segment
some_segment [] n l = absurd (omega (arith, l))
some_segment (s ∷ list) n l = s

-- how many components a piece has
pub part_size : (list : List Segment) (row : List code.WrittenComponent) (p : Piece) → IsPiece list row p → length (slice_range row p.from p.to) ≡ p.to - p.from
part_size list row p h =
    let size : length (take (p.to - p.from) (drop p.from row)) ≡ p.to - p.from = omega (arith, length-take (p.to - p.from) (drop p.from row), length-drop p.from row, h.within, h.ordered) in size

module _ (modules : List NamedModule) (list : List Segment) (row : List code.WrittenComponent) where
  -- the patterns that a segment has of the key
  abbrev pub segment_bodies : Segment → List Tree
  segment_bodies s = resolved_bodies (rc_str_bytes s.context.inherited.now) (declarations_at modules s.module.0) (parts_in s row)

  -- those of a piece
  abbrev pub piece_bodies : Piece → List Tree
  piece_bodies p = option_map_or (λ (s : Segment). resolved_bodies (rc_str_bytes s.context.inherited.now) (declarations_at modules s.module.0) (slice_range row p.from p.to)) (slice_get list p.segment) []

  abbrev pub all_bodies : List Piece → List Tree
  all_bodies pieces = flat_map piece_bodies pieces

  body_of : (k : Key) (p : Piece) (o : Option Segment) → map (λ (c : Component). c.body) (option_map_or (λ (s : Segment). map (component_in modules k s) (slice_range row p.from p.to)) o [])
      ≡ option_map_or (λ (s : Segment). resolved_bodies (rc_str_bytes s.context.inherited.now) (declarations_at modules s.module.0) (slice_range row p.from p.to)) o []
  body_of k p None = refl
  body_of k p (Some s) = map-map (λ (c : Component). c.body) (component_in modules k s) (slice_range row p.from p.to)

  map_flat : (k : Key) (pieces : List Piece) → map (λ (c : Component). c.body) (flat_map (piece_components modules list k row) pieces) ≡ all_bodies pieces
  map_flat k [] = refl
  map_flat k (p ∷ pieces) =
      map-append (λ (c : Component). c.body) (piece_components modules list k row p) (flat_map (piece_components modules list k row) pieces)
      ∙ (λ i. body_of k p (slice_get list p.segment) i ++ map_flat k pieces i)

  -- the bodies of the key are those of its pieces
  pub bodies_are : (k : Key) (cs : List Component) (pieces : List Piece) → ArePieces modules list k row cs pieces → bodies k cs ≡ all_bodies pieces
  bodies_are k cs pieces h = ap (map (λ (c : Component). c.body)) (sym h.are) ∙ map_flat k pieces

  pub in_segment : (p : Piece) (s : Segment) → slice_get list p.segment ≡ Some s → piece_bodies p ≡ resolved_bodies (rc_str_bytes s.context.inherited.now) (declarations_at modules s.module.0) (slice_range row p.from p.to)
  in_segment p s at = ap (λ (o : Option Segment). option_map_or (λ (t : Segment). resolved_bodies (rc_str_bytes t.context.inherited.now) (declarations_at modules t.module.0) (slice_range row p.from p.to)) o []) at

  pub of_segment : (p : Piece) (s : Segment) → IsPiece list row p → slice_get list p.segment ≡ Some s → piece_bodies p ≡ segment_bodies s
  of_segment p s is at = in_segment p s at ∙ ap (resolved_bodies (rc_str_bytes s.context.inherited.now) (declarations_at modules s.module.0)) (is.parts s at)

  body_count : (p : Piece) → IsPiece list row p → length (piece_bodies p) ≡ p.to - p.from
  body_count p h =
      let s = get_or list p.segment (some_segment list p.segment h.segment_within) in
      ap length (in_segment p s (slice_get-get_or list p.segment (some_segment list p.segment h.segment_within) h.segment_within))
      ∙ length-map (slice_range row p.from p.to) (λ (w : code.WrittenComponent). resolved_pattern (rc_str_bytes s.context.inherited.now) (declarations_at modules s.module.0) (boxed_view w.body))
      ∙ part_size list row p h

  -- a single component, and its pattern
  pub one_body : (p : Piece) (s : Segment) (w : code.WrittenComponent) → slice_get list p.segment ≡ Some s → w ≡ get_or row p.from w → p.from < length row → p.to - p.from ≡ 1
      → all_bodies (p ∷ []) ≡ resolved_pattern (rc_str_bytes s.context.inherited.now) (declarations_at modules s.module.0) (boxed_view w.body) ∷ []
  one_body p s w at read l one =
      let part : slice_range row p.from p.to ≡ w ∷ [] = ap (λ n. take n (drop p.from row)) one ∙ ap (take 1) (drop_more row p.from w l) ∙ ap (λ x. x ∷ []) (sym read) in
      append-nil (piece_bodies p) ∙ in_segment p s at ∙ ap (resolved_bodies (rc_str_bytes s.context.inherited.now) (declarations_at modules s.module.0)) part

  -- other pieces have no or several components
  pub not_one_body : (pieces : List Piece) → AllByRecursion (IsPiece list row) pieces → ((p : Piece) → pieces ≡ p ∷ [] → p.to - p.from ≢ 1) → length (all_bodies pieces) ≢ 1
  not_one_body [] each h e = absurd (omega (arith, e))
  not_one_body (p ∷ []) each h e = h p refl (let one : p.to - p.from ≡ 1 = sym (body_count p each.0) ∙ sym (ap length (append-nil (piece_bodies p))) ∙ e in one)
  not_one_body (p ∷ q ∷ pieces) each h e =
      absurd (omega (arith, e, body_count p each.0, body_count q each.1.0, each.0.ordered, each.1.0.ordered, length-append (piece_bodies p) (piece_bodies q ++ all_bodies pieces), length-append (piece_bodies q) (all_bodies pieces)))

  -- one piece more
  pub bodies_more : (pieces : List Piece) (i : ℕ) (p d : Piece) (ts us : List Tree) → i < length pieces → p ≡ get_or pieces i d → ts ≡ all_bodies (take i pieces) → us ≡ piece_bodies p → ts ++ us ≡ all_bodies (take (i + 1) pieces)
  bodies_more pieces i p d ts us l e t u = flat_map-more piece_bodies pieces i d l ts t us (u ∙ ap piece_bodies e)

  -- ---- where the patterns of segments begin

  -- the patterns of each segment that has a beginning stand there
  abbrev pub Held : List (Option ℕ) → List Tree → Type 0
  Held begins ts = (n b : ℕ) (s : Segment) → slice_get list n ≡ Some s → get_or begins s.first None ≡ Some b → StandAt (segment_bodies s) b ts

  pub held_on : (begins : List (Option ℕ)) (ts us : List Tree) → Held begins ts → Held begins (ts ++ us)
  held_on begins ts us h n b s at is = stand_on (segment_bodies s) b ts us (h n b s at is)

  module _ (first : (n : ℕ) (s : Segment) → slice_get list n ≡ Some s → IsFirstLike list n s) where
    -- segments that have the same first one have the same patterns
    alike : (n m : ℕ) (s t : Segment) → slice_get list n ≡ Some s → slice_get list m ≡ Some t → t.first ≡ s.first → segment_bodies t ≡ segment_bodies s
    alike n m s t a b e =
        let l : s.first < length list = omega (arith, (first n s a).before, slice_get_within list n s a) in
        let f = get_or list s.first s in
        let x = (first n s a).alike f (slice_get-get_or list s.first s l) in
        let y = (first m t b).alike f (ap (slice_get list) e ∙ slice_get-get_or list s.first s l) in
        let u : rc_str_bytes t.context.inherited.now ≡ rc_str_bytes s.context.inherited.now = sym y.4 ∙ x.4 in
        let of : t.module.0 ≡ s.module.0 = sym y.0 ∙ x.0 in
        let from : t.from ≡ s.from = sym y.1 ∙ x.1 in
        let to : t.to ≡ s.to = sym y.2 ∙ x.2 in
        (λ i. resolved_bodies (u i) (declarations_at modules (of i)) (filter (λ (w : code.WrittenComponent). (w.module.0 == of i) && (not (nat_lt w.number (from i)) && nat_lt w.number (to i))) row))

    pub held_set : (begins : List (Option ℕ)) (ts : List Tree) (n b : ℕ) (s : Segment) → slice_get list n ≡ Some s → length begins ≡ length list → StandAt (segment_bodies s) b ts → Held begins ts → Held (set begins s.first (Some b)) ts
    held_set begins ts n b s at size stands h m c t there is = elim (cases_eq t.first s.first) [
      | inl same ↦
          let l : s.first < length begins = omega (arith, (first n s at).before, slice_get_within list n s at, size) in
          let number : b ≡ c = same_Some b c (sym (get_or-set_same begins s.first (Some b) None l) ∙ ap (λ i. get_or (set begins s.first (Some b)) i None) (sym same) ∙ is) in
          subst (λ us. StandAt us c ts) (sym (alike n m s t at there same)) (subst (λ i. StandAt (segment_bodies s) i ts) number stands)
      | inr other ↦ h m c t there (sym (get_or-set_other begins s.first t.first (Some b) None other) ∙ is)
    ]
