-- The pieces of the first components of a row, run by run.
use Rattle.std.proofs.Common.{◌≡◌, ℕ, zero, suc, ◌-◌, ◌<◌, ◌≤◌, eqb, Bool, true, false, List, [], ◌∷◌, ◌++◌, length, get_or, take, drop, map, filter, Some, refl, sym, ap, ◌∙◌, subst, inl, inr, arith}
use Rattle.std.specs.Prelude.{slice_get, slice_range, Contains, Vec}
use Rattle.std.specs.Option.{option_map_or}
use Rattle.std.specs.declared.alloc.Global.{Global}
use Rattle.std.specs.List.{AllByRecursion, IsDistinct}
use Rattle.std.specs.List.Sorted.{IsNonDecreasing, IsNonDecreasingBy, IsPermutation, IsStrictlyIncreasing}
use Rattle.std.proofs.lemmas.Bool.{cases_eq, cases_lt, eq-eqb, ne_eqb}
use Rattle.std.proofs.lemmas.List.{get_or-map, length-map, map-append, map-id}
use Rattle.std.proofs.lemmas.List.Elements.{All-from_recursion, Contains-append_left, Contains-append_right, recursion_from_All}
use Rattle.std.proofs.lemmas.List.Kept.{AllPairs-from_increasing}
use Rattle.std.proofs.lemmas.List.Sorted.{All-permutation, Contains-permutation, IsPermutation-map}
use Rattle.std.proofs.lemmas.Map.Keys.{IsDistinct-IsPermutation, IsDistinct-cons, IsDistinct-from_apart, IsDistinct-head, IsDistinct-tail, IsStrictlyIncreasing-from_distinct}
use Rattle.std.proofs.lemmas.Option.{same_Some, slice_get-get_or, slice_get_past, slice_get_within}
use Rattle.std.proofs.lemmas.Simd.{map-map}
use Rattle.rn_pattern.proofs.Ordered.Ascending.{each_append}
use Rattle.rn_pattern.proofs.Ordered.InOrder.{contained_each, contains_behind, contains_front, each_contained}
use Rattle.rn_assemble.specs.Components.{NamedModule}
use Rattle.rn_assemble.specs.declared.reading.contents.Contents.{Contents}
use Rattle.rn_assemble.specs.declared.reading.key_rows.WrittenComponent as code
use Rattle.rn_assemble.specs.declared.including.pieces.Piece.{Piece}
use Rattle.rn_assemble.specs.declared.including.segments.Segment.{Segment}
use Rattle.rn_assemble.specs.declared.including.segments.Segments.{Segments}
use Rattle.rn_assemble.specs.inside.ContentsOf.{HasOrderedIncludes, IsSegmentOf, segment_begin, segment_end}
use Rattle.rn_assemble.specs.inside.Pieces.{AreAllPieces, IsPiece, parts_in}
use Rattle.rn_assemble.specs.inside.Runs.{AddsRun, IsEndOfRun, Precedes, piece_of}
use Rattle.rn_assemble.specs.inside.Segments.{AreSegments, HasNumber, HavePlaces, places_at}
use Rattle.rn_assemble.proofs.KeyPieces.RowFacts.{element_at, zip_at}
use Rattle.rn_assemble.proofs.KeyPieces.RowOrder.{pair_at}
use Rattle.rn_assemble.proofs.KeyPieces.RowParts.{is_within}
use Rattle.rn_assemble.proofs.KeyPieces.Runs.{IsParted, IsRowIn, in_run, one_segment, parted_more, run_is, within_says}
use Rattle.rn_assemble.proofs.Naming.KeptMembers.{kept_contained, kept_passes}
use Rattle.rn_assemble.proofs.Referring.ListMembers.{map_contained}

-- the places of the pieces' segments
abbrev pub segments_of : List Piece → List ℕ
segments_of ps = map (λ (p : Piece). p.segment) ps

-- the piece is one of components before an index, and isn't marked
abbrev IsPieceBefore : List Segment → List code.WrittenComponent → ℕ → Piece → Type 0
IsPieceBefore list row n p = IsPiece list row p × (p.to ≤ n) × (p.is_overridden ≡ false)

-- the pieces are all those of the components before an index
pub record ArePiecesBefore (x : Segments) (row : List code.WrittenComponent) (n : ℕ) (pieces : List Piece) : Type 0 where
  pub within : n ≤ length row
  pub each : AllByRecursion (IsPieceBefore x.list.items row n) pieces
  pub parted : IsParted x.contents.now row n
  pub all : (i m j : ℕ) (v : code.WrittenComponent) (c : Contents) → i < n → slice_get row i ≡ Some v → slice_get x.contents.now v.module.0 ≡ Some c → IsSegmentOf c v.number j → Contains (places_at x.places.items v.module.0 j) m → Contains (segments_of pieces) m
  pub distinct : IsDistinct eqb (segments_of pieces)

none_distinct : IsDistinct eqb []
unfolding IsDistinct
none_distinct = tt

pub no_pieces : (x : Segments) (row : List code.WrittenComponent) → ArePiecesBefore x row 0 []
no_pieces x row = record {
  within = omega arith;
  each = tt;
  parted = λ i k j v u c l. absurd (omega (arith, l));
  all = λ i m j v c l. absurd (omega (arith, l));
  distinct = none_distinct;
}

-- ---- lists

each_weaker : {X : Type 0} (P Q : X → Type 0) → ((x : X) → P x → Q x) → (xs : List X) → AllByRecursion P xs → AllByRecursion Q xs
each_weaker P Q f [] h = tt
each_weaker P Q f (x ∷ xs) h = (f x h.0, each_weaker P Q f xs h.1)

each_mapped : {X Y : Type 0} (P : Y → Type 0) (f : X → Y) (xs : List X) → ((x : X) → Contains xs x → P (f x)) → AllByRecursion P (map f xs)
each_mapped P f [] h = tt
each_mapped P f (x ∷ xs) h = (h x (contains_front x xs), each_mapped P f xs (λ y c. h y (contains_behind x y xs c)))

distinct_append : (xs ys : List ℕ) → IsDistinct eqb xs → IsDistinct eqb ys → ((a : ℕ) → Contains xs a → Contains ys a → ⊥) → IsDistinct eqb (xs ++ ys)
distinct_append [] ys p q h = q
distinct_append (x ∷ xs) ys p q h =
    let P = λ (y : ℕ). eqb x y ≡ false in
    let cross : AllByRecursion P ys = each_contained P ys (λ y c. ne_eqb x y (λ e. h x (contains_front x xs) (subst (Contains ys) (sym e) c))) in
    IsDistinct-cons eqb x (xs ++ ys) (each_append P xs ys (IsDistinct-head eqb x xs p) cross)
    (distinct_append xs ys (IsDistinct-tail eqb x xs p) q (λ a c. h a (contains_behind x a xs c)))

eqb_flipped : (a b : ℕ) → eqb a b ≡ eqb b a
eqb_flipped a b =
    elim (cases_eq a b) [
      | inl e ↦ eq-eqb a b e ∙ sym (eq-eqb b a (sym e))
      | inr h ↦ ne_eqb a b h ∙ sym (ne_eqb b a (λ e. h (sym e)))
    ]

rising_distinct : (xs : List ℕ) → IsStrictlyIncreasing xs → IsDistinct eqb xs
rising_distinct xs h = IsDistinct-from_apart eqb xs (λ i j d l m. let up = AllPairs-from_increasing xs h i j d l m in ne_eqb (get_or xs i d) (get_or xs j d) (λ e. omega (arith, up, e)))

-- the first element of a range
take_head : {X : Type 0} (n : ℕ) (xs : List X) → slice_get (take (suc n) xs) 0 ≡ slice_get xs 0
take_head n [] = refl
take_head n (x ∷ xs) = refl

drop_head : {X : Type 0} (n : ℕ) (xs : List X) → slice_get (drop n xs) 0 ≡ slice_get xs n
drop_head zero xs = refl
drop_head (suc n) [] = refl
drop_head (suc n) (x ∷ xs) = drop_head n xs

pub range_head : {X : Type 0} (xs : List X) (a b : ℕ) → a < b → slice_get (slice_range xs a b) 0 ≡ slice_get xs a
range_head xs a b l =
    let e : b - a ≡ suc (b - suc a) = omega (arith, l) in
    ap (λ n. slice_get (take n (drop a xs)) 0) e ∙ take_head (b - suc a) (drop a xs) ∙ drop_head a xs

-- what passes a filter is at an index of the list
filter_has : {X : Type 0} (p : X → Bool) (xs : List X) (x : X) → Contains (filter p xs) x → (i : ℕ) × (slice_get xs i ≡ Some x) × (p x ≡ true)
filter_has p xs x c =
    let at = kept_contained p xs x c in
    (at.0, slice_get-get_or xs at.0 x at.1 ∙ ap Some at.2, kept_passes p xs x c)

-- ---- one run more

-- a segment with a number has the module's components of that number's part
module _ (contents : List Contents) (m j : ℕ) (s : Segment) (c : Contents) (has : slice_get contents m ≡ Some c) (n : HasNumber contents m j s) where
  pub begins_at : segment_begin c.includes.items j ≡ s.from
  begins_at = sym (ap (λ t. option_map_or (λ (d : Contents). segment_begin d.includes.items j) t 0) has) ∙ n.begins

  pub ends_at : segment_end c j ≡ s.to
  ends_at = sym (ap (λ t. option_map_or (λ (d : Contents). segment_end d j) t 0) has) ∙ n.ends

  pub parts_are : (row : List code.WrittenComponent) → parts_in s row ≡ filter (is_within m (segment_begin c.includes.items j) (segment_end c j)) row
  parts_are row =
      ap (λ a. filter (is_within a s.from s.to) row) n.module_is
      ∙ ap (λ a. filter (is_within m a s.to) row) (sym begins_at)
      ∙ ap (λ a. filter (is_within m (segment_begin c.includes.items j) a) row) (sym ends_at)

-- the pieces of a run have the run's places
segments_mapped : (from to : ℕ) (ns : List ℕ) → segments_of (map (piece_of from to) ns) ≡ ns
segments_mapped from to ns = map-map (λ (p : Piece). p.segment) (piece_of from to) ns ∙ map-id ns

segments_added : (from to : ℕ) (old : List Piece) (ns : List ℕ) → segments_of (old ++ map (piece_of from to) ns) ≡ segments_of old ++ ns
segments_added from to old ns = map-append (λ (p : Piece). p.segment) old (map (piece_of from to) ns) ∙ ap (λ ms. segments_of old ++ ms) (segments_mapped from to ns)

module _ (modules : List NamedModule) (x : Segments) (are : AreSegments modules x) (row : List code.WrittenComponent) (f : IsRowIn x.contents.now row) (from to : ℕ) (old : List Piece) (p : ArePiecesBefore x row from old)
    (w : code.WrittenComponent) (c : Contents) (at : slice_get row from ≡ Some w) (has : slice_get x.contents.now w.module.0 ≡ Some c)
    (j : ℕ) (in' : IsSegmentOf c w.number j) (run : IsEndOfRun row from w.module.0 (segment_end c j) to) where
  ns : List ℕ
  ns = places_at x.places.items w.module.0 j

  new_parts : (n : ℕ) → Contains ns n → (s : Segment) × (slice_get x.list.items n ≡ Some s) × (slice_range row from to ≡ parts_in s row)
  unfolding ns
  new_parts n k =
      let h = are.numbered w.module.0 j n k in
      (h.0, h.1, sym (parts_are x.contents.now w.module.0 j h.0 c has h.2 row ∙ run_is x.contents.now row f from to j w c at has in' run p.parted))

  new_piece : (n : ℕ) → Contains ns n → IsPieceBefore x.list.items row to (piece_of from to n)
  unfolding ns
  new_piece n k =
      let h = new_parts n k in (
        record {
          segment_within = slice_get_within x.list.items n h.0 h.1;
          ordered = run.further;
          within = run.within;
          parts = λ s e. h.2 ∙ ap (λ (t : Segment). parts_in t row) (same_Some h.0 s (sym h.1 ∙ e));
        },
        omega arith,
        refl,
      )

  -- no segment has two pieces
  twice : (n : ℕ) → Contains (segments_of old) n → Contains ns n → ⊥
  unfolding ns
  twice n k l =
      let g = map_contained (λ (q : Piece). q.segment) old n k in
      let q = g.0 in
      let o = contained_each (IsPieceBefore x.list.items row from) old p.each q g.1 in
      let h = new_parts n l in
      let same : slice_range row q.from q.to ≡ slice_range row from to = o.0.parts h.0 (ap (slice_get x.list.items) g.2 ∙ h.1) ∙ sym h.2 in
      let head : slice_get row q.from ≡ Some w = sym (range_head row q.from q.to o.0.ordered) ∙ ap (λ ws. slice_get ws 0) same ∙ range_head row from to run.further ∙ at in
      let before : q.from < from = omega (arith, o.0.ordered, o.1) in
      elim (pair_at Precedes row q.from from w w f.rises before head at) [ inl e ↦ omega (arith, e) | inr e ↦ omega (arith, e.1) ]

  new_each : AllByRecursion (IsPieceBefore x.list.items row to) (old ++ map (piece_of from to) ns)
  unfolding ns
  new_each =
      each_append (IsPieceBefore x.list.items row to) old (map (piece_of from to) ns)
      (each_weaker (IsPieceBefore x.list.items row from) (IsPieceBefore x.list.items row to) (λ q h. (h.0, omega (arith, h.1, run.further), h.2)) old p.each)
      (each_mapped (IsPieceBefore x.list.items row to) (piece_of from to) ns new_piece)

  new_all : (i m k : ℕ) (v : code.WrittenComponent) (d : Contents) → i < to → slice_get row i ≡ Some v → slice_get x.contents.now v.module.0 ≡ Some d → IsSegmentOf d v.number k → Contains (places_at x.places.items v.module.0 k) m → Contains (segments_of old ++ ns) m
  unfolding ns
  new_all i m k v d l e h a b =
      let later : from ≤ i → Contains (segments_of old ++ ns) m = λ s.
      let r = in_run x.contents.now row f from to j w c at has in' run i v e s l in
      let same : d ≡ c = same_Some d c (sym h ∙ ap (slice_get x.contents.now) r.0 ∙ has) in
      let o = f.written from w at in
      let ordered : HasOrderedIncludes c = subst HasOrderedIncludes (same_Some o.0 c (sym o.1 ∙ has)) o.2 in
      let number : k ≡ j = one_segment c v.number k j ordered (subst (λ (y : Contents). IsSegmentOf y v.number k) same a) r.1 in
      let there : Contains ns m = subst (λ t. Contains (places_at x.places.items w.module.0 t) m) number (subst (λ t. Contains (places_at x.places.items t k) m) r.0 b) in
      Contains-append_right (segments_of old) ns m there in
      elim (cases_lt i from) [ inl s ↦ Contains-append_left (segments_of old) ns m (p.all i m k v d s e h a b) | inr s ↦ later s ]

  pub run_added : ArePiecesBefore x row to (old ++ map (piece_of from to) (places_at x.places.items w.module.0 j))
  unfolding ns
  run_added =
      let e = segments_added from to old ns in
      record {
        within = run.within;
        each = new_each;
        parted = parted_more x.contents.now row f from to j w c at has in' run p.parted;
        all = λ i m k v d l g h a b. subst (λ ms. Contains ms m) (sym e) (new_all i m k v d l g h a b);
        distinct = subst (IsDistinct eqb) (sym e) (distinct_append (segments_of old) ns p.distinct (rising_distinct ns (are.rise w.module.0 j)) twice);
      }

-- a run more
pub pieces_more : (modules : List NamedModule) (x : Segments) → AreSegments modules x → (row : List code.WrittenComponent) → IsRowIn x.contents.now row → (from to : ℕ) (old new : List Piece)
    → ArePiecesBefore x row from old → AddsRun x row from to old new → ArePiecesBefore x row to new
pieces_more modules x are row f from to old new p a =
    let w = element_at row from (omega (arith, a.further, a.within)) in
    let c = f.written from w.0 w.1 in
    let r = a.added w.0 c.0 w.1 c.1 in
    subst (ArePiecesBefore x row to) (sym r.3) (run_added modules x are row f from to old p w.0 c.0 w.1 c.1 r.0 r.1 r.2)

-- those of the first run rise
pub first_rise : (modules : List NamedModule) (x : Segments) → AreSegments modules x → (row : List code.WrittenComponent) → IsRowIn x.contents.now row → (from to : ℕ) (old new : List Piece)
    → old ≡ [] → AddsRun x row from to old new → IsStrictlyIncreasing (segments_of new)
first_rise modules x are row f from to old new e a =
    let w = element_at row from (omega (arith, a.further, a.within)) in
    let c = f.written from w.0 w.1 in
    let r = a.added w.0 c.0 w.1 c.1 in
    let ns = places_at x.places.items w.0.module.0 r.0 in
    let is : segments_of new ≡ ns = ap segments_of (r.3 ∙ ap (λ ps. ps ++ map (piece_of from to) ns) e) ∙ segments_mapped from to ns in
    subst IsStrictlyIncreasing (sym is) (are.rise w.0.module.0 r.0)

-- ---- all runs

-- a place of a segment stands under the number of one of its module's segments
number_within : (contents : List Contents) (places : List (Vec (Vec ℕ Global) Global)) (m j n : ℕ) (c : Contents) → HavePlaces contents places → slice_get contents m ≡ Some c → Contains (places_at places m j) n → j ≤ length c.includes.items
number_within contents places m j n c h e k =
    let z = zip_at (λ (d : Contents) (numbers : Vec (Vec ℕ Global) Global). length numbers.items ≡ suc (length d.includes.items)) contents places m h (slice_get_within contents m c e) in
    let d = z.0 in
    let numbers = z.1 in
    let same : d ≡ c = same_Some d c (sym z.2 ∙ e) in
    let size : length numbers.items ≡ suc (length c.includes.items) = z.4 ∙ ap (λ (y : Contents). suc (length y.includes.items)) same in
    let past : length numbers.items ≤ j → ⊥ = λ l.
    let none : places_at places m j ≡ [] =
    ap (λ t. option_map_or (λ (ns : Vec (Vec ℕ Global) Global). option_map_or (λ (v : Vec ℕ Global). v.items) (slice_get ns.items j) []) t []) z.3
    ∙ ap (λ t. option_map_or (λ (v : Vec ℕ Global). v.items) t []) (slice_get_past numbers.items j l) in
    let c' : Contains [] n = subst (λ ms. Contains ms n) none k in
    omega (arith, c'.1) in
    elim (cases_lt j (length numbers.items)) [ inl l ↦ omega (arith, l, size) | inr l ↦ absurd (past l) ]

module _ (modules : List NamedModule) (x : Segments) (are : AreSegments modules x) (row : List code.WrittenComponent) (f : IsRowIn x.contents.now row) (end : ℕ) (pieces : List Piece)
    (p : ArePiecesBefore x row end pieces) (l : length row ≤ end) where
  all_found : (n : ℕ) (s : Segment) (w : code.WrittenComponent) → slice_get x.list.items n ≡ Some s → Contains (parts_in s row) w → Contains (segments_of pieces) n
  all_found n s w e k =
      let i = filter_has (is_within s.module.0 s.from s.to) row w k in
      let h = within_says s.module.0 s.from s.to w i.2 in
      let place = are.placed n s e in
      let numbered = are.numbered s.module.0 place.0 n place.1 in
      let same : numbered.0 ≡ s = same_Some numbered.0 s (sym numbered.1 ∙ e) in
      let number : HasNumber x.contents.now s.module.0 place.0 s = subst (HasNumber x.contents.now s.module.0 place.0) same numbered.2 in
      let o = f.written i.0 w i.1 in
      let has : slice_get x.contents.now s.module.0 ≡ Some o.0 = ap (slice_get x.contents.now) (sym h.0) ∙ o.1 in
      let begin = begins_at x.contents.now s.module.0 place.0 s o.0 has number in
      let behind = ends_at x.contents.now s.module.0 place.0 s o.0 has number in
      let in' : IsSegmentOf o.0 w.number place.0 = record {
        within = number_within x.contents.now x.places.items s.module.0 place.0 n o.0 are.sizes has place.1;
        begins = omega (arith, begin, h.1);
        ends = λ m. omega (arith, behind, h.2);
      } in
      p.all i.0 n place.0 w o.0 (omega (arith, l, slice_get_within row i.0 w i.1)) i.1 o.1 in' (subst (λ t. Contains (places_at x.places.items t place.0) n) (sym h.0) place.1)

  -- where there was one run at most, the pieces are in order
  pub all_in_order : IsStrictlyIncreasing (segments_of pieces) → AreAllPieces x.list.items row pieces
  all_in_order r = record {
    unmarked = each_weaker (IsPieceBefore x.list.items row end) (λ (q : Piece). q.is_overridden ≡ false) (λ q h. h.2) pieces p.each;
    each = each_weaker (IsPieceBefore x.list.items row end) (IsPiece x.list.items row) (λ q h. h.0) pieces p.each;
    rise = r;
    all = all_found;
  }

  -- else they are put in order
  pub all_sorted : (sorted : List Piece) → IsPermutation pieces sorted → IsNonDecreasingBy (λ (q : Piece). q.segment) sorted → AreAllPieces x.list.items row sorted
  all_sorted sorted m o =
      let P = IsPieceBefore x.list.items row end in
      let each : AllByRecursion P sorted = recursion_from_All P sorted (All-permutation P pieces sorted m (All-from_recursion P pieces p.each)) in
      let moved = IsPermutation-map (λ (q : Piece). q.segment) pieces sorted m in
      let distinct : IsDistinct eqb (segments_of sorted) = IsDistinct-IsPermutation eqb (λ a b. eqb_flipped a b) (segments_of pieces) (segments_of sorted) moved p.distinct in
      let size = length-map sorted (λ (q : Piece). q.segment) in
      let rises : IsNonDecreasing (segments_of sorted) = λ i j d a b.
      let q = element_at sorted i (omega (arith, a, b, size)) in
      let up = o i j q.0 a (omega (arith, b, size)) in
      let e = get_or-map (λ (t : Piece). t.segment) sorted i q.0 d (omega (arith, a, b, size)) in
      let g = get_or-map (λ (t : Piece). t.segment) sorted j q.0 d (omega (arith, b, size)) in
      omega (arith, up, e, g) in
      record {
        unmarked = each_weaker P (λ (q : Piece). q.is_overridden ≡ false) (λ q h. h.2) sorted each;
        each = each_weaker P (IsPiece x.list.items row) (λ q h. h.0) sorted each;
        rise = IsStrictlyIncreasing-from_distinct (segments_of sorted) rises distinct;
        all = λ n s w e k. Contains-permutation (segments_of pieces) (segments_of sorted) n moved (all_found n s w e k);
      }
