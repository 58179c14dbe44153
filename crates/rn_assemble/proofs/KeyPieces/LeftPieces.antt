-- What includes leave of a key's components is what its pieces have that no include overrides.
use Rattle.std.proofs.Common.{◌≡◌, ℕ, suc, ◌+◌, ◌<◌, ◌≤◌, not, cond, Bool, true, false, List, [], ◌∷◌, ◌++◌, length, map, filter, flat_map, Some, refl, sym, ap, ◌∙◌, subst, inl, inr, arith}
use Rattle.std.specs.Prelude.{slice_get, slice_index, slice_range, Contains}
use Rattle.std.specs.Option.{option_map_or}
use Rattle.std.specs.Rc.{rc_str_bytes}
use Rattle.std.specs.List.{AllByRecursion}
use Rattle.std.specs.List.Sorted.{IsStrictlyIncreasing}
use Rattle.std.proofs.lemmas.Bool.{cases_Bool, cases_lt, false≢true}
use Rattle.std.proofs.lemmas.List.Elements.{filter-append}
use Rattle.std.proofs.lemmas.Simd.{map-map}
use Rattle.rn_pattern.proofs.Ordered.InOrder.{contained_each, contains_behind, contains_cases, contains_front}
use Rattle.rn_assemble.specs.Combine.{of_key}
use Rattle.rn_assemble.specs.Components.{Component, Key, NamedModule, same_key}
use Rattle.rn_assemble.specs.declared.reading.key_rows.WrittenComponent as code
use Rattle.rn_assemble.specs.declared.including.pieces.Piece.{Piece}
use Rattle.rn_assemble.specs.declared.including.segments.FollowedInclude.{FollowedInclude}
use Rattle.rn_assemble.specs.declared.including.segments.Segment.{Segment}
use Rattle.rn_assemble.specs.inside.ContentsOf.{declarations_at, resolved_component, written_at}
use Rattle.rn_assemble.specs.inside.Pieces.{IsPiece, component_in, parts_in, piece_components}
use Rattle.rn_assemble.specs.inside.Rows.{IsRowOf, placed_view}
use Rattle.rn_assemble.specs.inside.Segments.{is_overridden, left_from, segment_components}
use Rattle.rn_assemble.proofs.KeyPieces.FoundPieces.{segments_of}
use Rattle.rn_assemble.proofs.KeyPieces.RowFacts.{element_at}
use Rattle.rn_assemble.proofs.KeyPieces.RowParts.{filter_mapped, row_parts}
use Rattle.rn_assemble.proofs.Referring.KeyNumbers.{same_key-Decides}
use Rattle.rn_assemble.proofs.Referring.ListMembers.{map_contained}

-- of a segment those of the row's key are the row's parts in it
pub segment_parts : (modules : List NamedModule) (k : Key) (row : List code.WrittenComponent) → IsRowOf modules k row → (s : Segment) → of_key k (segment_components modules s) ≡ map (component_in modules k s) (parts_in s row)
segment_parts modules k row is s =
    let u = rc_str_bytes s.context.inherited.now in
    let ds = declarations_at modules s.module.0 in
    let view = λ (w : code.WrittenComponent). (placed_view k w).component in
    filter_mapped (λ (c : Component). same_key k c.key) (resolved_component u ds) (slice_range (written_at modules s.module.0) s.from s.to)
    ∙ ap (map (resolved_component u ds)) (row_parts modules k row is s.module.0 s.from s.to)
    ∙ map-map (resolved_component u ds) view (parts_in s row)

-- numbers that rise, none below the first
abbrev RiseFrom : ℕ → List ℕ → Type 0
RiseFrom n [] = Unit {0}
RiseFrom n (k ∷ ks) = (n ≤ k) × RiseFrom (suc k) ks

above_all : (n : ℕ) (ks : List ℕ) (a : ℕ) → RiseFrom n ks → Contains ks a → n ≤ a
above_all n [] a r c = absurd (omega (arith, c.1))
above_all n (k ∷ ks) a r c =
    elim (contains_cases k a ks c) [
      | inl e ↦ omega (arith, e, r.0)
      | inr d ↦ let l = above_all (suc k) ks a r.1 d in omega (arith, l, r.0)
    ]

rise_behind : (k : ℕ) (ks : List ℕ) → IsStrictlyIncreasing (k ∷ ks) → RiseFrom (suc k) ks
rise_behind k [] h = tt
rise_behind k (j ∷ ks) h =
    let rest : IsStrictlyIncreasing (j ∷ ks) = λ i l.
    let e : suc i + 1 ≡ suc (i + 1) = omega arith in
    subst (λ m. slice_index (k ∷ j ∷ ks) (suc i) < slice_index (k ∷ j ∷ ks) m) e (h (suc i) (omega (arith, l))) in
    (omega (arith, h 0 (omega arith)), rise_behind j ks rest)

rise_all : (ks : List ℕ) → IsStrictlyIncreasing ks → RiseFrom 0 ks
rise_all [] h = tt
rise_all (k ∷ ks) h = (omega arith, rise_behind k ks h)

-- a key's components among those whose keys fail a test
kept_one : (k : Key) (c : Component) (cs us : List Component) (b t q : Bool) → same_key k c.key ≡ b → (b ≡ true → t ≡ q) → of_key k cs ≡ cond q [] us → of_key k (cond (not t) (c ∷ cs) cs) ≡ cond q [] (cond b (c ∷ us) us)
kept_one k c cs us true true true e f h = h
kept_one k c cs us true true false e f h = absurd (false≢true (sym (f refl)))
kept_one k c cs us true false true e f h = absurd (false≢true (f refl))
kept_one k c cs us true false false e f h = ap (λ t. cond t (c ∷ of_key k cs) (of_key k cs)) e ∙ ap (λ ds. c ∷ ds) h
kept_one k c cs us false true q e f h = h
kept_one k c cs us false false q e f h = ap (λ t. cond t (c ∷ of_key k cs) (of_key k cs)) e ∙ h

none_left : (b : Bool) → [] ≡ cond {A = List Component} b [] []
none_left true = refl
none_left false = refl

kept_of_key : (k : Key) (P : Key → Bool) (cs : List Component) → of_key k (filter (λ (d : Component). not (P d.key)) cs) ≡ cond (P k) [] (of_key k cs)
kept_of_key k P [] = none_left (P k)
kept_of_key k P (c ∷ cs) =
    kept_one k c (filter (λ (d : Component). not (P d.key)) cs) (of_key k cs) (same_key k c.key) (P c.key) (P k) refl
    (λ e. ap P (sym ((same_key-Decides k c.key).0 e))) (kept_of_key k P cs)

module _ (modules : List NamedModule) (k : Key) (followed : List FollowedInclude) where
  -- what is left of the key in the segment at a place
  abbrev left_in : ℕ → Segment → List Component
  left_in n s = cond (is_overridden modules followed k n) [] (of_key k (segment_components modules s))

  left_first : (n : ℕ) (s : Segment) (ss : List Segment) → of_key k (left_from modules followed n (s ∷ ss)) ≡ left_in n s ++ of_key k (left_from modules followed (suc n) ss)
  left_first n s ss =
      filter-append (λ (c : Component). same_key k c.key) (filter (λ (c : Component). not (is_overridden modules followed c.key n)) (segment_components modules s)) (left_from modules followed (suc n) ss)
      ∙ ap (λ cs. cs ++ of_key k (left_from modules followed (suc n) ss)) (kept_of_key k (λ j. is_overridden modules followed j n) (segment_components modules s))

  -- all that is left, by rising places that have all of it
  all_left : (g : ℕ → List Component) (n : ℕ) (ss : List Segment) (ks : List ℕ) → RiseFrom n ks → ((j : ℕ) → Contains ks j → j < n + length ss)
      → ((m i : ℕ) (s : Segment) → m ≡ n + i → slice_get ss i ≡ Some s → g m ≡ left_in m s)
      → ((m i : ℕ) (s : Segment) → m ≡ n + i → slice_get ss i ≡ Some s → (Contains ks m → ⊥) → left_in m s ≡ []) → flat_map g ks ≡ of_key k (left_from modules followed n ss)
  all_left g n [] [] r l h f = refl
  all_left g n [] (j ∷ ks) r l h f = absurd (omega (arith, l j (contains_front j ks), r.0))
  all_left g n (s ∷ ss) [] r l h f =
      let none : left_in n s ≡ [] = f n 0 s (omega arith) refl (λ c. omega (arith, c.1)) in
      let rest = all_left g (suc n) ss [] tt (λ j c. absurd (omega (arith, c.1))) (λ m i t q e. h m (suc i) t (omega (arith, q)) e) (λ m i t q e d. f m (suc i) t (omega (arith, q)) e d) in
      rest ∙ sym (left_first n s ss ∙ ap (λ cs. cs ++ of_key k (left_from modules followed (suc n) ss)) none)
  all_left g n (s ∷ ss) (j ∷ ks) r l h f =
      let later : n < j → flat_map g (j ∷ ks) ≡ of_key k (left_from modules followed n (s ∷ ss)) = λ a.
      let away : Contains (j ∷ ks) n → ⊥ = λ c. elim (contains_cases j n ks c) [
        | inl e ↦ omega (arith, e, a)
        | inr d ↦ let b = above_all (suc j) ks n r.1 d in omega (arith, a, b)
      ] in
      let none : left_in n s ≡ [] = f n 0 s (omega arith) refl away in
      let rest = all_left g (suc n) ss (j ∷ ks) (omega (arith, a), r.1) (λ i c. let b = l i c in omega (arith, b)) (λ m i t q e. h m (suc i) t (omega (arith, q)) e) (λ m i t q e d. f m (suc i) t (omega (arith, q)) e d) in
      rest ∙ sym (left_first n s ss ∙ ap (λ cs. cs ++ of_key k (left_from modules followed (suc n) ss)) none) in
      let here : j ≡ n → flat_map g (j ∷ ks) ≡ of_key k (left_from modules followed n (s ∷ ss)) = λ a.
      let first : g j ≡ left_in n s = ap g a ∙ h n 0 s (omega arith) refl in
      let rest = all_left g (suc n) ss ks (subst (λ i. RiseFrom (suc i) ks) a r.1) (λ i c. let b = l i (contains_behind j i ks c) in omega (arith, b)) (λ m i t q e. h m (suc i) t (omega (arith, q)) e)
      (λ m i t q e d. f m (suc i) t (omega (arith, q)) e (λ c. elim (contains_cases j m ks c) [ inl b ↦ omega (arith, a, b, q) | inr b ↦ d b ])) in
      (λ i. first i ++ rest i) ∙ sym (left_first n s ss) in
      elim (cases_lt n j) [ inl a ↦ later a | inr a ↦ here (omega (arith, a, r.0)) ]

  -- the pieces that are left have what is left
  module _ (row : List code.WrittenComponent) (is : IsRowOf modules k row) (list : List Segment) where
    at_place : ℕ → List Component
    at_place n = option_map_or (left_in n) (slice_get list n) []

    piece_has : (p : Piece) → IsPiece list row p → is_overridden modules followed k p.segment ≡ false → piece_components modules list k row p ≡ at_place p.segment
    unfolding at_place
    piece_has p h o =
        let s = element_at list p.segment h.segment_within in
        ap (λ t. option_map_or (λ (u : Segment). map (component_in modules k u) (slice_range row p.from p.to)) t []) s.1
        ∙ ap (map (component_in modules k s.0)) (h.parts s.0 s.1)
        ∙ sym (segment_parts modules k row is s.0)
        ∙ sym (ap (λ b. cond b [] (of_key k (segment_components modules s.0))) o)
        ∙ sym (ap (λ t. option_map_or (left_in p.segment) t []) s.1)

    pieces_have : (ps : List Piece) → AllByRecursion (IsPiece list row) ps → AllByRecursion (λ (p : Piece). is_overridden modules followed k p.segment ≡ false) ps
        → flat_map (piece_components modules list k row) ps ≡ flat_map at_place (segments_of ps)
    pieces_have [] h o = refl
    pieces_have (p ∷ ps) h o =
        let first = piece_has p h.0 o.0 in
        let rest = pieces_have ps h.1 o.1 in
        λ i. first i ++ rest i

    pub pieces_are : (ps : List Piece) → AllByRecursion (IsPiece list row) ps → IsStrictlyIncreasing (segments_of ps) → AllByRecursion (λ (p : Piece). is_overridden modules followed k p.segment ≡ false) ps
        → ((n : ℕ) (s : Segment) (w : code.WrittenComponent) → slice_get list n ≡ Some s → Contains (parts_in s row) w → is_overridden modules followed k n ≡ false → Contains (segments_of ps) n)
        → flat_map (piece_components modules list k row) ps ≡ of_key k (left_from modules followed 0 list)
    unfolding at_place
    pieces_are ps h r o f =
        let within : (j : ℕ) → Contains (segments_of ps) j → j < 0 + length list = λ j c.
        let p = map_contained (λ (q : Piece). q.segment) ps j c in
        let l = (contained_each (IsPiece list row) ps h p.0 p.1).segment_within in
        omega (arith, l, p.2) in
        let same : (m i : ℕ) (s : Segment) → m ≡ 0 + i → slice_get list i ≡ Some s → at_place m ≡ left_in m s = λ m i s q e.
        let mi : m ≡ i = omega (arith, q) in
        ap (λ t. option_map_or (left_in m) t []) (ap (slice_get list) mi ∙ e) in
        let none : (m i : ℕ) (s : Segment) → m ≡ 0 + i → slice_get list i ≡ Some s → (Contains (segments_of ps) m → ⊥) → left_in m s ≡ [] = λ m i s q e d.
        let mi : m ≡ i = omega (arith, q) in
        let bare : is_overridden modules followed k m ≡ false → (ws : List code.WrittenComponent) → parts_in s row ≡ ws → of_key k (segment_components modules s) ≡ map (component_in modules k s) ws → left_in m s ≡ [] = λ b ws.
        elim ws as (λ vs. parts_in s row ≡ vs → of_key k (segment_components modules s) ≡ map (component_in modules k s) vs → left_in m s ≡ []) [
          | [] ↦ λ a g. ap (λ t. cond t [] (of_key k (segment_components modules s))) b ∙ g
          | v ∷ vs ↦ λ a g. absurd (d (f m s v (ap (slice_get list) mi ∙ e) (subst (λ us. Contains us v) (sym a) (contains_front v vs)) b))
        ] in
        elim (cases_Bool (is_overridden modules followed k m)) [
          | inl b ↦ ap (λ t. cond t [] (of_key k (segment_components modules s))) b
          | inr b ↦ bare b (parts_in s row) refl (segment_parts modules k row is s)
        ] in
        pieces_have ps h o ∙ all_left at_place 0 list (segments_of ps) (rise_all (segments_of ps) r) within same none
