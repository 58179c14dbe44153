-- The first places of names, found key by key.
use Rattle.std.proofs.Common.{◌≡◌, ◌⊎◌, ℕ, zero, suc, ◌+◌, ◌<◌, ◌≤◌, inl, inr, ⊎_elim, true, false, List, [], ◌∷◌, ◌++◌, length, map, None, Some, refl, sym, ap, ◌∙◌, subst, arith, Contains, nat_eq, below_more}
use Rattle.std.specs.Prelude.{slice_get}
use Rattle.std.specs.List.{AllByRecursion, AllPairs, IsDistinct}
use Rattle.std.specs.List.Sorted.{IsStrictlyIncreasing}
use Rattle.std.proofs.lemmas.Bool.{cases_lt, false≢true}
use Rattle.std.proofs.lemmas.Cmp.{nat_eq_equiv}
use Rattle.std.proofs.lemmas.List.{map-append}
use Rattle.std.proofs.lemmas.List.Elements.{Contains-append_left, Contains-push, Contains-push_cases}
use Rattle.std.proofs.lemmas.List.Kept.{AllPairs-filter, AllPairs-from_increasing}
use Rattle.std.proofs.lemmas.Map.Keys.{IsDistinct-push}
use Rattle.std.proofs.lemmas.Option.{get_or_from_slice_get, none-some, same_Some, slice_get_within}
use Rattle.rn_text.specs.Texts.{Text}
use Rattle.rn_assemble.specs.Components.{Component, Key, NamedModule, has_key}
use Rattle.rn_assemble.specs.declared.reading.key_rows.WrittenComponent as code
use Rattle.rn_assemble.specs.declared.including.pieces.Piece.{Piece}
use Rattle.rn_assemble.specs.declared.including.segments.Segment.{Segment}
use Rattle.rn_assemble.specs.declared.including.segments.Segments.{Segments}
use Rattle.rn_assemble.specs.declared.by_key.settling_order.FirstPlace.{FirstPlace}
use Rattle.rn_assemble.specs.inside.ContentsOf.{written_at}
use Rattle.rn_assemble.specs.inside.FirstPlaces.{AreFirstPlaces, IsLeftAt}
use Rattle.rn_assemble.specs.inside.Keyed.{key_at}
use Rattle.rn_assemble.specs.inside.Pieces.{AreLeft, ArePieces, IsPiece, parts_in}
use Rattle.rn_assemble.specs.inside.Rows.{IsRowOf, placed_view}
use Rattle.rn_assemble.specs.inside.Runs.{Precedes}
use Rattle.rn_assemble.proofs.KeyPieces.RowOrder.{row_rises}
use Rattle.rn_assemble.proofs.KeyPieces.RowParts.{is_within}
use Rattle.rn_assemble.proofs.KeyPieces.Runs.{within_holds, within_says}
use Rattle.rn_assemble.proofs.Naming.KeptMembers.{kept_passes, kept_there, range_get}
use Rattle.rn_assemble.proofs.Naming.PlacedComponents.{row_is_written, row_there}
use Rattle.rn_assemble.proofs.Referring.LeastKeys.{has_none}
use Rattle.rn_assemble.proofs.Referring.MarkedPlaces.{none_same}

-- no piece, no component
pub no_piece : (modules : List NamedModule) (list : List Segment) (k : Key) (row : List code.WrittenComponent) (cs : List Component) → ArePieces modules list k row cs [] → has_key k cs ≡ false
no_piece modules list k row cs h = has_none k cs (ap length (sym h.are))

element_at : {X : Type 0} (xs : List X) (n : ℕ) → n < length xs → (x : X) × (slice_get xs n ≡ Some x)
element_at [] n l = absurd (omega (arith, l))
element_at (x ∷ xs) zero l = (x, refl)
element_at (x ∷ xs) (suc n) l = element_at xs n (omega (arith, l))

got_contained : {X : Type 0} (xs : List X) (n : ℕ) (x : X) → slice_get xs n ≡ Some x → Contains xs x
got_contained xs n x e = (n, slice_get_within xs n x e, get_or_from_slice_get xs n x x e)

-- the head of a list that rises
head_least : (n m : ℕ) (ns : List ℕ) → IsStrictlyIncreasing (n ∷ ns) → Contains (n ∷ ns) m → n ≤ m
head_least n m ns up (zero, l, e) = omega (arith, (let f : n ≡ m = e in f))
head_least n m ns up (suc j, l, e) =
    let less = AllPairs-from_increasing (n ∷ ns) up 0 (suc j) m (omega arith) l in
    omega (arith, less, e)

-- the first of a row's components, in the order of their numbers
first_number : (xs : List code.WrittenComponent) (w v : code.WrittenComponent) → AllPairs Precedes xs → slice_get xs 0 ≡ Some w → Contains xs v → v.module.0 ≡ w.module.0 → w.number ≤ v.number
first_number [] w v pairs e (j, l, is) same = absurd (omega (arith, l))
first_number (x ∷ xs) w v pairs e (zero, l, is) same =
    let here : w ≡ v = sym (same_Some x w e) ∙ is in
    let number = ap (λ (u : code.WrittenComponent). u.number) here in
    omega (arith, number)
first_number (x ∷ xs) w v pairs e (suc j, l, is) same =
    let r : Precedes x v = subst (Precedes x) is (pairs 0 (suc j) v (omega arith) l) in
    let first : Precedes w v = subst (λ (u : code.WrittenComponent). Precedes u v) (same_Some x w e) r in
    ⊎_elim (λ less. absurd (omega (arith, less, same))) (λ h. omega (arith, h.1)) first

-- ---- the first component of the first piece

module _ (modules : List NamedModule) (x : Segments) (k : Key) (row : List code.WrittenComponent) (cs : List Component) (p : Piece) (ps : List Piece) (is : IsRowOf modules k row)
    (are : ArePieces modules x.list.items k row cs (p ∷ ps)) (left : AreLeft modules x k row (p ∷ ps)) (w : code.WrittenComponent) (at : slice_get row p.from ≡ Some w) where
  -- the segment of the piece
  record IsThere : Type 0 where
    s : Segment
    there : slice_get x.list.items p.segment ≡ Some s
    head : slice_get (parts_in s row) 0 ≡ Some w
    module_is : w.module.0 ≡ s.module.0
    after : s.from ≤ w.number
    before : w.number < s.to

  is_there : IsThere
  is_there =
      let piece = are.each.0 in
      let (s, there) = element_at x.list.items p.segment piece.segment_within in
      let same : p.from + 0 ≡ p.from = omega arith in
      let head : slice_get (parts_in s row) 0 ≡ Some w =
      ap (λ ys. slice_get ys 0) (sym (piece.parts s there)) ∙ range_get row p.from p.to 0 (omega (arith, piece.ordered)) ∙ ap (slice_get row) same ∙ at in
      let says = within_says s.module.0 s.from s.to w (kept_passes (is_within s.module.0 s.from s.to) row w (got_contained (parts_in s row) 0 w head)) in
      record { s = s; there = there; head = head; module_is = says.0; after = says.1; before = says.2 }

  pub is_left : IsLeftAt modules x k p.segment w.number
  is_left =
      let t = is_there in
      let written = row_is_written modules k row is w (got_contained row p.from w at) in
      record {
        s = t.s;
        at = t.there;
        after = t.after;
        before = t.before;
        written = ((placed_view k w).component, subst (λ i. slice_get (written_at modules i) w.number ≡ Some (placed_view k w).component) t.module_is written, refl);
        left = left.each.0;
      }

  least_at : (m q : ℕ) → IsLeftAt modules x k m q → (p.segment ≤ m) × (p.segment ≡ m → w.number ≤ q)
  least_at m q h =
      let t = is_there in
      let (c, written, key) = h.written in
      let (v, there, module_is, number) = row_there modules k row is h.s.module.0 q c written key in
      let within = within_holds h.s.module.0 h.s.from h.s.to v module_is (omega (arith, number, h.after)) (omega (arith, number, h.before)) in
      let part = kept_there (is_within h.s.module.0 h.s.from h.s.to) row v there within in
      let least = head_least p.segment m (map (λ (r : Piece). r.segment) ps) are.rise (left.all m h.s v h.at part h.left) in (
        least,
        λ same.
            let one : h.s ≡ t.s = same_Some h.s t.s (sym h.at ∙ ap (slice_get x.list.items) (sym same) ∙ t.there) in
            let here : Contains (parts_in t.s row) v = subst (λ (s : Segment). Contains (parts_in s row) v) one part in
            let modules_same : v.module.0 ≡ w.module.0 = module_is ∙ ap (λ (s : Segment). s.module.0) one ∙ sym t.module_is in
            let first = first_number (parts_in t.s row) w v (AllPairs-filter Precedes (is_within t.s.module.0 t.s.from t.s.to) row (row_rises modules k row is)) t.head here modules_same in
            omega (arith, first, number),
      )

  pub is_least : (m q : ℕ) → IsLeftAt modules x k m q → (p.segment < m) ⊎ ((p.segment ≡ m) × (w.number ≤ q))
  is_least m q h = let l = least_at m q h in elim (cases_lt p.segment m) [ inl less ↦ inl less | inr g ↦ (let same : p.segment ≡ m = omega (arith, g, l.0) in inr (same, l.1 same)) ]

-- ---- one key more after the other

module _ (modules : List NamedModule) (x : Segments) (names : List Text) (cs : List Component) where
  -- what is said of a place in AreFirstPlaces
  abbrev pub IsFirst : FirstPlace → Type 0
  IsFirst p = (0 < p.key.0) × (p.key.0 < suc (length names)) × IsLeftAt modules x (key_at names p.key.0) p.segment p.number
      × ((segment number : ℕ) → IsLeftAt modules x (key_at names p.key.0) segment number → (p.segment < segment) ⊎ ((p.segment ≡ segment) × (p.number ≤ number)))

  -- the first places of the keys below n
  pub record ArePlacesBelow (n : ℕ) (places : List FirstPlace) : Type 0 where
    pub once : IsDistinct nat_eq (map (λ (p : FirstPlace). p.key.0) places)
    pub below : (k : ℕ) → Contains (map (λ (p : FirstPlace). p.key.0) places) k → k < n
    pub each : AllByRecursion IsFirst places
    pub all : (m : ℕ) → m < n → 0 < m → has_key (key_at names m) cs ≡ true → Contains (map (λ (p : FirstPlace). p.key.0) places) m

  pub none_below : ArePlacesBelow 1 []
  unfolding IsDistinct
  none_below = record { once = tt; below = λ k c. absurd (omega (arith, c.1)); each = tt; all = λ m l g h. absurd (omega (arith, l, g)) }

  pub same_below : (n : ℕ) (places : List FirstPlace) → has_key (key_at names n) cs ≡ false → ArePlacesBelow n places → ArePlacesBelow (n + 1) places
  same_below n places none h = record {
    once = h.once;
    below = λ k c. (let l = h.below k c in omega (arith, l));
    each = h.each;
    all = below_more (λ m. 0 < m → has_key (key_at names m) cs ≡ true → Contains (map (λ (p : FirstPlace). p.key.0) places) m) n h.all (λ g t. absurd (false≢true (sym none ∙ t)));
  }

  each_behind : (ps : List FirstPlace) (p : FirstPlace) → AllByRecursion IsFirst ps → IsFirst p → AllByRecursion IsFirst (ps ++ p ∷ [])
  each_behind [] p h f = (f, tt)
  each_behind (q ∷ ps) p h f = (h.0, each_behind ps p h.1 f)

  pub more_below : (n : ℕ) (places : List FirstPlace) (p : FirstPlace) → p.key.0 ≡ n → IsFirst p → ArePlacesBelow n places → ArePlacesBelow (n + 1) (places ++ p ∷ [])
  more_below n places p e f h =
      let keys = map (λ (q : FirstPlace). q.key.0) places in
      let pushed : map (λ (q : FirstPlace). q.key.0) (places ++ p ∷ []) ≡ keys ++ n ∷ [] = map-append (λ (q : FirstPlace). q.key.0) places (p ∷ []) ∙ ap (λ j. keys ++ j ∷ []) e in
      record {
        once = subst (IsDistinct nat_eq) (sym pushed) (IsDistinct-push nat_eq_equiv keys n h.once (none_same n keys h.below));
        below = λ k c. ⊎_elim (λ d. (let l = h.below k d in omega (arith, l))) (λ s. omega (arith, s)) (Contains-push_cases keys n k (subst (λ ks. Contains ks k) pushed c));
        each = each_behind places p h.each f;
        all = below_more (λ m. 0 < m → has_key (key_at names m) cs ≡ true → Contains (map (λ (q : FirstPlace). q.key.0) (places ++ p ∷ [])) m) n
            (λ m l g t. subst (λ ks. Contains ks m) (sym pushed) (Contains-append_left keys (n ∷ []) m (h.all m l g t)))
            (λ g t. subst (λ ks. Contains ks n) (sym pushed) (Contains-push keys n));
      }

  pub all_below : (n : ℕ) (places : List FirstPlace) → suc (length names) ≤ n → ArePlacesBelow n places → AreFirstPlaces modules x names cs places
  all_below n places past h = record {
    once = h.once;
    each = h.each;
    all = λ m g l t. h.all m (omega (arith, l, past)) g t;
  }

-- ---- what the pieces of a key say of its first place

pub first_within : (modules : List NamedModule) (list : List Segment) (k : Key) (row : List code.WrittenComponent) (cs : List Component) (pieces : List Piece) (p : Piece)
    → ArePieces modules list k row cs pieces → slice_get pieces 0 ≡ Some p → p.from < length row
first_within modules list k row cs [] p are e = absurd (none-some p e)
first_within modules list k row cs (q ∷ ps) p are e =
    let piece = subst (IsPiece list row) (same_Some q p e) are.each.0 in
    omega (arith, piece.ordered, piece.within)

pub no_first : (modules : List NamedModule) (list : List Segment) (k : Key) (row : List code.WrittenComponent) (cs : List Component) (pieces : List Piece)
    → ArePieces modules list k row cs pieces → slice_get pieces 0 ≡ None → has_key k cs ≡ false
no_first modules list k row cs [] are e = no_piece modules list k row cs are
no_first modules list k row cs (q ∷ ps) are e = absurd (none-some q (sym e))

pub first_more : (modules : List NamedModule) (x : Segments) (names : List Text) (cs : List Component) (n : ℕ) (row : List code.WrittenComponent) (places : List FirstPlace) (pieces : List Piece) (p : Piece) (w : code.WrittenComponent)
    → 0 < n → n < suc (length names) → IsRowOf modules (key_at names n) row → ArePieces modules x.list.items (key_at names n) row cs pieces → AreLeft modules x (key_at names n) row pieces
    → slice_get pieces 0 ≡ Some p → slice_get row p.from ≡ Some w → ArePlacesBelow modules x names cs n places → ArePlacesBelow modules x names cs (n + 1) (places ++ record { segment = p.segment; number = w.number; key = record { 0 = n } } ∷ [])
first_more modules x names cs n row places [] p w above within is are left e at h = absurd (none-some p e)
first_more modules x names cs n row places (q ∷ ps) p w above within is are left e at h =
    let k = key_at names n in
    let same = same_Some q p e in
    let here = subst (λ r. ArePieces modules x.list.items k row cs (r ∷ ps)) same are in
    let there = subst (λ r. AreLeft modules x k row (r ∷ ps)) same left in
    more_below modules x names cs n places (record { segment = p.segment; number = w.number; key = record { 0 = n } }) refl
    (above, within, is_left modules x k row cs p ps is here there w at, is_least modules x k row cs p ps is here there w at) h
