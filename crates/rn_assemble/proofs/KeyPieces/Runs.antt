-- A run of a row is all that the row has of its segment.
use Rattle.std.proofs.Common.{◌≡◌, ℕ, zero, suc, ◌-◌, ◌<◌, ◌≤◌, ◌==◌, ◌&&◌, nat_lt, not, cond, Bool, true, false, List, [], ◌∷◌, length, get_or, take, drop, filter, Some, refl, sym, ap, ◌∙◌, subst, inl, inr, arith}
use Rattle.std.specs.Prelude.{slice_get, slice_range}
use Rattle.std.specs.Option.{option_map_or}
use Rattle.std.proofs.lemmas.Bool.{cases_lt, and_parts, eqb-true, eq-eqb, false_from_ne_true, le-ltb, lt-ltb, ltb-false, ltb-true, not-true}
use Rattle.std.proofs.lemmas.Option.{slice_get_cases, slice_get-get_or, slice_get_past, slice_get_within, same_Some}
use Rattle.rn_assemble.specs.declared.reading.contents.Contents.{Contents}
use Rattle.rn_assemble.specs.declared.reading.contents.Include.{Include}
use Rattle.rn_assemble.specs.declared.reading.key_rows.WrittenComponent as code
use Rattle.rn_assemble.specs.inside.ContentsOf.{HasOrderedIncludes, IsSegmentOf, segment_begin, segment_end}
use Rattle.rn_assemble.specs.inside.Runs.{IsEndOfRun, IsOrderedRow, Precedes}
use Rattle.rn_assemble.proofs.KeyPieces.RowOrder.{pair_at}
use Rattle.rn_assemble.proofs.KeyPieces.RowParts.{is_within}

-- what a filter keeps, where just the elements of a range pass
module _ {X : Type 0} (p : X → Bool) where
  pub filter_none : (xs : List X) → ((i : ℕ) (x : X) → slice_get xs i ≡ Some x → p x ≡ false) → filter p xs ≡ []
  filter_none [] h = refl
  filter_none (x ∷ xs) h = ap (λ b. cond b (x ∷ filter p xs) (filter p xs)) (h 0 x refl) ∙ filter_none xs (λ i. h (suc i))

  filter_front : (xs : List X) (b : ℕ) → b ≤ length xs → ((i : ℕ) (x : X) → slice_get xs i ≡ Some x → i < b → p x ≡ true) → ((i : ℕ) (x : X) → slice_get xs i ≡ Some x → b ≤ i → p x ≡ false) → filter p xs ≡ take b xs
  filter_front xs zero l h g = filter_none xs (λ i x e. g i x e (omega arith))
  filter_front [] (suc b) l h g = absurd (omega arith)
  filter_front (x ∷ xs) (suc b) l h g =
      ap (λ t. cond t (x ∷ filter p xs) (filter p xs)) (h 0 x refl (omega arith))
      ∙ ap (λ ys. x ∷ ys) (filter_front xs b (omega arith) (λ i y e m. h (suc i) y e (omega arith)) (λ i y e m. g (suc i) y e (omega arith)))

  pub filter_range : (xs : List X) (a b : ℕ) → a ≤ b → b ≤ length xs → ((i : ℕ) (x : X) → slice_get xs i ≡ Some x → i < a → p x ≡ false)
      → ((i : ℕ) (x : X) → slice_get xs i ≡ Some x → a ≤ i → i < b → p x ≡ true) → ((i : ℕ) (x : X) → slice_get xs i ≡ Some x → b ≤ i → p x ≡ false) → filter p xs ≡ slice_range xs a b
  filter_range xs zero b l m f h g =
      let e : b - 0 ≡ b = omega arith in
      filter_front xs b m (λ i x s. h i x s (omega arith)) g ∙ ap (λ n. take n xs) (sym e)
  filter_range [] (suc a) b l m f h g = absurd (omega arith)
  filter_range (x ∷ xs) (suc a) zero l m f h g = absurd (omega arith)
  filter_range (x ∷ xs) (suc a) (suc b) l m f h g =
      let e : suc b - suc a ≡ b - a = omega arith in
      ap (λ t. cond t (x ∷ filter p xs) (filter p xs)) (f 0 x refl (omega arith))
      ∙ filter_range xs a b (omega arith) (omega arith) (λ i y s k. f (suc i) y s (omega arith)) (λ i y s k n. h (suc i) y s (omega arith) (omega arith)) (λ i y s k. g (suc i) y s (omega arith))
      ∙ ap (λ n. take n (drop a xs)) (sym e)

-- the test of a range, as facts
pub within_holds : (m from to : ℕ) (w : code.WrittenComponent) → w.module.0 ≡ m → from ≤ w.number → w.number < to → is_within m from to w ≡ true
within_holds m from to w e l h =
    ap (λ b. b && (not (nat_lt w.number from) && nat_lt w.number to)) (eq-eqb w.module.0 m e)
    ∙ ap (λ b. not b && nat_lt w.number to) (le-ltb w.number from l)
    ∙ lt-ltb w.number to h

pub within_says : (m from to : ℕ) (w : code.WrittenComponent) → is_within m from to w ≡ true → (w.module.0 ≡ m) × (from ≤ w.number) × (w.number < to)
within_says m from to w e =
    let a = and_parts (w.module.0 == m) (not (nat_lt w.number from) && nat_lt w.number to) e in
    let b = and_parts (not (nat_lt w.number from)) (nat_lt w.number to) a.1 in
    (eqb-true w.module.0 m a.0, ltb-false w.number from (not-true (nat_lt w.number from) b.0), ltb-true w.number to b.1)

-- of two components of a module the one behind isn't in a segment before
segment_rises : (c : Contents) (a b n m : ℕ) → HasOrderedIncludes c → IsSegmentOf c a n → IsSegmentOf c b m → a ≤ b → n ≤ m
segment_rises c a b zero m o p q l = omega arith
segment_rises c a b (suc n) m o p q l =
    let is = c.includes.items in
    let never : m < suc n → ⊥ = λ h.
    elim (slice_get_cases is n).1 [
      | inl s ↦
          let d = s.0 in
          let e : slice_get is m ≡ Some (get_or is m d) = slice_get-get_or is m d (omega (arith, h, s.1)) in
          let begin : (get_or is n d).from ≤ a = subst (λ t. option_map_or (λ (i : Include). i.from) t 0 ≤ a) (slice_get-get_or is n d s.1) p.begins in
          let end : b < (get_or is m d).from = subst (λ t. b < option_map_or (λ (i : Include). i.from) t c.count) e (q.ends (omega (arith, h, s.1))) in
          let up = o m n d (omega (arith, h)) s.1 in
          omega (arith, begin, end, up, l)
      | inr s ↦ omega (arith, s.0, p.within)
    ] in
    elim (cases_lt m (suc n)) [ inl h ↦ absurd (never h) | inr h ↦ h ]

pub one_segment : (c : Contents) (a n m : ℕ) → HasOrderedIncludes c → IsSegmentOf c a n → IsSegmentOf c a m → n ≡ m
one_segment c a n m o p q =
    let l = segment_rises c a a n m o p q (omega arith) in
    let h = segment_rises c a a m n o q p (omega arith) in
    omega (arith, l, h)

-- a component of the module is below the end of its segment
pub below_end : (c : Contents) (a n : ℕ) → IsSegmentOf c a n → a < c.count → a < segment_end c n
below_end c a n p l =
    elim (cases_lt n (length c.includes.items)) [
      | inl h ↦ p.ends h
      | inr h ↦ subst (λ t. a < option_map_or (λ (i : Include). i.from) t c.count) (sym (slice_get_past c.includes.items n h)) l
    ]

-- a row whose components precede those behind them, and are those of modules with these contents
pub record IsRowIn (contents : List Contents) (row : List code.WrittenComponent) : Type 0 where
  pub rises : IsOrderedRow row
  pub written : (i : ℕ) (w : code.WrittenComponent) → slice_get row i ≡ Some w → (c : Contents) × (slice_get contents w.module.0 ≡ Some c) × HasOrderedIncludes c × (w.number < c.count)

-- no include-free part of a module has components on both sides of an index
abbrev pub IsParted : List Contents → List code.WrittenComponent → ℕ → Type 0
IsParted contents row n = (i k j : ℕ) (v u : code.WrittenComponent) (c : Contents) → i < n → n ≤ k → slice_get row i ≡ Some v → slice_get row k ≡ Some u → v.module.0 ≡ u.module.0
    → slice_get contents u.module.0 ≡ Some c → IsSegmentOf c v.number j → IsSegmentOf c u.number j → ⊥

-- a run from an index on
module _ (contents : List Contents) (row : List code.WrittenComponent) (f : IsRowIn contents row) (from to j : ℕ) (w : code.WrittenComponent) (c : Contents)
    (at : slice_get row from ≡ Some w) (has : slice_get contents w.module.0 ≡ Some c) (in' : IsSegmentOf c w.number j) (run : IsEndOfRun row from w.module.0 (segment_end c j) to) where
  facts_of : (i : ℕ) (v : code.WrittenComponent) → slice_get row i ≡ Some v → v.module.0 ≡ w.module.0 → HasOrderedIncludes c × (v.number < c.count)
  facts_of i v e m =
      let g = f.written i v e in
      let same : g.0 ≡ c = same_Some g.0 c (sym g.1 ∙ ap (slice_get contents) m ∙ has) in
      (subst HasOrderedIncludes same g.2, subst (λ (d : Contents). v.number < d.count) same g.3)

  pub in_run : (i : ℕ) (v : code.WrittenComponent) → slice_get row i ≡ Some v → from ≤ i → i < to → (v.module.0 ≡ w.module.0) × IsSegmentOf c v.number j × (v.number < segment_end c j)
  in_run i v e l h =
      let here : i ≡ from → v ≡ w = λ s. same_Some v w (sym e ∙ ap (slice_get row) s ∙ at) in
      let first : i ≡ from → (v.module.0 ≡ w.module.0) × IsSegmentOf c v.number j × (v.number < segment_end c j) = λ s.
      let end = below_end c w.number j in' (facts_of from w at refl).1 in
      subst (λ (u : code.WrittenComponent). (u.module.0 ≡ w.module.0) × IsSegmentOf c u.number j × (u.number < segment_end c j)) (sym (here s)) (refl, in', end) in
      let later : from < i → (v.module.0 ≡ w.module.0) × IsSegmentOf c v.number j × (v.number < segment_end c j) = λ s.
      let inside = run.inside i v s h e in
      let up : w.number < v.number =
      elim (pair_at Precedes row from i w v f.rises s at e) [ inl m ↦ absurd (omega (arith, m, inside.0)) | inr m ↦ m.1 ] in
      (inside.0, record { within = in'.within; begins = omega (arith, up, in'.begins); ends = λ _. inside.1 }, inside.1) in
      elim (cases_lt from i) [ inl s ↦ later s | inr s ↦ first (omega (arith, s, l)) ]

  pub behind_run : (k : ℕ) (v : code.WrittenComponent) → slice_get row k ≡ Some v → to ≤ k → v.module.0 ≡ w.module.0 → segment_end c j ≤ v.number
  behind_run k v e l m =
      let next : k ≡ to → segment_end c j ≤ v.number = λ s. run.behind v (ap (slice_get row) (sym s) ∙ e) m in
      let later : to < k → segment_end c j ≤ v.number = λ s.
      let u = get_or row to v in
      let at-u : slice_get row to ≡ Some u = slice_get-get_or row to v (omega (arith, s, slice_get_within row k v e)) in
      let above : w.module.0 ≤ u.module.0 =
      elim (pair_at Precedes row from to w u f.rises run.further at at-u) [ inl h ↦ omega (arith, h) | inr h ↦ omega (arith, h.0) ] in
      elim (pair_at Precedes row to k u v f.rises s at-u e) [
        | inl h ↦ absurd (omega (arith, h, m, above))
        | inr h ↦ let end = run.behind u at-u (h.0 ∙ m) in omega (arith, end, h.1)
      ] in
      elim (cases_lt to k) [ inl s ↦ later s | inr s ↦ next (omega (arith, s, l)) ]

  -- the row is parted behind the run too
  pub parted_more : IsParted contents row from → IsParted contents row to
  parted_more p i k n v u d l h e g m cd a b =
      let later : from ≤ i → ⊥ = λ s.
      let r = in_run i v e s l in
      let um : u.module.0 ≡ w.module.0 = sym m ∙ r.0 in
      let same : d ≡ c = same_Some d c (sym cd ∙ ap (slice_get contents) um ∙ has) in
      let fact = facts_of k u g um in
      let number : n ≡ j = one_segment c v.number n j fact.0 (subst (λ (x : Contents). IsSegmentOf x v.number n) same a) r.1 in
      let ub : IsSegmentOf c u.number j = subst (λ t. IsSegmentOf c u.number t) number (subst (λ (x : Contents). IsSegmentOf x u.number n) same b) in
      let below = below_end c u.number j ub fact.1 in
      let above = behind_run k u g h um in
      omega (arith, below, above) in
      elim (cases_lt i from) [ inl s ↦ p i k n v u d s (omega (arith, h, run.further)) e g m cd a b | inr s ↦ later s ]

  -- the run is what the row has of the segment
  pub run_is : IsParted contents row from → filter (is_within w.module.0 (segment_begin c.includes.items j) (segment_end c j)) row ≡ slice_range row from to
  run_is p =
      let b = segment_begin c.includes.items j in
      let e = segment_end c j in
      let test = is_within w.module.0 b e in
      let before : (i : ℕ) (v : code.WrittenComponent) → slice_get row i ≡ Some v → i < from → test v ≡ false = λ i v s l. false_from_ne_true (test v) (λ t.
      let h = within_says w.module.0 b e v t in
      p i from j v w c l (omega arith) s at h.0 has (record { within = in'.within; begins = h.1; ends = λ _. h.2 }) in') in
      let inside : (i : ℕ) (v : code.WrittenComponent) → slice_get row i ≡ Some v → from ≤ i → i < to → test v ≡ true = λ i v s l h.
      let r = in_run i v s l h in
      within_holds w.module.0 b e v r.0 r.1.begins r.2 in
      let behind : (i : ℕ) (v : code.WrittenComponent) → slice_get row i ≡ Some v → to ≤ i → test v ≡ false = λ i v s l. false_from_ne_true (test v) (λ t.
      let h = within_says w.module.0 b e v t in
      let above = behind_run i v s l h.0 in
      omega (arith, above, h.2)) in
      filter_range test row from to (omega (arith, run.further)) run.within before inside behind
