-- The components that are left in the segments of a set, each with the place of its segment and its number.
use Rattle.std.proofs.Common.{◌≡◌, ℕ, zero, suc, ◌+◌, ◌-◌, ◌<◌, ◌≤◌, inl, ⊎_elim, Bool, true, false, not, cond, List, [], ◌∷◌, ◌++◌, length, map, filter, Some, refl, sym, ap, ◌∙◌, subst, arith, Contains, slice_get, slice_range}
use Rattle.std.specs.List.{All, AllPairs}
use Rattle.std.proofs.lemmas.List.{map-append}
use Rattle.std.proofs.lemmas.List.Elements.{All-append, All-filter, All-from_recursion, All-nil, All-weaker, Contains-append_left, Contains-append_right, Contains-append_cases, recursion_from_All}
use Rattle.std.proofs.lemmas.List.Kept.{AllPairs-filter}
use Rattle.std.specs.Rc.{rc_str_bytes}
use Rattle.std.proofs.lemmas.Option.{none-some, same_Some}
use Rattle.rn_text.specs.Texts.{Text}
use Rattle.rn_syntax.specs.Tree.{Declaration}
use Rattle.rn_assemble.specs.Components.{Component, Key, NamedModule}
use Rattle.rn_assemble.specs.declared.including.segments.FollowedInclude.{FollowedInclude}
use Rattle.rn_assemble.specs.declared.including.segments.Segment.{Segment}
use Rattle.rn_assemble.specs.declared.including.segments.Segments.{Segments}
use Rattle.rn_assemble.specs.inside.Contained.{WrittenComponent}
use Rattle.rn_assemble.specs.inside.ContentsOf.{declarations_at, resolved_component, written_at}
use Rattle.rn_assemble.specs.inside.FirstPlaces.{IsLeftAt}
use Rattle.rn_assemble.specs.inside.Rows.{Placed, placed_from}
use Rattle.rn_assemble.specs.inside.Segments.{is_overridden, left_from, segment_components}
use Rattle.rn_assemble.proofs.KeyPieces.RowOrder.{IsBefore, from_of, from_pairs, pairs_append, pairs_nil}
use Rattle.rn_assemble.proofs.Naming.KeptMembers.{kept_contained, kept_passes, kept_there, range_get, range_within}
use Rattle.rn_assemble.proofs.Naming.PlacedComponents.{placed, placed_is, placed_there}

abbrev pub key_of : Placed → Key
key_of p = p.component.key

-- keys that a test keeps are the same before names are resolved, and after
kept_alike_at : (b : Bool) (p : Placed) (c : Component) (ps : List Placed) (cs : List Component) → key_of p ≡ c.key → map key_of ps ≡ map (λ (d : Component). d.key) cs → map key_of (cond b (p ∷ ps) ps) ≡ map (λ (d : Component). d.key) (cond b (c ∷ cs) cs)
kept_alike_at true p c ps cs e h = λ i. e i ∷ h i
kept_alike_at false p c ps cs e h = h

kept_alike : (inherited : Text) (ds : List Declaration) (t : Key → Bool) (n m : ℕ) (ws : List WrittenComponent)
    → map key_of (filter (λ (p : Placed). t p.component.key) (placed_from n m ws)) ≡ map (λ (d : Component). d.key) (filter (λ (d : Component). t d.key) (map (resolved_component inherited ds) ws))
kept_alike inherited ds t n m [] = refl
kept_alike inherited ds t n m (w ∷ ws) =
    kept_alike_at (t w.key) (placed n m w) (resolved_component inherited ds w) (filter (λ (p : Placed). t p.component.key) (placed_from n (suc m) ws)) (filter (λ (d : Component). t d.key) (map (resolved_component inherited ds) ws)) refl (kept_alike inherited ds t n (suc m) ws)

not_true : (b : Bool) → not b ≡ true → b ≡ false
not_true true e = let wrong : false ≡ true = e in cc
not_true false e = refl

module _ (modules : List NamedModule) (followed : List FollowedInclude) where
  abbrev in_segment : ℕ → Segment → List Placed
  in_segment n s = placed_from n s.from (slice_range (written_at modules s.module.0) s.from s.to)

  abbrev is_left : ℕ → Placed → Bool
  is_left n p = not (is_overridden modules followed p.component.key n)

  -- those of the segments, of which the first one has the place n
  abbrev pub left_placed : ℕ → List Segment → List Placed
  left_placed n [] = []
  left_placed n (s ∷ ss) = filter (is_left n) (in_segment n s) ++ left_placed (suc n) ss

  pub same_keys : (n : ℕ) (ss : List Segment) → map key_of (left_placed n ss) ≡ map (λ (d : Component). d.key) (left_from modules followed n ss)
  same_keys n [] = refl
  same_keys n (s ∷ ss) =
      let here = kept_alike (rc_str_bytes s.context.inherited.now) (declarations_at modules s.module.0) (λ k. not (is_overridden modules followed k n)) n s.from (slice_range (written_at modules s.module.0) s.from s.to) in
      map-append key_of (filter (is_left n) (in_segment n s)) (left_placed (suc n) ss) ∙ (λ i. here i ++ same_keys (suc n) ss i)
      ∙ sym (map-append (λ (d : Component). d.key) (filter (λ (d : Component). not (is_overridden modules followed d.key n)) (segment_components modules s)) (left_from modules followed (suc n) ss))

  -- ---- in order

  of_place : (n : ℕ) (s : Segment) → All (λ (p : Placed). p.module_at ≡ n) (filter (is_left n) (in_segment n s))
  of_place n s =
      let ws = slice_range (written_at modules s.module.0) s.from s.to in
      let P = λ (p : Placed). (p.module_at ≡ n) × (s.from ≤ p.number) × (p.number < s.from + length ws) in
      let Q = λ (p : Placed). p.module_at ≡ n in
      All-filter (is_left n) Q (in_segment n s) (All-weaker P Q (λ p h. h.0) (in_segment n s) (All-from_recursion P (in_segment n s) (from_of n s.from ws)))

  all_behind : (n : ℕ) (ss : List Segment) → All (λ (p : Placed). n ≤ p.module_at) (left_placed n ss)
  all_behind n [] = All-nil (λ (p : Placed). n ≤ p.module_at)
  all_behind n (s ∷ ss) =
      let P = λ (p : Placed). n ≤ p.module_at in
      let Q = λ (p : Placed). suc n ≤ p.module_at in
      All-append P (filter (is_left n) (in_segment n s)) (left_placed (suc n) ss)
      (All-weaker (λ (p : Placed). p.module_at ≡ n) P (λ p h. omega (arith, h)) (filter (is_left n) (in_segment n s)) (of_place n s))
      (All-weaker Q P (λ p h. omega (arith, h)) (left_placed (suc n) ss) (all_behind (suc n) ss))

  pub left_rises : (n : ℕ) (ss : List Segment) → AllPairs IsBefore (left_placed n ss)
  left_rises n [] = pairs_nil IsBefore
  left_rises n (s ∷ ss) =
      let here = filter (is_left n) (in_segment n s) in
      let Q = λ (p : Placed). suc n ≤ p.module_at in
      let R = λ (p : Placed). All (IsBefore p) (left_placed (suc n) ss) in
      pairs_append IsBefore here (left_placed (suc n) ss)
      (AllPairs-filter IsBefore (is_left n) (in_segment n s) (from_pairs n s.from (slice_range (written_at modules s.module.0) s.from s.to)))
      (left_rises (suc n) ss)
      (recursion_from_All R here (All-weaker (λ (p : Placed). p.module_at ≡ n) R (λ p h. All-weaker Q (IsBefore p) (λ q g. inl (omega (arith, h, g))) (left_placed (suc n) ss) (all_behind (suc n) ss)) here (of_place n s)))

  -- ---- where they are

  -- the component is left in the segment
  record IsLeftIn (s : Segment) (m q : ℕ) (w : WrittenComponent) : Type 0 where
    after : s.from ≤ q
    before : q < s.to
    written : slice_get (written_at modules s.module.0) q ≡ Some w
    left : is_overridden modules followed w.key m ≡ false

  segment_is : (n : ℕ) (s : Segment) (p : Placed) → Contains (filter (is_left n) (in_segment n s)) p → (p.module_at ≡ n) × IsLeftIn s p.module_at p.number p.component
  segment_is n s p c =
      let ws = written_at modules s.module.0 in
      let (same, j, number, e) = placed_is n s.from (slice_range ws s.from s.to) p (kept_contained (is_left n) (in_segment n s) p c) in
      let l = range_within ws s.from s.to j p.component e in
      let left = not_true (is_overridden modules followed p.component.key n) (kept_passes (is_left n) (in_segment n s) p c) in (
        same,
        record {
          after = omega (arith, number);
          before = omega (arith, number, l);
          written = subst (λ i. slice_get ws i ≡ Some p.component) (sym number) (sym (range_get ws s.from s.to j l) ∙ e);
          left = subst (λ m. is_overridden modules followed p.component.key m ≡ false) (sym same) left;
        },
      )

  segment_there : (n : ℕ) (s : Segment) (q : ℕ) (w : WrittenComponent) → IsLeftIn s n q w → Contains (filter (is_left n) (in_segment n s)) (placed n q w)
  segment_there n s q w h =
      let ws = written_at modules s.module.0 in
      let j = q - s.from in
      let at : q ≡ s.from + j = omega (arith, h.after) in
      let l : s.from + j < s.to = omega (arith, at, h.before) in
      let e : slice_get (slice_range ws s.from s.to) j ≡ Some w = range_get ws s.from s.to j l ∙ subst (λ i. slice_get ws i ≡ Some w) at h.written in
      kept_there (is_left n) (in_segment n s) (placed n q w) (placed_there n s.from (slice_range ws s.from s.to) j q w at e) (ap not h.left)

  left_is : (n : ℕ) (ss : List Segment) (p : Placed) → Contains (left_placed n ss) p → (i : ℕ) × (s : Segment) × (p.module_at ≡ n + i) × (slice_get ss i ≡ Some s) × IsLeftIn s p.module_at p.number p.component
  left_is n [] p c = absurd (omega (arith, c.1))
  left_is n (s ∷ ss) p c = ⊎_elim
      (λ k. let r = segment_is n s p k in (0, s, omega (arith, r.0), refl, r.1))
      (λ k. let r = left_is (suc n) ss p k in (suc r.0, r.1, omega (arith, r.2), r.3, r.4))
      (Contains-append_cases (filter (is_left n) (in_segment n s)) (left_placed (suc n) ss) p c)

  left_front : (n m : ℕ) (r s : Segment) (ss : List Segment) (q : ℕ) (w : WrittenComponent) → m ≡ n → r ≡ s → IsLeftIn s m q w → Contains (left_placed n (r ∷ ss)) (placed m q w)
  left_front n m r s ss q w same is h =
      let here = segment_there n r q w (subst (λ (t : Segment). IsLeftIn t n q w) (sym is) (subst (λ a. IsLeftIn s a q w) same h)) in
      subst (λ a. Contains (left_placed n (r ∷ ss)) (placed a q w)) (sym same) (Contains-append_left (filter (is_left n) (in_segment n r)) (left_placed (suc n) ss) (placed n q w) here)

  left_behind : (n m : ℕ) (r : Segment) (ss : List Segment) (q : ℕ) (w : WrittenComponent) → Contains (left_placed (suc n) ss) (placed m q w) → Contains (left_placed n (r ∷ ss)) (placed m q w)
  left_behind n m r ss q w c = Contains-append_right (filter (is_left n) (in_segment n r)) (left_placed (suc n) ss) (placed m q w) c

  left_there : (ss : List Segment) (n i m : ℕ) (s : Segment) (q : ℕ) (w : WrittenComponent) → m ≡ n + i → slice_get ss i ≡ Some s → IsLeftIn s m q w → Contains (left_placed n ss) (placed m q w)
  left_there [] n i m s q w at e h = absurd (none-some s e)
  left_there (r ∷ ss) n zero m s q w at e h = left_front n m r s ss q w (omega (arith, at)) (same_Some r s e) h
  left_there (r ∷ ss) n (suc i) m s q w at e h = left_behind n m r ss q w (left_there ss (suc n) i m s q w (omega (arith, at)) e h)

module _ (modules : List NamedModule) (x : Segments) where
  abbrev pub all_left : List Placed
  all_left = left_placed modules x.brought.items 0 x.list.items

  pub left_at : (p : Placed) → Contains all_left p → IsLeftAt modules x (key_of p) p.module_at p.number
  left_at p c =
      let (i, s, at, e, h) = left_is modules x.brought.items 0 x.list.items p c in
      let same : i ≡ p.module_at = omega (arith, at) in
      record {
        s = s;
        at = subst (λ j. slice_get x.list.items j ≡ Some s) same e;
        after = h.after;
        before = h.before;
        written = (p.component, h.written, refl);
        left = h.left;
      }

  pub at_left : (k : Key) (m q : ℕ) → IsLeftAt modules x k m q → (w : WrittenComponent) × Contains all_left (placed m q w) × (w.key ≡ k)
  at_left k m q h =
      let (w, written, is) = h.written in (
        w,
        left_there modules x.brought.items x.list.items 0 m m h.s q w (omega arith) h.at (record {
          after = h.after;
          before = h.before;
          written = written;
          left = subst (λ j. is_overridden modules x.brought.items j m ≡ false) (sym is) h.left;
        }),
        is,
      )
