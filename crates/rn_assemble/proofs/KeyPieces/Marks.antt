-- Pieces are marked where an include that brought their segments in overrides the key.
use Rattle.std.proofs.Common.{◌≡◌, ℕ, zero, suc, ◌+◌, ◌-◌, ◌<◌, ◌≤◌, ◌&&◌, ◌||◌, nat_lt, not, cond, Bool, true, false, List, [], ◌∷◌, ◌++◌, length, get_or, map, take, drop, Some, refl, sym, ap, ◌∙◌, subst, inl, inr, arith}
use Rattle.std.specs.Prelude.{slice_get, Contains}
use Rattle.std.specs.List.{AllByRecursion}
use Rattle.std.specs.List.Sorted.{IsStrictlyIncreasing}
use Rattle.std.proofs.lemmas.Bool.{and_parts, and_right, cases_Bool, false_from_ne_true, le-ltb, lt-ltb, ltb-false, ltb-true, not-true, or_from}
use Rattle.std.proofs.lemmas.List.{take_more}
use Rattle.std.proofs.lemmas.List.Elements.{Contains-push_cases}
use Rattle.std.proofs.lemmas.List.Folds.{list_any-append}
use Rattle.std.proofs.lemmas.Simd.{map-map}
use Rattle.rn_pattern.proofs.Ordered.InOrder.{contains_behind, contains_front}
use borrow.Rule.Slice.PartMut.{mid_of, put_mid}
use Rattle.rn_assemble.specs.declared.reading.key_rows.WrittenComponent as code
use Rattle.rn_assemble.specs.declared.including.pieces.Piece.{Piece}
use Rattle.rn_assemble.specs.declared.including.segments.FollowedInclude.{FollowedInclude}
use Rattle.rn_assemble.specs.inside.Pieces.{overrides_in}
use Rattle.rn_assemble.specs.inside.Runs.{ArePiecesIn, is_overridden_in, marked, marked_in}

-- a part of a list under a function, where just the elements of the part pass a test
module _ {X : Type 0} (h : X → X) (c : X → Bool) where
  abbrev here : X → X
  here x = cond (c x) (h x) x

  none_here : (xs : List X) → ((i : ℕ) (x : X) → slice_get xs i ≡ Some x → c x ≡ false) → xs ≡ map here xs
  none_here [] f = refl
  none_here (x ∷ xs) f =
      let first : x ≡ here x = sym (ap (λ b. cond b (h x) x) (f 0 x refl)) in
      let rest = none_here xs (λ i. f (suc i)) in
      λ i. first i ∷ rest i

  front_here : (n : ℕ) (xs : List X) → n ≤ length xs → ((i : ℕ) (x : X) → slice_get xs i ≡ Some x → i < n → c x ≡ true) → ((i : ℕ) (x : X) → slice_get xs i ≡ Some x → n ≤ i → c x ≡ false) → map h (take n xs) ++ drop n xs ≡ map here xs
  front_here zero xs l g f = none_here xs (λ i x e. f i x e (omega arith))
  front_here (suc n) [] l g f = absurd (omega arith)
  front_here (suc n) (x ∷ xs) l g f =
      let first : h x ≡ here x = sym (ap (λ b. cond b (h x) x) (g 0 x refl (omega arith))) in
      let rest = front_here n xs (omega arith) (λ i y e m. g (suc i) y e (omega arith)) (λ i y e m. f (suc i) y e (omega arith)) in
      λ i. first i ∷ rest i

  part_here : (a k : ℕ) (xs : List X) → a + k ≤ length xs → ((i : ℕ) (x : X) → slice_get xs i ≡ Some x → i < a → c x ≡ false) → ((i : ℕ) (x : X) → slice_get xs i ≡ Some x → a ≤ i → i < a + k → c x ≡ true)
      → ((i : ℕ) (x : X) → slice_get xs i ≡ Some x → a + k ≤ i → c x ≡ false) → put_mid a k xs (map h (mid_of a k xs)) ≡ map here xs
  part_here zero k xs l f g e = front_here k xs (omega arith) (λ i x s m. g i x s (omega arith) (omega arith)) (λ i x s m. e i x s (omega arith))
  part_here (suc a) k [] l f g e = absurd (omega arith)
  part_here (suc a) k (x ∷ xs) l f g e =
      let first : x ≡ here x = sym (ap (λ b. cond b (h x) x) (f 0 x refl (omega arith))) in
      let rest = part_here a k xs (omega arith) (λ i y s m. f (suc i) y s (omega arith)) (λ i y s m n. g (suc i) y s (omega arith) (omega arith)) (λ i y s m. e (suc i) y s (omega arith)) in
      λ i. first i ∷ rest i

map_agree : {X Y : Type 0} (f g : X → Y) → ((x : X) → f x ≡ g x) → (xs : List X) → map f xs ≡ map g xs
map_agree f g e [] = refl
map_agree f g e (x ∷ xs) = let first = e x in let rest = map_agree f g e xs in λ i. first i ∷ rest i

-- whether the include brought the piece's segment in
abbrev brings : FollowedInclude → Piece → Bool
brings b p = not (nat_lt p.segment b.from) && nat_lt p.segment b.to

brings_from : (b : FollowedInclude) (p : Piece) → b.from ≤ p.segment → p.segment < b.to → brings b p ≡ true
brings_from b p l h = ap (λ t. not t && nat_lt p.segment b.to) (le-ltb p.segment b.from l) ∙ lt-ltb p.segment b.to h

brings_says : (b : FollowedInclude) (p : Piece) → brings b p ≡ true → (b.from ≤ p.segment) × (p.segment < b.to)
brings_says b p e =
    let h = and_parts (not (nat_lt p.segment b.from)) (nat_lt p.segment b.to) e in
    (ltb-false p.segment b.from (not-true (nat_lt p.segment b.from) h.0), ltb-true p.segment b.to h.1)

-- an include more, that overrides the key or doesn't
marked_by : (row : List code.WrittenComponent) (bs : List FollowedInclude) (b : FollowedInclude) (p : Piece) (t o : Bool) → brings b p ≡ t → overrides_in row b ≡ o → is_overridden_in row (bs ++ b ∷ []) p.segment ≡ (is_overridden_in row bs p.segment || ((t && o) || false))
marked_by row bs b p t o e f =
    list_any-append (λ (d : FollowedInclude). (not (nat_lt p.segment d.from) && nat_lt p.segment d.to) && overrides_in row d) bs (b ∷ [])
    ∙ ap (λ u. is_overridden_in row bs p.segment || ((u && overrides_in row b) || false)) e
    ∙ ap (λ u. is_overridden_in row bs p.segment || ((t && u) || false)) f

or_last : (a : Bool) → (a || false) ≡ a
or_last true = refl
or_last false = refl

or_true : (a : Bool) → (a || true) ≡ true
or_true true = refl
or_true false = refl

and_last : (a : Bool) → (a && false) ≡ false
and_last true = refl
and_last false = refl

with_mark : Piece → Bool → Piece
with_mark p m = record { segment = p.segment; from = p.from; to = p.to; is_overridden = m }

mark_here : (row : List code.WrittenComponent) (bs : List FollowedInclude) (b : FollowedInclude) → overrides_in row b ≡ true → (p : Piece) → cond (brings b (marked_in row bs p)) (marked (marked_in row bs p)) (marked_in row bs p) ≡ marked_in row (bs ++ b ∷ []) p
unfolding with_mark
mark_here row bs b o p =
    let before = is_overridden_in row bs p.segment in
    let yes : brings b p ≡ true → cond (brings b (marked_in row bs p)) (marked (marked_in row bs p)) (marked_in row bs p) ≡ marked_in row (bs ++ b ∷ []) p = λ t.
    ap (λ u. cond u (marked (marked_in row bs p)) (marked_in row bs p)) t ∙ sym (ap (with_mark p) (marked_by row bs b p true true t o ∙ or_true before)) in
    let no : brings b p ≡ false → cond (brings b (marked_in row bs p)) (marked (marked_in row bs p)) (marked_in row bs p) ≡ marked_in row (bs ++ b ∷ []) p = λ t.
    ap (λ u. cond u (marked (marked_in row bs p)) (marked_in row bs p)) t ∙ sym (ap (with_mark p) (marked_by row bs b p false true t o ∙ or_last before)) in
    elim (cases_Bool (brings b p)) [ inl t ↦ yes t | inr t ↦ no t ]

-- where the include overrides the key, the pieces that it brought in are marked
pub marks_more : (row : List code.WrittenComponent) (bs : List FollowedInclude) (b : FollowedInclude) (ps xs : List Piece) (from to : ℕ) → xs ≡ map (marked_in row bs) ps → overrides_in row b ≡ true → ArePiecesIn xs b from to
    → put_mid from (to - from) xs (map marked (mid_of from (to - from) xs)) ≡ map (marked_in row (bs ++ b ∷ [])) ps
marks_more row bs b ps xs from to e o a =
    let end : from + (to - from) ≡ to = omega (arith, a.ordered) in
    let before : (i : ℕ) (p : Piece) → slice_get xs i ≡ Some p → i < from → brings b p ≡ false = λ i p s l. false_from_ne_true (brings b p) (λ t. let r = (a.are i p s).1 (brings_says b p t) in omega (arith, r.0, l)) in
    let inside : (i : ℕ) (p : Piece) → slice_get xs i ≡ Some p → from ≤ i → i < from + (to - from) → brings b p ≡ true = λ i p s l m. let r = (a.are i p s).0 (l, omega (arith, m, end)) in brings_from b p r.0 r.1 in
    let behind : (i : ℕ) (p : Piece) → slice_get xs i ≡ Some p → from + (to - from) ≤ i → brings b p ≡ false = λ i p s l. false_from_ne_true (brings b p) (λ t. let r = (a.are i p s).1 (brings_says b p t) in omega (arith, r.1, l, end)) in
    part_here marked (brings b) from (to - from) xs (omega (arith, end, a.within)) before inside behind
    ∙ ap (map (λ (p : Piece). cond (brings b p) (marked p) p)) e
    ∙ map-map (λ (p : Piece). cond (brings b p) (marked p) p) (marked_in row bs) ps
    ∙ map_agree (λ (p : Piece). cond (brings b (marked_in row bs p)) (marked (marked_in row bs p)) (marked_in row bs p)) (marked_in row (bs ++ b ∷ [])) (mark_here row bs b o) ps

-- else all stay as they are
pub marks_same : (row : List code.WrittenComponent) (bs : List FollowedInclude) (b : FollowedInclude) (ps : List Piece) → overrides_in row b ≡ false → map (marked_in row bs) ps ≡ map (marked_in row (bs ++ b ∷ [])) ps
unfolding with_mark
marks_same row bs b ps o =
    map_agree (marked_in row bs) (marked_in row (bs ++ b ∷ [])) (λ p.
    let t = brings b p in
    sym (ap (with_mark p) (marked_by row bs b p t false refl o ∙ ap (λ u. is_overridden_in row bs p.segment || (u || false)) (and_last t) ∙ or_last (is_overridden_in row bs p.segment)))) ps

-- ---- over the includes of a list

segments_marked : (row : List code.WrittenComponent) (bs : List FollowedInclude) (ps : List Piece) → map (λ (p : Piece). p.segment) (map (marked_in row bs) ps) ≡ map (λ (p : Piece). p.segment) ps
segments_marked row bs ps = map-map (λ (p : Piece). p.segment) (marked_in row bs) ps

pub marked_rise : (row : List code.WrittenComponent) (bs : List FollowedInclude) (ps xs : List Piece) → xs ≡ map (marked_in row bs) ps → IsStrictlyIncreasing (map (λ (p : Piece). p.segment) ps) → IsStrictlyIncreasing (map (λ (p : Piece). p.segment) xs)
marked_rise row bs ps xs e h = subst IsStrictlyIncreasing (sym (ap (map (λ (p : Piece). p.segment)) e ∙ segments_marked row bs ps)) h

-- where no include overrides the key, no piece is marked
pub none_overridden : (row : List code.WrittenComponent) (bs : List FollowedInclude) → ((b : FollowedInclude) → Contains bs b → overrides_in row b ≡ false) → (n : ℕ) → is_overridden_in row bs n ≡ false
none_overridden row [] h n = refl
none_overridden row (b ∷ bs) h n =
    or_from ((not (nat_lt n b.from) && nat_lt n b.to) && overrides_in row b) (is_overridden_in row bs n)
    (and_right (not (nat_lt n b.from) && nat_lt n b.to) (overrides_in row b) (h b (contains_front b bs)))
    (none_overridden row bs (λ d c. h d (contains_behind b d bs c)) n)

pub none_marked : (row : List code.WrittenComponent) (bs : List FollowedInclude) (ps : List Piece) → AllByRecursion (λ (p : Piece). p.is_overridden ≡ false) ps → ((b : FollowedInclude) → Contains bs b → overrides_in row b ≡ false) → ps ≡ map (marked_in row bs) ps
unfolding with_mark
none_marked row bs [] u h = refl
none_marked row bs (p ∷ ps) u h =
    let first : p ≡ marked_in row bs p = ap (with_mark p) (u.0 ∙ sym (none_overridden row bs h p.segment)) in
    let rest = none_marked row bs ps u.1 h in
    λ i. first i ∷ rest i

module _ (row : List code.WrittenComponent) (bs : List FollowedInclude) (i : ℕ) (d : FollowedInclude) (l : i < length bs) where
  pub step_marked : (ps xs ys ms : List Piece) (from to : ℕ) → xs ≡ map (marked_in row (take i bs)) ps → overrides_in row (get_or bs i d) ≡ true → ArePiecesIn xs (get_or bs i d) from to
      → ms ≡ map marked (mid_of from (to - from) xs) → ys ≡ put_mid from (to - from) xs ms → ys ≡ map (marked_in row (take (i + 1) bs)) ps
  step_marked ps xs ys ms from to e o a m y =
      y ∙ ap (put_mid from (to - from) xs) m ∙ marks_more row (take i bs) (get_or bs i d) ps xs from to e o a
      ∙ ap (λ cs. map (marked_in row cs) ps) (sym (take_more bs i d l))

  pub step_same : (ps xs : List Piece) → xs ≡ map (marked_in row (take i bs)) ps → overrides_in row (get_or bs i d) ≡ false → xs ≡ map (marked_in row (take (i + 1) bs)) ps
  step_same ps xs e o = e ∙ marks_same row (take i bs) (get_or bs i d) ps o ∙ ap (λ cs. map (marked_in row cs) ps) (sym (take_more bs i d l))

  pub step_none : ((b : FollowedInclude) → Contains (take i bs) b → overrides_in row b ≡ false) → overrides_in row (get_or bs i d) ≡ false → (b : FollowedInclude) → Contains (take (i + 1) bs) b → overrides_in row b ≡ false
  step_none h o b c =
      let c' : Contains (take i bs ++ get_or bs i d ∷ []) b = subst (λ cs. Contains cs b) (take_more bs i d l) c in
      elim (Contains-push_cases (take i bs) (get_or bs i d) b c') [ inl k ↦ h b k | inr e ↦ ap (overrides_in row) (sym e) ∙ o ]
