-- A segment that is added: the lists of places, and the first of the segments that are alike.
use Rattle.std.proofs.Common.{◌≡◌, ◌⊎◌, inl, inr, ℕ, zero, suc, ◌+◌, ◌-◌, ◌<◌, ◌≤◌, List, [], ◌∷◌, ◌++◌, length, get_or, Option, Some, refl, sym, ap, ◌∙◌, subst, arith, length-append, Contains}
use Rattle.std.specs.Prelude.{slice_get, slice_set, Vec}
use Rattle.std.specs.declared.alloc.Global.{Global}
use Rattle.std.specs.Rc.{rc_str_bytes}
use Rattle.std.specs.List.{AllByRecursion, AllZip}
use Rattle.std.specs.List.Sorted.{IsStrictlyIncreasing}
use Rattle.std.specs.Option.{option_map_or}
use Rattle.rn_assemble.specs.declared.resolving.context.Context.{Context}
use Rattle.std.proofs.lemmas.Bool.{cases_eq, cases_lt}
use Rattle.std.proofs.lemmas.List.{get_or_append_left, get_or-append_right}
use Rattle.std.proofs.lemmas.List.Elements.{Contains-append_left, Contains-get_or, Contains-push, Contains-push_cases}
use Rattle.std.proofs.lemmas.Option.{same_Some, slice_get_within}
use Rattle.std.proofs.lemmas.Slice.Zip.{AllZip-long}
use Rattle.rn_pattern.proofs.Ordered.Ascending.{each_append}
use Rattle.rn_assemble.specs.Components.{NamedModule}
use Rattle.rn_assemble.specs.declared.reading.contents.Contents.{Contents}
use Rattle.rn_assemble.specs.declared.including.segments.Segment.{Segment}
use Rattle.rn_assemble.specs.declared.including.segments.Segments.{Segments}
use Rattle.rn_assemble.specs.declared.reading.named_modules.ModuleId.{ModuleId}
use Rattle.rn_assemble.specs.inside.ContentsOf.{AreContents, IsContents, segment_begin, segment_end}
use Rattle.rn_assemble.specs.inside.Bringing.{CanAdd}
use Rattle.rn_assemble.specs.inside.Placing.{AddsSegment, IsFirstOf, NotesPlace, PushesAt}
use Rattle.rn_assemble.specs.inside.Segments.{AreSegments, HasNumber, HavePlaces, IsFirstLike, IsSegment, places_at, places_in}

-- an element by its place, in a list with one more
module _ {X : Type 0} where
  pub get_front : (xs ys : List X) (n : ℕ) (x : X) → slice_get xs n ≡ Some x → slice_get (xs ++ ys) n ≡ Some x
  get_front [] ys n x e = cc
  get_front (z ∷ xs) ys zero x e = e
  get_front (z ∷ xs) ys (suc n) x e = get_front xs ys n x e

  get_last : (xs : List X) (y : X) → slice_get (xs ++ y ∷ []) (length xs) ≡ Some y
  get_last [] y = refl
  get_last (x ∷ xs) y = get_last xs y

  get_cases : (xs : List X) (y : X) (n : ℕ) (x : X) → slice_get (xs ++ y ∷ []) n ≡ Some x → (slice_get xs n ≡ Some x) ⊎ ((n ≡ length xs) × (x ≡ y))
  get_cases [] y zero x e = inr (refl, sym (same_Some y x e))
  get_cases [] y (suc n) x e = cc
  get_cases (z ∷ xs) y zero x e = inl e
  get_cases (z ∷ xs) y (suc n) x e = elim (get_cases xs y n x e) [ inl h ↦ inl h | inr h ↦ inr (ap suc h.0, h.1) ]

  pub get_set : (xs : List X) (i : ℕ) (x : X) → i < length xs → slice_get (slice_set xs i x) i ≡ Some x
  get_set [] i x l = absurd (omega (arith, l))
  get_set (y ∷ xs) zero x l = refl
  get_set (y ∷ xs) (suc i) x l = get_set xs i x (omega (arith, l))

  pub get_set_other : (xs : List X) (i j : ℕ) (x : X) → ¬ (j ≡ i) → slice_get (slice_set xs i x) j ≡ slice_get xs j
  get_set_other [] i j x ne = refl
  get_set_other (y ∷ xs) zero zero x ne = absurd (ne refl)
  get_set_other (y ∷ xs) zero (suc j) x ne = refl
  get_set_other (y ∷ xs) (suc i) zero x ne = refl
  get_set_other (y ∷ xs) (suc i) (suc j) x ne = get_set_other xs i j x (λ e. ne (ap suc e))

-- what is tied to an element of two lists by its place
pub zip_get : {X Y : Type 0} (R : X → Y → Type 0) (xs : List X) (ys : List Y) → AllZip R xs ys → (i : ℕ) → i < length xs → (x : X) × (y : Y) × (slice_get xs i ≡ Some x) × (slice_get ys i ≡ Some y) × R x y
zip_get R [] ys z i l = absurd (omega (arith, l))
zip_get R (x ∷ xs) [] z i l = absurd z
zip_get R (x ∷ xs) (y ∷ ys) z zero l = (x, y, refl, refl, z.0)
zip_get R (x ∷ xs) (y ∷ ys) z (suc i) l = zip_get R xs ys z.1 i (omega (arith, l))

-- a number above all others behind them
rising_push : (xs : List ℕ) (n : ℕ) → IsStrictlyIncreasing xs → ((k : ℕ) → Contains xs k → k < n) → IsStrictlyIncreasing (xs ++ n ∷ [])
rising_push xs n rise below = λ k l. elim (cases_lt (k + 1) (length xs)) [
  | inl m ↦
      let a = get_or_append_left xs (n ∷ []) 0 k (omega (arith, m)) in
      let b = get_or_append_left xs (n ∷ []) 0 (k + 1) m in
      omega (arith, a, b, rise k m)
  | inr m ↦
      let size = length-append xs (n ∷ []) in
      let a = get_or_append_left xs (n ∷ []) 0 k (omega (arith, l, size)) in
      let zero_is : k + 1 - length xs ≡ 0 = omega (arith, l, size, m) in
      let b = get_or-append_right xs (n ∷ []) (length xs) (k + 1) 0 refl m ∙ ap (λ i. get_or (n ∷ []) i 0) zero_is in
      omega (arith, a, b, below (get_or xs k 0) (Contains-get_or xs k 0 (omega (arith, l, size))))
]

-- a place that is noted in the list of a number
module _ (old : List (Vec (Vec ℕ Global) Global)) (m j place : ℕ) where
  in_row : (rows : List (Vec (Vec ℕ Global) Global)) (a b : ℕ) (v : Vec (Vec ℕ Global) Global) → slice_get rows a ≡ Some v → places_at rows a b ≡ places_in v.items b
  in_row rows a b v e = ap (λ (o : Option (Vec (Vec ℕ Global) Global)). option_map_or (λ (numbers : Vec (Vec ℕ Global) Global). places_in numbers.items b) o []) e

  sizes_set : (contents : List Contents) (rows : List (Vec (Vec ℕ Global) Global)) (i : ℕ) (v w : Vec (Vec ℕ Global) Global) → slice_get rows i ≡ Some v → length w.items ≡ length v.items → HavePlaces contents rows → HavePlaces contents (slice_set rows i w)
  sizes_set contents [] i v w e s h = cc
  sizes_set [] (r ∷ rows) i v w e s h = absurd h
  sizes_set (c ∷ contents) (r ∷ rows) zero v w e s h = (s ∙ ap (λ (x : Vec (Vec ℕ Global) Global). length x.items) (sym (same_Some r v e)) ∙ h.0, h.1)
  sizes_set (c ∷ contents) (r ∷ rows) (suc i) v w e s h = (h.0, sizes_set contents rows i v w e s h.1)

  pub noted_set : (v w : Vec (Vec ℕ Global) Global) → slice_get old m ≡ Some v → PushesAt v.items w.items j place → NotesPlace old (slice_set old m w) m j place
  noted_set v w e h =
      let new = slice_set old m w in
      let at : slice_get new m ≡ Some w = get_set old m w (slice_get_within old m v e) in
      record {
        sizes = λ contents k. sizes_set contents old m v w e h.size k;
        pushed = λ numbers k l.
            let same : numbers ≡ v = same_Some numbers v (sym k ∙ e) in
            in_row new m j w at ∙ h.pushed (subst (λ (x : Vec (Vec ℕ Global) Global). j < length x.items) same l) ∙ ap (λ l. l ++ place ∷ []) (sym (in_row old m j v e));
        others = λ a b ne. elim (cases_eq a m) [
          | inl s ↦
              ap (λ i. places_at new i b) s ∙ in_row new m b w at ∙ h.others b (λ f. ne (s, f)) ∙ sym (ap (λ i. places_at old i b) s ∙ in_row old m b v e)
          | inr d ↦ ap (λ (o : Option (Vec (Vec ℕ Global) Global)). option_map_or (λ (numbers : Vec (Vec ℕ Global) Global). places_in numbers.items b) o []) (get_set_other old m a w d)
        ];
      }

  pub noted_none : length old ≤ m → NotesPlace old old m j place
  noted_none l = record {
    sizes = λ contents k. k;
    pushed = λ numbers e k. absurd (omega (arith, l, slice_get_within old m numbers e));
    others = λ a b ne. refl;
  }

-- a segment s of the module m that is added, as the one of number j
module _ (modules : List NamedModule) (x y : Segments) (m j : ℕ) (s : Segment) (are : AreSegments modules x) (contents_is : y.contents.now ≡ x.contents.now) (list_is : y.list.items ≡ x.list.items ++ s ∷ [])
    (noted : NotesPlace x.places.items y.places.items m j (length x.list.items)) (is : IsSegment modules x.contents.now s) (has : HasNumber x.contents.now m j s)
    (numbers_within : (c : Contents) → slice_get x.contents.now m ≡ Some c → j ≤ length c.includes.items)
    (first : (s.first ≡ length x.list.items) ⊎ IsFirstOf x m j (rc_str_bytes s.context.inherited.now) s.first) where
  abbrev xs : List Segment
  xs = x.list.items

  abbrev grown : List Segment
  grown = xs ++ s ∷ []

  abbrev old_at : ℕ → ℕ → List ℕ
  old_at a b = places_at x.places.items a b

  abbrev new_at : ℕ → ℕ → List ℕ
  new_at a b = places_at y.places.items a b

  module_there : m < length modules
  module_there = subst (λ i. i < length modules) has.module_is is.module_within

  pushed : new_at m j ≡ old_at m j ++ length xs ∷ []
  pushed =
      let c = zip_get (IsContents modules) modules x.contents.now are.contents m module_there in
      let r = zip_get (λ (d : Contents) (numbers : Vec (Vec ℕ Global) Global). length numbers.items ≡ suc (length d.includes.items)) x.contents.now x.places.items are.sizes m (omega (arith, module_there, AllZip-long (IsContents modules) modules x.contents.now are.contents)) in
      noted.pushed r.1 r.3 (omega (arith, r.4, numbers_within r.0 r.2))

  which : (a b : ℕ) → ((a ≡ m) × (b ≡ j)) ⊎ ¬ ((a ≡ m) × (b ≡ j))
  which a b = elim (cases_eq a m) [
    | inl e ↦ elim (cases_eq b j) [ inl f ↦ inl (e, f) | inr d ↦ inr (λ h. d h.1) ]
    | inr d ↦ inr (λ h. d h.0)
  ]

  pushed_at : (a b : ℕ) → a ≡ m → b ≡ j → new_at a b ≡ old_at a b ++ length xs ∷ []
  pushed_at a b e f = (λ i. new_at (e i) (f i)) ∙ pushed ∙ sym (λ i. old_at (e i) (f i) ++ length xs ∷ [])

  still_placed : (a b n : ℕ) → Contains (old_at a b) n → Contains (new_at a b) n
  still_placed a b n c = elim (which a b) [
    | inl h ↦ subst (λ (l : List ℕ). Contains l n) (sym (pushed_at a b h.0 h.1)) (Contains-append_left (old_at a b) (length xs ∷ []) n c)
    | inr h ↦ subst (λ (l : List ℕ). Contains l n) (sym (noted.others a b h)) c
  ]

  placed_cases : (a b n : ℕ) → Contains (new_at a b) n → Contains (old_at a b) n ⊎ ((a ≡ m) × (b ≡ j) × (n ≡ length xs))
  placed_cases a b n c = elim (which a b) [
    | inl h ↦ elim (Contains-push_cases (old_at a b) (length xs) n (subst (λ (l : List ℕ). Contains l n) (pushed_at a b h.0 h.1) c)) [ inl d ↦ inl d | inr e ↦ inr (h.0, h.1, sym e) ]
    | inr h ↦ inl (subst (λ (l : List ℕ). Contains l n) (noted.others a b h) c)
  ]

  below : (a b n : ℕ) → Contains (old_at a b) n → n < length xs
  below a b n c = let r = are.numbered a b n c in slice_get_within xs n r.0 r.1

  rise : (a b : ℕ) → IsStrictlyIncreasing (new_at a b)
  rise a b = elim (which a b) [
    | inl h ↦ subst (λ (l : List ℕ). IsStrictlyIncreasing l) (sym (pushed_at a b h.0 h.1)) (rising_push (old_at a b) (length xs) (are.rise a b) (below a b))
    | inr h ↦ subst (λ (l : List ℕ). IsStrictlyIncreasing l) (sym (noted.others a b h)) (are.rise a b)
  ]

  placed : (n : ℕ) (t : Segment) → slice_get grown n ≡ Some t → (b : ℕ) × Contains (new_at t.module.0 b) n
  placed n t e = elim (get_cases xs s n t e) [
    | inl h ↦ let r = are.placed n t h in (r.0, still_placed t.module.0 r.0 n r.1)
    | inr h ↦
        let at : Contains (new_at m j) (length xs) = subst (λ (l : List ℕ). Contains l (length xs)) (sym pushed) (Contains-push (old_at m j) (length xs)) in
        let same : t.module.0 ≡ m = ap (λ (r : Segment). r.module.0) h.1 ∙ has.module_is in
        (j, subst (λ a. Contains (new_at a j) n) (sym same) (subst (λ i. Contains (new_at m j) i) (sym h.0) at))
  ]

  numbered : (a b n : ℕ) → Contains (new_at a b) n → (t : Segment) × (slice_get grown n ≡ Some t) × HasNumber x.contents.now a b t
  numbered a b n c = elim (placed_cases a b n c) [
    | inl d ↦ let r = are.numbered a b n d in (r.0, get_front xs (s ∷ []) n r.0 r.1, r.2)
    | inr h ↦ (
      s,
      ap (slice_get grown) h.2 ∙ get_last xs s,
      subst (λ i. HasNumber x.contents.now i b s) (sym h.0) (subst (λ i. HasNumber x.contents.now m i s) (sym h.1) has),
    )
  ]

  -- the new one is like the one whose first it has
  first_of_like : IsFirstOf x m j (rc_str_bytes s.context.inherited.now) s.first → IsFirstLike grown (length xs) s
  first_of_like p =
      let t = p.segment in
      let there = slice_get_within xs p.place t p.is in
      let k = are.first p.place t p.is in
      let r = are.numbered m j p.place p.among in
      let same : r.0 ≡ t = same_Some r.0 t (sym r.1 ∙ p.is) in
      let like = subst (HasNumber x.contents.now m j) same r.2 in
      record {
        before = omega (arith, p.first_is, k.before, there);
        alike = λ f e.
            let old : slice_get xs t.first ≡ Some f = elim (get_cases xs s s.first f e) [
              | inl h ↦ ap (slice_get xs) p.first_is ∙ h
              | inr h ↦ absurd (omega (arith, h.0, p.first_is, k.before, there))
            ] in
            let a = k.alike f old in (
              a.0 ∙ like.module_is ∙ sym has.module_is,
              a.1 ∙ sym like.begins ∙ has.begins,
              a.2 ∙ sym like.ends ∙ has.ends,
              a.3 ∙ p.first_is,
              a.4 ∙ p.under,
            );
      }

  first_itself : s.first ≡ length xs → IsFirstLike grown (length xs) s
  first_itself e = record {
    before = omega (arith, e);
    alike = λ f h.
        let same : f ≡ s = same_Some f s (sym h ∙ ap (slice_get grown) e ∙ get_last xs s) in
        (ap (λ (r : Segment). r.module.0) same, ap (λ (r : Segment). r.from) same, ap (λ (r : Segment). r.to) same, ap (λ (r : Segment). r.first) same, ap (λ (r : Segment). rc_str_bytes r.context.inherited.now) same);
  }

  first_now : IsFirstLike grown (length xs) s
  first_now = elim first [ inl e ↦ first_itself e | inr p ↦ first_of_like p ]

  first_still : (n : ℕ) (t : Segment) → slice_get xs n ≡ Some t → IsFirstLike grown n t
  first_still n t e =
      let k = are.first n t e in
      let there = slice_get_within xs n t e in
      record {
        before = k.before;
        alike = λ f h. elim (get_cases xs s t.first f h) [
          | inl old ↦ k.alike f old
          | inr new ↦ absurd (omega (arith, new.0, k.before, there))
        ];
      }

  firsts : (n : ℕ) (t : Segment) → slice_get grown n ≡ Some t → IsFirstLike grown n t
  firsts n t e = elim (get_cases xs s n t e) [
    | inl h ↦ first_still n t h
    | inr h ↦ subst (λ i. IsFirstLike grown i t) (sym h.0) (subst (λ (r : Segment). IsFirstLike grown (length xs) r) (sym h.1) first_now)
  ]

  pub segment_added : AreSegments modules y
  segment_added = record {
    contents = subst (AreContents modules) (sym contents_is) are.contents;
    sizes = subst (λ (cs : List Contents). HavePlaces cs y.places.items) (sym contents_is) (noted.sizes x.contents.now are.sizes);
    each = subst (λ (l : List Segment). AllByRecursion (IsSegment modules y.contents.now) l) (sym list_is)
        (subst (λ (cs : List Contents). AllByRecursion (IsSegment modules cs) grown) (sym contents_is) (each_append (IsSegment modules x.contents.now) xs (s ∷ []) are.each (is, tt)));
    first = subst (λ (l : List Segment). (n : ℕ) (t : Segment) → slice_get l n ≡ Some t → IsFirstLike l n t) (sym list_is) firsts;
    placed = subst (λ (l : List Segment). (n : ℕ) (t : Segment) → slice_get l n ≡ Some t → (b : ℕ) × Contains (new_at t.module.0 b) n) (sym list_is) placed;
    numbered = subst (λ (l : List Segment). (a b n : ℕ) → Contains (new_at a b) n → (t : Segment) × (slice_get l n ≡ Some t) × HasNumber y.contents.now a b t) (sym list_is)
        (subst (λ (cs : List Contents). (a b n : ℕ) → Contains (new_at a b) n → (t : Segment) × (slice_get grown n ≡ Some t) × HasNumber cs a b t) (sym contents_is) numbered);
    rise = rise;
  }

-- the segment of that number of a module is added
pub adds_segment : (modules : List NamedModule) (x y : Segments) (m : ModuleId) (j : ℕ) (context : Context) (from to first : ℕ) → AreSegments modules x → CanAdd modules x m.0 j context from to → y.contents.now ≡ x.contents.now
    → y.list.items ≡ x.list.items ++ record { «module» = m; context = context; from = from; to = to; first = first } ∷ [] → NotesPlace x.places.items y.places.items m.0 j (length x.list.items)
    → ((first ≡ length x.list.items) ⊎ IsFirstOf x m.0 j (rc_str_bytes context.inherited.now) first) → AddsSegment modules x y m.0 context from to
adds_segment modules x y m j context from to first are can contents list noted firsts =
    let s : Segment = record { «module» = m; context = context; from = from; to = to; first = first } in
    let z = zip_get (IsContents modules) modules x.contents.now are.contents m.0 can.within in
    let at = can.numbered z.1 z.3 in
    record {
      segment = s;
      list_is = list;
      module_is = refl;
      context_is = refl;
      from_is = refl;
      to_is = refl;
      are = segment_added modules x y m.0 j s are contents list noted
          (record { module_within = can.within; binds = can.binds; ordered = can.ordered; within = can.to_within })
          (record {
            module_is = refl;
            begins = ap (λ (o : Option Contents). option_map_or (λ (c : Contents). segment_begin c.includes.items j) o 0) z.3 ∙ sym at.1;
            ends = ap (λ (o : Option Contents). option_map_or (λ (c : Contents). segment_end c j) o 0) z.3 ∙ sym at.2;
          })
          (λ c e. (can.numbered c e).0) firsts;
    }
