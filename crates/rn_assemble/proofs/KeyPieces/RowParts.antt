-- What a row has of a part of a module: the components of its key among those numbers.
use Rattle.std.proofs.Common.{◌≡◌, ℕ, zero, suc, ◌+◌, ◌-◌, ◌<◌, ◌≤◌, ◌==◌, ◌&&◌, nat_lt, not, cond, Bool, true, false, List, [], ◌∷◌, ◌++◌, take, drop, map, filter, refl, sym, ap, ◌∙◌, inl, inr, arith, append-nil}
use Rattle.std.specs.Prelude.{slice_range}
use Rattle.std.proofs.lemmas.Bool.{cases_lt, eq-eqb, le-ltb, lt-ltb, ne_eqb}
use Rattle.std.proofs.lemmas.List.Elements.{filter-append}
use Rattle.std.proofs.lemmas.Simd.{map-map}
use Rattle.rn_assemble.specs.Components.{Key, NamedModule, same_key}
use Rattle.rn_assemble.specs.declared.reading.key_rows.WrittenComponent as code
use Rattle.rn_assemble.specs.inside.Contained.{WrittenComponent, written_components}
use Rattle.rn_assemble.specs.inside.ContentsOf.{written_at}
use Rattle.rn_assemble.specs.inside.Rows.{IsRowOf, Placed, all_placed, placed_from, placed_in, placed_view}

-- whether a component is of the module and its number within the range
abbrev pub is_within : (m from to : ℕ) → code.WrittenComponent → Bool
is_within m from to w = (w.module.0 == m) && (not (nat_lt w.number from) && nat_lt w.number to)

abbrev placed_within : (m from to : ℕ) → Placed → Bool
placed_within m from to p = (p.module_at == m) && (not (nat_lt p.number from) && nat_lt p.number to)

abbrev the_component : Placed → WrittenComponent
the_component p = p.component

-- lists under two functions or tests
kept_mapped : {A B : Type 0} (f : A → B) (b : Bool) (x : A) (us : List B) (vs : List A) → us ≡ map f vs → cond b (f x ∷ us) us ≡ map f (cond b (x ∷ vs) vs)
kept_mapped f true x us vs e = ap (λ ys. f x ∷ ys) e
kept_mapped f false x us vs e = e

pub filter_mapped : {A B : Type 0} (p : B → Bool) (f : A → B) (xs : List A) → filter p (map f xs) ≡ map f (filter (λ x. p (f x)) xs)
filter_mapped p f [] = refl
filter_mapped p f (x ∷ xs) = kept_mapped f (p (f x)) x (filter p (map f xs)) (filter (λ y. p (f y)) xs) (filter_mapped p f xs)

kept_kept : {A : Type 0} (p q : A → Bool) (x : A) (a b : Bool) (us vs : List A) → p x ≡ a → q x ≡ b → filter p us ≡ filter q vs → filter p (cond b (x ∷ us) us) ≡ filter q (cond a (x ∷ vs) vs)
kept_kept p q x true true us vs c d e = ap (λ t. cond t (x ∷ filter p us) (filter p us)) c ∙ ap (λ ys. x ∷ ys) e ∙ sym (ap (λ t. cond t (x ∷ filter q vs) (filter q vs)) d)
kept_kept p q x true false us vs c d e = e ∙ sym (ap (λ t. cond t (x ∷ filter q vs) (filter q vs)) d)
kept_kept p q x false true us vs c d e = ap (λ t. cond t (x ∷ filter p us) (filter p us)) c ∙ e
kept_kept p q x false false us vs c d e = e

pub filter_swapped : {A : Type 0} (p q : A → Bool) (xs : List A) → filter p (filter q xs) ≡ filter q (filter p xs)
filter_swapped p q [] = refl
filter_swapped p q (x ∷ xs) = kept_kept p q x (p x) (q x) (filter q xs) (filter p xs) refl refl (filter_swapped p q xs)

-- the range of what is left of a module's components, of which the first one has the number n
abbrev rest_range : (n from to : ℕ) → List WrittenComponent → List WrittenComponent
rest_range n from to ws = take (to - n - (from - n)) (drop (from - n) ws)

take_nil : {X : Type 0} (n : ℕ) → take {A = X} n [] ≡ []
take_nil zero = refl
take_nil (suc n) = refl

drop_nil : {X : Type 0} (n : ℕ) → drop {A = X} n [] ≡ []
drop_nil zero = refl
drop_nil (suc n) = refl

within_test : (m from to n : ℕ) (b c : Bool) → nat_lt n from ≡ b → nat_lt n to ≡ c → ((m == m) && (not (nat_lt n from) && nat_lt n to)) ≡ (not b && c)
within_test m from to n b c e f = ap (λ t. t && (not (nat_lt n from) && nat_lt n to)) (eq-eqb m m refl) ∙ ap (λ t. not t && nat_lt n to) e ∙ ap (λ t. not b && t) f

kept_here : (b : Bool) (t : Bool) (p : Placed) (ps : List Placed) (ws : List WrittenComponent) → t ≡ b → map the_component ps ≡ ws → map the_component (cond t (p ∷ ps) ps) ≡ cond b (p.component ∷ ws) ws
kept_here true t p ps ws e f = ap (λ b. map the_component (cond b (p ∷ ps) ps)) e ∙ ap (λ vs. p.component ∷ vs) f
kept_here false t p ps ws e f = ap (λ b. map the_component (cond b (p ∷ ps) ps)) e ∙ f

module _ (m from to : ℕ) where
  range_from : (n : ℕ) (ws : List WrittenComponent) → map the_component (filter (placed_within m from to) (placed_from m n ws)) ≡ rest_range n from to ws
  range_from n [] = sym (ap (take (to - n - (from - n))) (drop_nil (from - n)) ∙ take_nil (to - n - (from - n)))
  range_from n (w ∷ ws) =
      let p : Placed = record { module_at = m; number = n; component = w } in
      let ps = filter (placed_within m from to) (placed_from m (suc n) ws) in
      let rest = range_from (suc n) ws in
      let before : (n < from) → map the_component (cond (placed_within m from to p) (p ∷ ps) ps) ≡ rest_range n from to (w ∷ ws) =
      λ l. let t = within_test m from to n true (nat_lt n to) (lt-ltb n from l) refl in
      let d : from - n ≡ suc (from - suc n) = omega arith in
      let k : to - suc n - (from - suc n) ≡ to - n - suc (from - suc n) = omega arith in
      kept_here false (placed_within m from to p) p ps (rest_range (suc n) from to ws) t rest ∙ ap (λ j. take j (drop (from - suc n) ws)) k ∙ sym (ap (λ j. take (to - n - j) (drop j (w ∷ ws))) d) in
      let inside : (from ≤ n) → (n < to) → map the_component (cond (placed_within m from to p) (p ∷ ps) ps) ≡ rest_range n from to (w ∷ ws) =
      λ l h. let t = within_test m from to n false true (le-ltb n from l) (lt-ltb n to h) in
      let d : from - n ≡ 0 = omega arith in
      let e : from - suc n ≡ 0 = omega arith in
      let k : to - n - 0 ≡ suc (to - suc n - 0) = omega arith in
      kept_here true (placed_within m from to p) p ps (rest_range (suc n) from to ws) t rest ∙ ap (λ j. w ∷ take (to - suc n - j) (drop j ws)) e ∙ sym (ap (λ j. take (to - n - j) (drop j (w ∷ ws))) d ∙ ap (λ j. take j (w ∷ ws)) k) in
      let behind : (from ≤ n) → (to ≤ n) → map the_component (cond (placed_within m from to p) (p ∷ ps) ps) ≡ rest_range n from to (w ∷ ws) =
      λ l h. let t = within_test m from to n false false (le-ltb n from l) (le-ltb n to h) in
      let d : to - n - (from - n) ≡ 0 = omega arith in
      let e : to - suc n - (from - suc n) ≡ 0 = omega arith in
      kept_here false (placed_within m from to p) p ps (rest_range (suc n) from to ws) t rest ∙ ap (λ j. take j (drop (from - suc n) ws)) e ∙ sym (ap (λ j. take j (drop (from - n) (w ∷ ws))) d) in
      elim (cases_lt n from) [
        | inl l ↦ before l
        | inr l ↦ elim (cases_lt n to) [ inl h ↦ inside l h | inr h ↦ behind l h ]
      ]

  -- nothing of another module
  other_from : (a n : ℕ) (ws : List WrittenComponent) → (a ≡ m → ⊥) → filter (placed_within m from to) (placed_from a n ws) ≡ []
  other_from a n [] h = refl
  other_from a n (w ∷ ws) h =
      let p : Placed = record { module_at = a; number = n; component = w } in
      let ps = filter (placed_within m from to) (placed_from a (suc n) ws) in
      let t : placed_within m from to p ≡ false = ap (λ b. b && (not (nat_lt n from) && nat_lt n to)) (ne_eqb a m h) in
      ap (λ b. cond b (p ∷ ps) ps) t ∙ other_from a (suc n) ws h

  other_in : (a : ℕ) (xs : List NamedModule) → m < a → filter (placed_within m from to) (placed_in a xs) ≡ []
  other_in a [] l = refl
  other_in a (x ∷ xs) l =
      filter-append (placed_within m from to) (placed_from a 0 (written_components x.tree.items)) (placed_in (suc a) xs)
      ∙ ap (λ ps. ps ++ filter (placed_within m from to) (placed_in (suc a) xs)) (other_from a 0 (written_components x.tree.items) (λ e. omega (arith, e, l)))
      ∙ other_in (suc a) xs (omega (arith, l))

  range_in : (a i : ℕ) (xs : List NamedModule) → m ≡ a + i → map the_component (filter (placed_within m from to) (placed_in a xs)) ≡ slice_range (written_at xs i) from to
  range_in a i [] e = sym (ap (take (to - from)) (drop_nil from) ∙ take_nil (to - from))
  range_in a zero (x ∷ xs) e =
      let ws = written_components x.tree.items in
      let same : a ≡ m = omega (arith, e) in
      let z : to - 0 - (from - 0) ≡ to - from = omega arith in
      let y : from - 0 ≡ from = omega arith in
      ap (map the_component) (filter-append (placed_within m from to) (placed_from a 0 ws) (placed_in (suc a) xs)
      ∙ ap (λ ps. filter (placed_within m from to) (placed_from a 0 ws) ++ ps) (other_in (suc a) xs (omega (arith, e)))
      ∙ append-nil (filter (placed_within m from to) (placed_from a 0 ws))
      ∙ ap (λ b. filter (placed_within m from to) (placed_from b 0 ws)) same)
      ∙ range_from 0 ws
      ∙ ap (λ j. take j (drop (from - 0) ws)) z
      ∙ ap (λ j. take (to - from) (drop j ws)) y
  range_in a (suc i) (x ∷ xs) e =
      let ws = written_components x.tree.items in
      ap (map the_component) (filter-append (placed_within m from to) (placed_from a 0 ws) (placed_in (suc a) xs)
      ∙ ap (λ ps. ps ++ filter (placed_within m from to) (placed_in (suc a) xs)) (other_from a 0 ws (λ h. omega (arith, e, h))))
      ∙ range_in (suc a) i xs (omega (arith, e))

-- of a part of a module, those of the row's key are those of the row within the part
pub row_parts : (modules : List NamedModule) (k : Key) (row : List code.WrittenComponent) → IsRowOf modules k row → (m from to : ℕ)
    → filter (λ (w : WrittenComponent). same_key k w.key) (slice_range (written_at modules m) from to) ≡ map (λ (w : code.WrittenComponent). (placed_view k w).component) (filter (is_within m from to) row)
row_parts modules k row is m from to =
    let keyed = λ (p : Placed). same_key k p.component.key in
    let within = placed_within m from to in
    ap (filter (λ (w : WrittenComponent). same_key k w.key)) (sym (range_in m from to 0 m modules (omega arith)))
    ∙ filter_mapped (λ (w : WrittenComponent). same_key k w.key) the_component (filter within (all_placed modules))
    ∙ ap (map the_component) (filter_swapped keyed within (all_placed modules) ∙ ap (filter within) (sym is) ∙ filter_mapped within (placed_view k) row)
    ∙ map-map the_component (placed_view k) (filter (is_within m from to) row)
