-- Rising lists of numbers, and fronts of lists.
use Rattle.std.proofs.Common.{◌≡◌, ℕ, ◌+◌, ◌-◌, ◌<◌, ◌≤◌, inl, inr, List, [], ◌∷◌, ◌++◌, length, get_or, take, drop, refl, sym, ap, ◌∙◌, subst, arith}
use Rattle.std.specs.Prelude.{Contains}
use Rattle.std.proofs.lemmas.List.{length_push, length-append, get_or_push, get_or_past, get_or_default, get_or_append_left, take_at, take_all, take_more, take-take, take-append-drop, length-take}
use Rattle.std.proofs.lemmas.List.Elements.{Contains-append_left, Contains-push, Contains-push_cases, Contains-get_or}
use Rattle.std.proofs.lemmas.Bool.{cases_lt}
use Rattle.rn_graph.specs.inside.Searching.{EndsWith, Rises, IsUnited}

-- where an element stands
pub stands : (xs : List ℕ) (x : ℕ) → Contains xs x → (i : ℕ) × (i < length xs) × (get_or xs i 0 ≡ x)
stands xs x c = (c.0, c.1, get_or_default xs c.0 0 x c.1 ∙ c.2)

pub contains_take : (n : ℕ) (xs : List ℕ) (x : ℕ) → Contains (take n xs) x → Contains xs x
contains_take n xs x c = subst (λ (l : List ℕ). Contains l x) (take-append-drop n xs) (Contains-append_left (take n xs) (drop n xs) x c)

pub rises_left : (xs ys : List ℕ) → Rises (xs ++ ys) → Rises xs
rises_left xs ys r i j h k =
    let a = get_or_append_left xs ys 0 i (omega (arith, h, k)) in
    let b = get_or_append_left xs ys 0 j k in
    omega (arith, r i j h (omega (arith, k, length-append xs ys)), a, b)

pub rises_take : (n : ℕ) (xs : List ℕ) → Rises xs → Rises (take n xs)
rises_take n xs r = rises_left (take n xs) (drop n xs) (subst Rises (sym (take-append-drop n xs)) r)

-- the last is greater than those before
pub rises_last : (front : List ℕ) (x c : ℕ) → Rises (front ++ x ∷ []) → Contains front c → c < x
rises_last front x c r k =
    let s = stands front c k in
    let a = get_or_append_left front (x ∷ []) 0 s.0 s.1 in
    let b = get_or_push front x 0 (length front) refl in
    omega (arith, r s.0 (length front) s.1 (omega (arith, length_push front x)), a, b, s.2)

pub rises_push : (xs : List ℕ) (x : ℕ) → Rises xs → ((c : ℕ) → Contains xs c → c < x) → Rises (xs ++ x ∷ [])
rises_push xs x r f i j h k =
    let a = get_or_append_left xs (x ∷ []) 0 i (omega (arith, h, k, length_push xs x)) in
    elim (cases_lt j (length xs)) [
      | inl l ↦ omega (arith, r i j h l, a, get_or_append_left xs (x ∷ []) 0 j l)
      | inr l ↦ omega (arith, f (get_or xs i 0) (Contains-get_or xs i 0 (omega (arith, h, k, length_push xs x))), a, get_or_push xs x 0 j (omega (arith, k, l, length_push xs x)))
    ]

-- no element is greater than the last
pub greatest_last : (xs front : List ℕ) (x c : ℕ) → xs ≡ front ++ x ∷ [] → Rises xs → Contains xs c → c ≤ x
greatest_last xs front x c e r k = elim (Contains-push_cases front x c (subst (λ (l : List ℕ). Contains l c) e k)) [
  | inl o ↦ omega (arith, rises_last front x c (subst Rises e r) o)
  | inr q ↦ omega (arith, q)
]

pub has_last : (xs front : List ℕ) (x : ℕ) → xs ≡ front ++ x ∷ [] → Contains xs x
has_last xs front x e = subst (λ (l : List ℕ). Contains l x) (sym e) (Contains-push front x)

pub first_left : (xs ys : List ℕ) → get_or (xs ++ ys) 0 0 ≡ 0 → get_or xs 0 0 ≡ 0
first_left xs ys e = elim (cases_lt 0 (length xs)) [ inl h ↦ sym (get_or_append_left xs ys 0 0 h) ∙ e | inr h ↦ get_or_past xs 0 0 h ]

pub first_take : (n : ℕ) (xs : List ℕ) → get_or xs 0 0 ≡ 0 → get_or (take n xs) 0 0 ≡ 0
first_take n xs e = first_left (take n xs) (drop n xs) (ap (λ (l : List ℕ). get_or l 0 0) (take-append-drop n xs) ∙ e)

-- what is left when the last is taken away
pub popped : (xs front : List ℕ) (x n : ℕ) → xs ≡ front ++ x ∷ [] → n ≡ length xs → take (n - 1) xs ≡ front
popped xs front x n e m =
    ap (λ (l : List ℕ). take (n - 1) l) e ∙ take_at front (x ∷ []) (n - 1) (omega (arith, m, ap length e, length_push front x))

pub ends_at : (path : List ℕ) (x : ℕ) → 0 < length path → x ≡ get_or path (length path - 1) 0 → EndsWith path x
ends_at path x h e = (
  take (length path - 1) path,
  sym (take_all (length path - 1 + 1) path (omega arith)) ∙ take_more path (length path - 1) 0 (omega (arith, h)) ∙ ap (λ (y : ℕ). take (length path - 1) path ++ y ∷ []) (sym e),
)

-- the bounds that are left while groups are united
pub record IsUniting (old now : List ℕ) (place : ℕ) : Type 0 where
  pub front : (n : ℕ) × (now ≡ take n old)
  pub kept : (c : ℕ) → Contains old c → c ≤ place → Contains now c

pub uniting_goes_on : (old now now' : List ℕ) (place x n : ℕ) → IsUniting old now place → n ≡ length now → x ≡ get_or now (n - 1) 0 → 0 < n → place < x → now' ≡ take (n - 1) now → IsUniting old now' place
uniting_goes_on old now now' place x n g m e h l q = record {
  front = (n - 1, q ∙ ap (λ (xs : List ℕ). take (n - 1) xs) g.front.1 ∙ take-take (n - 1) g.front.0 old (omega (arith, m, ap length g.front.1, length-take g.front.0 old)));
  kept = λ c k o. elim (Contains-push_cases ends.0 x c (subst (λ (xs : List ℕ). Contains xs c) ends.1 (g.kept c k o))) [
    | inl r ↦ subst (λ (xs : List ℕ). Contains xs c) (sym (q ∙ popped now ends.0 x n ends.1 m)) r
    | inr r ↦ absurd (omega (arith, r, o, l))
  ];
}
  where
    ends : EndsWith now x
    ends = ends_at now x (omega (arith, h, m)) (e ∙ ap (λ (k : ℕ). get_or now (k - 1) 0) m)

pub uniting_ends : (old now : List ℕ) (place : ℕ) → Rises old → IsUniting old now place → (0 < length now → get_or now (length now - 1) 0 ≤ place) → IsUnited old now place
uniting_ends old now place r g f = record {
  front = g.front;
  kept = g.kept;
  within = λ c k.
      let h : 0 < length now = omega (arith, k.1) in
      let e = ends_at now (get_or now (length now - 1) 0) h refl in
      omega (arith, f h, greatest_last now e.0 (get_or now (length now - 1) 0) c e.1 (subst Rises (sym g.front.1) (rises_take g.front.0 old r)) k);
}
