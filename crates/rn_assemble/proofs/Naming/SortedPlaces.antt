-- First places that were sorted by segment and number are in order.
use Rattle.std.proofs.Common.{◌≡◌, ℕ, suc, ◌<◌, inl, inr, false, cond, List, [], ◌∷◌, length, get_or, sym, ap, ◌∙◌, subst, arith, nat_eq, nat_cmp, is_lt, Less, Equal, Greater, Ordering, IsSortedByKey}
use Rattle.std.specs.Ordering.{ordering_then}
use Rattle.std.proofs.lemmas.Bool.{cases_eq, cases_lt, eq-eqb, false≢true, le-ltb, lt-ltb}
use Rattle.std.proofs.lemmas.Cmp.{nat_cmp_total, on_total, then_total}
use Rattle.std.proofs.lemmas.List.Sorted.{ranks_by, sorted_far}
use Rattle.rn_pattern.proofs.Ordered.InOrder.{each_contained}
use Rattle.rn_assemble.specs.declared.by_key.settling_order.FirstPlace.{FirstPlace}
use Rattle.rn_assemble.proofs.Naming.NamesInOrder.{InOrder, NotAfter}

abbrev pub place_of : FirstPlace → ℕ × ℕ
place_of p = (p.segment, p.number)

abbrev pub place_cmp : ℕ × ℕ → ℕ × ℕ → Ordering
place_cmp a b = ordering_then (nat_cmp a.0 b.0) (nat_cmp a.1 b.1)

less_is : (a b : ℕ) → a < b → nat_cmp a b ≡ Less
less_is a b l = ap (λ t. cond t Less (cond (nat_eq a b) Equal Greater)) (lt-ltb a b l)

same_is : (a b : ℕ) → a ≡ b → nat_cmp a b ≡ Equal
same_is a b e = ap (λ t. cond t Less (cond (nat_eq a b) Equal Greater)) (le-ltb a b (omega (arith, e))) ∙ ap (λ t. cond t Equal Greater) (eq-eqb a b e)

not_less : (m q n r : ℕ) → is_lt (place_cmp (n, r) (m, q)) ≡ false → NotAfter m q n r
not_less m q n r h = elim (cases_lt m n) [
  | inl l ↦ inl l
  | inr g ↦ elim (cases_eq n m) [
    | inl same ↦ elim (cases_lt r q) [
      | inl l ↦ absurd (false≢true (sym h ∙ ap (λ o. is_lt (ordering_then o (nat_cmp r q))) (same_is n m same) ∙ ap is_lt (less_is r q l)))
      | inr k ↦ inr (sym same, k)
    ]
    | inr other ↦ absurd (false≢true (sym h ∙ ap (λ o. is_lt (ordering_then o (nat_cmp r q))) (less_is n m (omega (arith, g, other)))))
  ]
]

by_pairs : (ps : List FirstPlace) → ((i j : ℕ) (d : FirstPlace) → i < j → j < length ps → is_lt (place_cmp (place_of (get_or ps j d)) (place_of (get_or ps i d))) ≡ false) → InOrder ps
by_pairs [] h = tt
by_pairs (p ∷ ps) h = (
  each_contained (λ (q : FirstPlace). NotAfter p.segment p.number q.segment q.number) ps
      (λ q c. let e : is_lt (place_cmp (place_of q) (place_of p)) ≡ false = subst (λ (r : FirstPlace). is_lt (place_cmp (place_of r) (place_of p)) ≡ false) c.2 (h 0 (suc c.0) q (omega arith) (omega (arith, c.1))) in
      not_less p.segment p.number q.segment q.number e),
  by_pairs ps (λ i j d a b. h (suc i) (suc j) d (omega (arith, a)) (omega (arith, b))),
)

pub sorted_in_order : (ps : List FirstPlace) → IsSortedByKey place_of place_cmp ps → InOrder ps
sorted_in_order ps up =
    let total = then_total (on_total (λ (a : ℕ × ℕ). a.0) nat_cmp_total) (on_total (λ (a : ℕ × ℕ). a.1) nat_cmp_total) in
    by_pairs ps (λ i j d a b. sorted_far (λ x y. is_lt (place_cmp (place_of x) (place_of y))) (ranks_by total place_of) ps up i j d (omega (arith, a)) b)
