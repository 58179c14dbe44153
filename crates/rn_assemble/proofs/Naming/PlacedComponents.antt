-- Components by their places and numbers, and what a row has of them.
use Rattle.std.proofs.Common.{◌≡◌, ℕ, zero, suc, ◌+◌, inl, inr, ⊎_elim, Bool, List, [], ◌∷◌, Some, sym, ap, subst, arith, Contains, slice_get}
use Rattle.std.proofs.lemmas.List.Elements.{Contains-append_left, Contains-append_right, Contains-append_cases}
use Rattle.rn_pattern.proofs.Ordered.InOrder.{contains_behind, contains_cases, contains_front}
use Rattle.rn_assemble.specs.Components.{Key, NamedModule, same_key}
use Rattle.rn_assemble.specs.declared.reading.key_rows.WrittenComponent as code
use Rattle.rn_assemble.specs.inside.Contained.{WrittenComponent, written_components}
use Rattle.rn_assemble.specs.inside.ContentsOf.{written_at}
use Rattle.rn_assemble.specs.inside.Rows.{IsRowOf, Placed, all_placed, placed_from, placed_in, placed_view}
use Rattle.rn_assemble.proofs.Naming.KeptMembers.{kept_contained, kept_there}
use Rattle.rn_assemble.proofs.Referring.KeyNumbers.{same_key-Decides}
use Rattle.rn_assemble.proofs.Referring.ListMembers.{map_contained, map_contains}

abbrev pub placed : (m q : ℕ) → WrittenComponent → Placed
placed m q w = record { module_at = m; number = q; component = w }

-- ---- in the order of their numbers

pub placed_there : (m n : ℕ) (ws : List WrittenComponent) (j q : ℕ) (w : WrittenComponent) → q ≡ n + j → slice_get ws j ≡ Some w → Contains (placed_from m n ws) (placed m q w)
placed_there m n [] j q w at e = cc
placed_there m n (v ∷ ws) zero q w at e =
    let is : v ≡ w = cc in
    let same : n ≡ q = omega (arith, at) in
    let rest = placed_from m (suc n) ws in
    subst (λ i. Contains (placed m n v ∷ rest) (placed m i w)) same (subst (λ u. Contains (placed m n v ∷ rest) (placed m n u)) is (contains_front (placed m n v) rest))
placed_there m n (v ∷ ws) (suc j) q w at e = contains_behind (placed m n v) (placed m q w) (placed_from m (suc n) ws) (placed_there m (suc n) ws j q w (omega (arith, at)) e)

pub placed_is : (m n : ℕ) (ws : List WrittenComponent) (p : Placed) → Contains (placed_from m n ws) p → (p.module_at ≡ m) × (j : ℕ) × (p.number ≡ n + j) × (slice_get ws j ≡ Some p.component)
placed_is m n [] p c = absurd (omega (arith, c.1))
placed_is m n (w ∷ ws) p c = elim (contains_cases (placed m n w) p (placed_from m (suc n) ws) c) [
  | inl e ↦ let number = ap (λ (q : Placed). q.number) e in (sym (ap (λ (q : Placed). q.module_at) e), 0, omega (arith, number), ap (λ (q : Placed). Some q.component) e)
  | inr k ↦ let r = placed_is m (suc n) ws p k in (r.0, suc r.1, omega (arith, r.2), r.3)
]

-- ---- module by module

in_there : (a i m q : ℕ) (xs : List NamedModule) (w : WrittenComponent) → m ≡ a + i → slice_get (written_at xs i) q ≡ Some w → Contains (placed_in a xs) (placed m q w)
in_there a i m q [] w at e = cc
in_there a zero m q (x ∷ xs) w at e =
    let ws = written_components x.tree.items in
    let same : a ≡ m = omega (arith, at) in
    Contains-append_left (placed_from a 0 ws) (placed_in (suc a) xs) (placed m q w) (subst (λ b. Contains (placed_from a 0 ws) (placed b q w)) same (placed_there a 0 ws q q w (omega arith) e))
in_there a (suc i) m q (x ∷ xs) w at e =
    Contains-append_right (placed_from a 0 (written_components x.tree.items)) (placed_in (suc a) xs) (placed m q w) (in_there (suc a) i m q xs w (omega (arith, at)) e)

in_is : (a : ℕ) (xs : List NamedModule) (p : Placed) → Contains (placed_in a xs) p → (i : ℕ) × (p.module_at ≡ a + i) × (slice_get (written_at xs i) p.number ≡ Some p.component)
in_is a [] p c = absurd (omega (arith, c.1))
in_is a (x ∷ xs) p c =
    let ws = written_components x.tree.items in
    ⊎_elim (λ k. let r = placed_is a 0 ws p k in
    let same : r.1 ≡ p.number = omega (arith, r.2) in
    (0, omega (arith, r.0), subst (λ j. slice_get ws j ≡ Some p.component) same r.3))
    (λ k. let r = in_is (suc a) xs p k in (suc r.0, omega (arith, r.1), r.2))
    (Contains-append_cases (placed_from a 0 ws) (placed_in (suc a) xs) p c)

-- ---- in a row

module _ (modules : List NamedModule) (k : Key) (row : List code.WrittenComponent) (is : IsRowOf modules k row) where
  abbrev keyed : Placed → Bool
  keyed p = same_key k p.component.key

  -- a component of the key is in its row
  pub row_there : (m q : ℕ) (w : WrittenComponent) → slice_get (written_at modules m) q ≡ Some w → w.key ≡ k → (v : code.WrittenComponent) × Contains row v × (v.module.0 ≡ m) × (v.number ≡ q)
  row_there m q w e key =
      let kept = kept_there keyed (all_placed modules) (placed m q w) (in_there 0 m m q modules w (omega arith) e) ((same_key-Decides k w.key).1 (sym key)) in
      let (v, there, same) = map_contained (placed_view k) row (placed m q w) (subst (λ ps. Contains ps (placed m q w)) (sym is) kept) in
      (v, there, ap (λ (p : Placed). p.module_at) same, ap (λ (p : Placed). p.number) same)

  -- a component of the row is the one of its module with its number
  pub row_is_written : (v : code.WrittenComponent) → Contains row v → slice_get (written_at modules v.module.0) v.number ≡ Some (placed_view k v).component
  row_is_written v c =
      let kept = subst (λ ps. Contains ps (placed_view k v)) is (map_contains (placed_view k) row v c) in
      let (i, at, e) = in_is 0 modules (placed_view k v) (kept_contained keyed (all_placed modules) (placed_view k v) kept) in
      let same : i ≡ v.module.0 = omega (arith, at) in
      subst (λ j. slice_get (written_at modules j) v.number ≡ Some (placed_view k v).component) same e
