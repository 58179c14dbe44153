-- Whether a row has a component in a range of a module: the first one that isn't before the range tells.
use Rattle.std.proofs.Common.{◌≡◌, ◌⊎◌, ℕ, ◌<◌, ◌≤◌, ◌&&◌, ◌||◌, nat_eq, nat_lt, Bool, true, false, inl, inr, List, length, get_or, Some, refl, sym, ap, ◌∙◌, subst, arith}
use Rattle.std.specs.Prelude.{slice_get}
use Rattle.std.specs.List.{list_any}
use Rattle.std.specs.List.Sorted.{IsPartitionPoint, IsPartitionedBy}
use Rattle.std.proofs.lemmas.Bool.{cases_Bool, cases_lt, and_parts, eq-eqb, eqb-false, eqb-true, false_from_ne_true, false≢true, lt-ltb, ltb-false, ltb-true}
use Rattle.std.proofs.lemmas.List.Folds.{list_any_at, list_any_none}
use Rattle.std.proofs.lemmas.Option.{get_or_from_slice_get, slice_get_within}
use Rattle.rn_assemble.specs.declared.reading.key_rows.WrittenComponent as code
use Rattle.rn_assemble.specs.inside.Runs.{IsOrderedRow, Precedes}
use Rattle.rn_assemble.proofs.KeyPieces.RowParts.{is_within}
use Rattle.rn_assemble.proofs.KeyPieces.Runs.{within_holds, within_says}

-- the component is of a module before m, or of m with a number below another
abbrev Before : (m from : ℕ) → code.WrittenComponent → Type 0
Before m from w = (w.module.0 < m) ⊎ ((w.module.0 ≡ m) × (w.number < from))

abbrev pub is_before : (m from : ℕ) → code.WrittenComponent → Bool
is_before m from w = nat_lt w.module.0 m || (nat_eq w.module.0 m && nat_lt w.number from)

or_parts : (a b : Bool) → (a || b) ≡ true → (a ≡ true) ⊎ (b ≡ true)
or_parts true b h = inl refl
or_parts false b h = inr h

before_says : (m from : ℕ) (w : code.WrittenComponent) → is_before m from w ≡ true → Before m from w
before_says m from w h = elim (or_parts (nat_lt w.module.0 m) (nat_eq w.module.0 m && nat_lt w.number from) h) [
  | inl l ↦ inl (ltb-true w.module.0 m l)
  | inr b ↦ let p = and_parts (nat_eq w.module.0 m) (nat_lt w.number from) b in inr (eqb-true w.module.0 m p.0, ltb-true w.number from p.1)
]

or-right : (a : Bool) → (a || true) ≡ true
or-right true = refl
or-right false = refl

before_holds : (m from : ℕ) (w : code.WrittenComponent) → Before m from w → is_before m from w ≡ true
before_holds m from w (inl l) = ap (λ b. b || (nat_eq w.module.0 m && nat_lt w.number from)) (lt-ltb w.module.0 m l)
before_holds m from w (inr h) = (λ i. nat_lt w.module.0 m || (eq-eqb w.module.0 m h.0 i && lt-ltb w.number from h.1 i)) ∙ or-right (nat_lt w.module.0 m)

not_before : (m from : ℕ) (w : code.WrittenComponent) → is_before m from w ≡ false → ¬ Before m from w
not_before m from w h b = false≢true (sym h ∙ before_holds m from w b)

earlier : (m from : ℕ) (v w : code.WrittenComponent) → Precedes v w → Before m from w → Before m from v
earlier m from v w (inl l) (inl b) = inl (omega (arith, l, b))
earlier m from v w (inl l) (inr b) = inl (omega (arith, l, b.0))
earlier m from v w (inr l) (inl b) = inl (omega (arith, l.0, b))
earlier m from v w (inr l) (inr b) = inr (l.0 ∙ b.0, omega (arith, l.1, b.1))

module _ (row : List code.WrittenComponent) (rises : IsOrderedRow row) (m from : ℕ) where
  pub row_parted : IsPartitionedBy (is_before m from) row
  row_parted i j d l within h = elim (cases_lt i j) [
    | inl less ↦ before_holds m from (get_or row i d) (earlier m from (get_or row i d) (get_or row j d) (rises i j d less within) (before_says m from (get_or row j d) h))
    | inr more ↦ let same : j ≡ i = omega (arith, l, more) in subst (λ k. is_before m from (get_or row k d) ≡ true) same h
  ]

  module _ (to n : ℕ) (point : IsPartitionPoint (λ w. is_before m from w ≡ true) (λ w. is_before m from w ≡ false) row n) where
    outside_before : (k : ℕ) (d : code.WrittenComponent) → k < n → is_within m from to (get_or row k d) ≡ false
    outside_before k d l = false_from_ne_true (is_within m from to (get_or row k d)) (λ h.
        let s = within_says m from to (get_or row k d) h in
        elim (before_says m from (get_or row k d) (point.0 k d (omega arith) l)) [
          | inl b ↦ omega (arith, b, s.0)
          | inr b ↦ omega (arith, b.1, s.1)
        ])

    pub none_within : length row ≤ n → list_any (is_within m from to) row ≡ false
    none_within l = list_any_none (is_within m from to) row (λ k d within. outside_before k d (omega (arith, within, l)))

    module _ (w : code.WrittenComponent) (at : slice_get row n ≡ Some w) where
      here : ¬ Before m from w
      here = not_before m from w (subst (λ x. is_before m from x ≡ false) (get_or_from_slice_get row n w w at) (point.1 n w (omega arith) (slice_get_within row n w at)))

      outside_behind : is_within m from to w ≡ false → (k : ℕ) (d : code.WrittenComponent) → n ≤ k → k < length row → is_within m from to (get_or row k d) ≡ false
      outside_behind h k d l within = false_from_ne_true (is_within m from to v) (λ t.
          let s = within_says m from to v t in
          elim (cases_lt n k) [
            | inl less ↦ elim (subst (λ x. Precedes x v) (get_or_from_slice_get row n w d at) (rises n k d less within)) [
              | inl p ↦ here (inl (omega (arith, p, s.0)))
              | inr p ↦
                  let same : w.module.0 ≡ m = p.0 ∙ s.0 in
                  let low : from ≤ w.number = elim (cases_lt w.number from) [ inl b ↦ absurd (here (inr (same, b))) | inr b ↦ b ] in
                  false≢true (sym h ∙ within_holds m from to w same low (omega (arith, p.1, s.2)))
            ]
            | inr more ↦
                let same : k ≡ n = omega (arith, l, more) in
                false≢true (sym h ∙ ap (is_within m from to) (sym (ap (λ i. get_or row i d) same ∙ get_or_from_slice_get row n w d at)) ∙ t)
          ])
        where
          v : code.WrittenComponent
          v = get_or row k d

      none_from : is_within m from to w ≡ false → list_any (is_within m from to) row ≡ false
      none_from h = list_any_none (is_within m from to) row (λ k d within. elim (cases_lt k n) [
        | inl l ↦ outside_before k d l
        | inr l ↦ outside_behind h k d l within
      ])

      -- of another module
      pub none_of_other : nat_eq w.module.0 m ≡ false → list_any (is_within m from to) row ≡ false
      none_of_other e = none_from (false_from_ne_true (is_within m from to w) (λ t. eqb-false w.module.0 m e (within_says m from to w t).0))

      -- of the module itself
      pub first_tells : w.module.0 ≡ m → nat_lt w.number to ≡ list_any (is_within m from to) row
      first_tells e = elim (cases_Bool (nat_lt w.number to)) [
        | inl yes' ↦
            let low : from ≤ w.number = elim (cases_lt w.number from) [ inl b ↦ absurd (here (inr (e, b))) | inr b ↦ b ] in
            let is = within_holds m from to w e low (ltb-true w.number to yes') in
            yes' ∙ sym (list_any_at (is_within m from to) row n w (slice_get_within row n w at) (ap (is_within m from to) (get_or_from_slice_get row n w w at) ∙ is))
        | inr no' ↦
            no' ∙ sym (none_from (false_from_ne_true (is_within m from to w) (λ t. let s = within_says m from to w t in let above = ltb-false w.number to no' in omega (arith, s.2, above))))
      ]

      -- it isn't before the range
      pub not_below : w.module.0 ≡ m → from ≤ w.number
      not_below e = elim (cases_lt w.number from) [ inl b ↦ absurd (here (inr (e, b))) | inr b ↦ b ]
