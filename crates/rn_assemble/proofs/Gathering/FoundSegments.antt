-- The segment of a component, by how many includes begin at it or before it.
use Rattle.std.proofs.Common.{◌≡◌, ℕ, zero, suc, ◌-◌, ◌<◌, ◌≤◌, leb, Some, inl, inr, length, slice_get, sym, ap, ◌∙◌, subst, arith, true, false}
use Rattle.std.specs.Option.{option_map_or}
use Rattle.std.specs.List.Sorted.{IsPartitionPoint}
use Rattle.std.proofs.lemmas.Bool.{cases_lt, leb-true}
use Rattle.std.proofs.lemmas.Bool.Decides.{leb_tells}
use Rattle.std.proofs.lemmas.Option.{get_or_from_slice_get, slice_get_cases, slice_get_within}
use Rattle.rn_assemble.specs.declared.reading.contents.Contents.{Contents}
use Rattle.rn_assemble.specs.declared.reading.contents.Include.{Include}
use Rattle.rn_assemble.specs.inside.ContentsOf.{AreApart, HasOrderedIncludes, IsSegmentOf, segment_begin, segment_end}

-- the first n of the includes begin at the component or before it, and the others behind it
abbrev pub Parts : Contents → (component n : ℕ) → Type 0
Parts c component n = IsPartitionPoint (λ (i : Include). leb i.from component ≡ true) (λ (i : Include). leb i.from component ≡ false) c.includes.items n

begins : (c : Contents) (k n : ℕ) → n ≤ length c.includes.items → Parts c k n → segment_begin c.includes.items n ≤ k
begins c k zero l h = omega arith
begins c k (suc n) l h = elim (slice_get_cases c.includes.items n).1 [
  | inl (x, within, some, at) ↦ let le = leb-true x.from k (subst (λ (i : Include). leb i.from k ≡ true) at (h.0 n x (omega arith) (omega arith))) in
      let e = ap (λ o. option_map_or (λ (i : Include). i.from) o 0) some in omega (arith, le, e)
  | inr (out, none) ↦ absurd (omega (arith, l, out))
]

ends : (c : Contents) (k n : ℕ) → Parts c k n → n < length c.includes.items → k < segment_end c n
ends c k n h l = elim (slice_get_cases c.includes.items n).1 [
  | inl (x, within, some, at) ↦ let no = subst (λ (i : Include). leb i.from k ≡ false) at (h.1 n x (omega arith) l) in
      let e = ap (λ o. option_map_or (λ (i : Include). i.from) o c.count) some in
      elim (leb_tells x.from k) [
        | inl more ↦ absurd (let bad : true ≡ false = sym more.0 ∙ no in cc)
        | inr less ↦ omega (arith, less.1, e)
      ]
  | inr (out, none) ↦ absurd (omega (arith, l, out))
]

pub found_segment : (c : Contents) (k n : ℕ) → n ≤ length c.includes.items → Parts c k n → IsSegmentOf c k n
found_segment c k n l h = record { within = l; begins = begins c k n l h; ends = ends c k n h }

-- ---- includes whose own components have the component

module _ (c : Contents) (k n : ℕ) (segment : IsSegmentOf c k n) (ordered : HasOrderedIncludes c) (apart : AreApart c.includes.items) (i : Include) (from : i.from ≤ k) (to : k < i.to) where
  not_behind : (m : ℕ) → slice_get c.includes.items m ≡ Some i → m < n
  not_behind m is = elim (cases_lt m n) [
    | inl l ↦ l
    | inr l ↦
        let within = slice_get_within c.includes.items m i is in
        let here : n < length c.includes.items = omega (arith, l, within) in
        elim (slice_get_cases c.includes.items n).1 [
          | inl (x, inside, some, at) ↦
              let e = ap (λ o. option_map_or (λ (j : Include). j.from) o c.count) some in
              let first = get_or_from_slice_get c.includes.items n x i some in
              let this = get_or_from_slice_get c.includes.items m i i is in
              absurd (omega (arith, from, segment.ends here, e, ordered n m i l within, ap (λ (j : Include). j.from) first, ap (λ (j : Include). j.from) this))
          | inr (out, none) ↦ absurd (omega (arith, out, here))
        ]
  ]

  not_before : (m j : ℕ) → slice_get c.includes.items m ≡ Some i → n ≡ suc j → m < j → ⊥
  not_before m j is e l =
      elim (slice_get_cases c.includes.items j).1 [
        | inl (x, inside, some, at) ↦
            let begin = subst (λ q. segment_begin c.includes.items q ≤ k) e segment.begins in
            let first = ap (λ o. option_map_or (λ (y : Include). y.from) o 0) some in
            absurd (omega (arith, to, begin, first, apart.apart m j i x l is some))
        | inr (out, none) ↦ absurd (omega (arith, out, e, segment.within))
      ]

  -- it is the last one before the segment
  pub own_last : (m : ℕ) → slice_get c.includes.items m ≡ Some i → n ≡ suc m
  own_last m is =
      let before = not_behind m is in
      let j = n - 1 in
      let e : n ≡ suc j = omega (arith, before) in
      elim (cases_lt m j) [
        | inl l ↦ absurd (not_before m j is e l)
        | inr l ↦ omega (arith, e, before, l)
      ]
