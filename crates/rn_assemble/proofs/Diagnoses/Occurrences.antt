-- The components of pieces that pass a test of methods, gathered one after the other.
use Rattle.std.proofs.Common.{◌≡◌, ℕ, ◌+◌, ◌-◌, ◌<◌, ◌≤◌, Bool, true, false, List, [], ◌∷◌, ◌++◌, length, take, drop, get_or, Some, refl, sym, ap, ◌∙◌, subst, arith, append_assoc, append-nil, length-append, length-drop, inl, inr, ⊎_elim}
use Rattle.std.specs.Prelude.{Contains, count_by, slice_get, slice_range, sum_by}
use Rattle.std.specs.List.{AllByRecursion}
use Rattle.std.specs.Prelude.{IsPermutation}
use Rattle.std.proofs.lemmas.Bool.{cases_lt}
use Rattle.std.proofs.lemmas.List.{get_or-drop, length-take-le, length_push, take-append-drop, take_all}
use Rattle.std.proofs.lemmas.List.Elements.{Contains-append_left, Contains-push}
use Rattle.std.proofs.lemmas.List.Sorted.{Contains-permutation, IsPermutation-sym, length_permutation}
use Rattle.std.proofs.lemmas.List.Sums.{count_by_more_no, count_by_more_yes, sum_by-append, sum_by-cons}
use Rattle.std.proofs.lemmas.Option.{get_or_from_slice_get, slice_get_within}
use Rattle.rn_pattern.proofs.Ordered.Ascending.{each_append}
use Rattle.rn_pattern.proofs.Ordered.InOrder.{contained_each, each_contained}
use Rattle.rn_syntax.specs.declared.tree.Method.{Method}
use Rattle.rn_assemble.specs.declared.diagnosing.occurrences.Occurrence.{Occurrence}
use Rattle.rn_assemble.specs.declared.including.pieces.Piece.{Piece}
use Rattle.rn_assemble.specs.declared.reading.key_rows.WrittenComponent as code
use Rattle.rn_assemble.specs.inside.Diagnosing.{AddsOccurrences, AreFirstTwo, IsInPiece, KeepsTwo, count_in}
use Rattle.rn_assemble.proofs.Expansion.Ranges.{range_none}

-- the first two of those that are in order
pub two_kept : (found ordered new : List Occurrence) → IsPermutation found ordered → new ≡ take 2 ordered → KeepsTwo found new
two_kept found ordered new perm is =
    let among : (o : Occurrence) → Contains new o → Contains ordered o = λ o c. subst (λ (xs : List Occurrence). Contains xs o) (take-append-drop 2 ordered) (Contains-append_left (take 2 ordered) (drop 2 ordered) o (subst (λ (xs : List Occurrence). Contains xs o) is c)) in
    let each : (o : Occurrence) → Contains new o → Contains found o = λ o c. Contains-permutation ordered found o (IsPermutation-sym found ordered perm) (among o c) in
    let same = length_permutation found ordered perm in
    elim (cases_lt 2 (length ordered)) [
      | inl l ↦
          let size = ap length is ∙ length-take-le 2 ordered (omega (arith, l)) in
          record { each = each; most = omega (arith, size); few = omega (arith, size, same, l); enough = inr size }
      | inr l ↦
          let size = ap length (is ∙ take_all 2 ordered l) in
          record { each = each; most = omega (arith, size, l); few = omega (arith, size, same); enough = inl (size ∙ same) }
    ]

module _ (row : List code.WrittenComponent) (test : Method → Bool) where
  -- ---- in a piece

  module _ (p : Piece) where
    -- those up to an index were added
    pub record AddsUpTo (old : List Occurrence) (i : ℕ) (new : List Occurrence) : Type 0 where
      pub from : p.from ≤ i
      pub added : List Occurrence
      pub new_is : new ≡ old ++ added
      pub each : AllByRecursion (IsInPiece row test p) added
      pub size : length added ≡ count_by (λ (w : code.WrittenComponent). test w.method) (slice_range row p.from i)

    pub none_yet : (old : List Occurrence) → AddsUpTo old p.from old
    none_yet old = record { from = omega arith; added = []; new_is = sym (append-nil old); each = tt; size = ap (count_by (λ (w : code.WrittenComponent). test w.method)) (sym (range_none row p.from)) }

    module _ (old new : List Occurrence) (i : ℕ) (w : code.WrittenComponent) (at : slice_get row i ≡ Some w) (h : AddsUpTo old i new) where
      abbrev place : ℕ
      place = i - p.from

      next : i + 1 - p.from ≡ place + 1
      next = omega (arith, h.from)

      there : place < length (drop p.from row)
      there = omega (arith, length-drop p.from row, slice_get_within row i w at, h.from)

      read : get_or (drop p.from row) place w ≡ w
      read = let e : p.from + place ≡ i = omega (arith, h.from) in get_or-drop p.from row place w ∙ ap (λ n. get_or row n w) e ∙ get_or_from_slice_get row i w w at

      pub passed : test w.method ≡ false → AddsUpTo old (i + 1) new
      passed never = record {
        from = omega (arith, h.from);
        added = h.added;
        new_is = h.new_is;
        each = h.each;
        size = h.size ∙ sym (ap (λ n. count_by (λ (v : code.WrittenComponent). test v.method) (take n (drop p.from row))) next ∙ count_by_more_no (λ (v : code.WrittenComponent). test v.method) (drop p.from row) place w there (ap (λ (v : code.WrittenComponent). test v.method) read ∙ never));
      }

      pub met : test w.method ≡ true → (o : Occurrence) → o.segment ≡ p.segment → o.index ≡ i → i < p.to → (more : List Occurrence) → more ≡ new ++ o ∷ [] → AddsUpTo old (i + 1) more
      met holds o segment index below more is = record {
        from = omega (arith, h.from);
        added = h.added ++ o ∷ [];
        new_is = is ∙ ap (λ l. l ++ o ∷ []) h.new_is ∙ append_assoc old h.added (o ∷ []);
        each = each_append (IsInPiece row test p) h.added (o ∷ []) h.each (
          record {
            segment_is = segment;
            from = omega (arith, h.from, index);
            to = omega (arith, below, index);
            component = w;
            at = ap (slice_get row) index ∙ at;
            passes = holds;
          },
          tt,
        );
        size = length_push h.added o ∙ ap (λ n. n + 1) h.size ∙ sym (ap (λ n. count_by (λ (v : code.WrittenComponent). test v.method) (take n (drop p.from row))) next ∙ count_by_more_yes (λ (v : code.WrittenComponent). test v.method) (drop p.from row) place w there (ap (λ (v : code.WrittenComponent). test v.method) read ∙ holds));
      }

    pub all_added : (old new : List Occurrence) → AddsUpTo old p.to new → AddsOccurrences row p test old new
    all_added old new h = record { added = h.added; new_is = h.new_is; each = h.each; size = h.size }

  -- ---- in pieces

  abbrev InOneOf : List Piece → Occurrence → Type 0
  InOneOf pieces o = (p : Piece) × Contains pieces p × IsInPiece row test p o

  pub of_none : AreFirstTwo row [] test []
  of_none = record { each = tt; few = omega arith; enough = inl refl }

  pub of_more : (pieces : List Piece) (p : Piece) (found added new : List Occurrence) → AreFirstTwo row pieces test found → AddsOccurrences row p test found added → KeepsTwo added new → AreFirstTwo row (pieces ++ p ∷ []) test new
  of_more pieces p found added new h a k =
      let held = each_contained (InOneOf (pieces ++ p ∷ [])) found (λ o c. let (q, among, is) = contained_each (InOneOf pieces) found h.each o c in (q, Contains-append_left pieces (p ∷ []) q among, is)) in
      let here = each_contained (InOneOf (pieces ++ p ∷ [])) a.added (λ o c. (p, Contains-push pieces p, contained_each (IsInPiece row test p) a.added a.each o c)) in
      let all = subst (AllByRecursion (InOneOf (pieces ++ p ∷ []))) (sym a.new_is) (each_append (InOneOf (pieces ++ p ∷ [])) found a.added held here) in
      let size : length added ≡ length found + count_in row test p = ap length a.new_is ∙ length-append found a.added ∙ ap (λ n. length found + n) a.size in
      record {
        each = each_contained (InOneOf (pieces ++ p ∷ [])) new (λ o c. contained_each (InOneOf (pieces ++ p ∷ [])) added all o (k.each o c));
        few = omega (arith, k.few, size, h.few, last);
        enough = ⊎_elim (λ e. ⊎_elim (λ f. inl (omega (arith, e, f, size, last))) (λ f. inr (omega (arith, e, f, size, k.most))) h.enough) inr k.enough;
      }
    where
      last : sum_by (count_in row test) (pieces ++ p ∷ []) ≡ sum_by (count_in row test) pieces + count_in row test p
      last = let one = sum_by-cons (count_in row test) p [] in sum_by-append (count_in row test) pieces (p ∷ []) ∙ ap (λ n. sum_by (count_in row test) pieces + n) (omega (arith, one))

  -- each is of a component of the row that passes
  pub occurs_at : (pieces : List Piece) (found : List Occurrence) → AreFirstTwo row pieces test found → (i : ℕ) (o : Occurrence) → i < length found → o ≡ get_or found i o → (w : code.WrittenComponent) × (slice_get row o.index ≡ Some w) × (test w.method ≡ true)
  occurs_at pieces found h i o l e =
      let (p, among, is) = contained_each (InOneOf pieces) found h.each o (i, l, sym e) in
      (is.component, is.at, is.passes)

  pub occurs_within : (pieces : List Piece) (found : List Occurrence) → AreFirstTwo row pieces test found → (i : ℕ) (o : Occurrence) → i < length found → o ≡ get_or found i o → o.index < length row
  occurs_within pieces found h i o l e = let (w, at, passes) = occurs_at pieces found h i o l e in slice_get_within row o.index w at
