-- How many components of a key pass a test of methods, as they occur in its pieces.
use Rattle.std.proofs.Common.{◌≡◌, ◌≤◌, ◌⊎◌, inl, inr, ⊎_elim, ℕ, ◌+◌, ◌<◌, Bool, true, false, ◌||◌, ◌&&◌, cond, List, [], ◌∷◌, length, flat_map, refl, sym, ap, ◌∙◌, subst, arith}
use Rattle.std.specs.Prelude.{count_by, sum_by}
use Rattle.std.specs.List.{AllByRecursion, list_any}
use Rattle.std.proofs.lemmas.Bool.{and_parts, false≢true}
use Rattle.std.proofs.lemmas.List.Sums.{sum_by-append, sum_by-cons}
use Rattle.rn_syntax.specs.declared.tree.Method.{Method}
use Rattle.rn_text.specs.Texts.{Text}
use Rattle.rn_assemble.specs.Combine.{IsMixed, is_choice, is_interleave, of_key, uses}
use Rattle.rn_assemble.specs.Components.{Component, Key, NamedModule, set_components}
use Rattle.rn_assemble.specs.declared.diagnosing.occurrences.Occurrence.{Occurrence}
use Rattle.rn_assemble.specs.declared.including.pieces.Piece.{Piece}
use Rattle.rn_assemble.specs.declared.including.segments.Segment.{Segment}
use Rattle.rn_assemble.specs.declared.including.segments.Segments.{Segments}
use Rattle.rn_assemble.specs.declared.reading.key_rows.KeyRows.{KeyRows}
use Rattle.rn_assemble.specs.declared.reading.key_rows.WrittenComponent as code
use Rattle.rn_assemble.specs.inside.Checked.{AreExpanded}
use Rattle.rn_assemble.specs.inside.Diagnosing.{AreFirstTwo, count_in}
use Rattle.rn_assemble.specs.inside.Keyed.{key_at}
use Rattle.rn_assemble.specs.inside.Pieces.{ArePieces, IsPiece, OfRow, component_in, piece_components}
use Rattle.rn_assemble.specs.inside.Rows.{row_at}
use Rattle.rn_assemble.proofs.KeyFaults.KnownRows.{row_of}
use Rattle.rn_assemble.proofs.KeyFaults.PieceMethods.{count_mapped, part, piece_is}

-- ---- some pass where they are counted

module _ {X : Type 0} (test : X → Bool) where
  counted_more : (x : X) (xs : List X) (b : Bool) → test x ≡ b → count_by test (x ∷ xs) ≡ cond b 1 0 + count_by test xs
  counted_more x xs b e = sum_by-cons (λ y. cond {A = ℕ} (test y) 1 0) x xs ∙ ap (λ t. cond t 1 0 + count_by test xs) e

  any_counted_at : (x : X) (xs : List X) (b : Bool) → test x ≡ b → (list_any test xs ≡ true → 0 < count_by test xs) → (test x || list_any test xs) ≡ true → 0 < count_by test (x ∷ xs)
  any_counted_at x xs true e rest h = let more = counted_more x xs true e in omega (arith, more)
  any_counted_at x xs false e rest h =
      let more = counted_more x xs false e in
      let some = rest (sym (ap (λ t. t || list_any test xs) e) ∙ h) in
      omega (arith, more, some)

  pub any_counted : (xs : List X) → list_any test xs ≡ true → 0 < count_by test xs
  any_counted [] h = absurd (false≢true h)
  any_counted (x ∷ xs) h = any_counted_at x xs (test x) refl (any_counted xs) h

  counted_any_at : (x : X) (xs : List X) (b : Bool) → test x ≡ b → (0 < count_by test xs → list_any test xs ≡ true) → 0 < count_by test (x ∷ xs) → (test x || list_any test xs) ≡ true
  counted_any_at x xs true e rest l = ap (λ t. t || list_any test xs) e
  counted_any_at x xs false e rest l =
      let more = counted_more x xs false e in
      ap (λ t. t || list_any test xs) e ∙ rest (omega (arith, more, l))

  pub counted_any : (xs : List X) → 0 < count_by test xs → list_any test xs ≡ true
  counted_any [] l = absurd (omega (arith, l))
  counted_any (x ∷ xs) l = counted_any_at x xs (test x) refl (counted_any xs) l

-- n are found, of m that there are: all, or two of them
abbrev AreTwoOf : (n m : ℕ) → Type 0
AreTwoOf n m = (n ≤ m) × ((n ≡ m) ⊎ (n ≡ 2))

some_found : (n m : ℕ) → AreTwoOf n m → 0 < m → 0 < n
some_found n m h l = ⊎_elim (λ e. omega (arith, e, l)) (λ e. omega (arith, e)) h.1

-- two are found where there are two
pub two_found : (n m : ℕ) → AreTwoOf n m → 1 < m → 1 < n
two_found n m h l = ⊎_elim (λ e. omega (arith, e, l)) (λ e. omega (arith, e)) h.1

-- ---- of a key

module _ (modules : List NamedModule) (list : List Segment) (k : Key) (row : List code.WrittenComponent) (test : Method → Bool) where
  counted_in : (p : Piece) → IsPiece list row p → count_by (λ (c : Component). test c.method) (piece_components modules list k row p) ≡ count_in row test p
  counted_in p h = let r = piece_is modules list k row p h in ap (count_by (λ (c : Component). test c.method)) r.1 ∙ count_mapped (λ (c : Component). test c.method) (component_in modules k r.0) (part row p)

  counted_all : (ps : List Piece) → AllByRecursion (IsPiece list row) ps → count_by (λ (c : Component). test c.method) (flat_map (piece_components modules list k row) ps) ≡ sum_by (count_in row test) ps
  counted_all [] h = refl
  counted_all (p ∷ ps) h =
      sum_by-append (λ (c : Component). cond {A = ℕ} (test c.method) 1 0) (piece_components modules list k row p) (flat_map (piece_components modules list k row) ps)
      ∙ (λ i. counted_in p h.0 i + counted_all ps h.1 i)
      ∙ sym (sum_by-cons (count_in row test) p ps)

  -- as many components of the key pass as are found, or more, where two are
  pub counted : (cs : List Component) (ps : List Piece) (found : List Occurrence) → ArePieces modules list k row cs ps → AreFirstTwo row ps test found → AreTwoOf (length found) (count_by (λ (c : Component). test c.method) (of_key k cs))
  counted cs ps found are h =
      let all = ap (count_by (λ (c : Component). test c.method)) (sym are.are) ∙ counted_all ps are.each in
      (omega (arith, h.few, all), ⊎_elim (λ e. inl (e ∙ sym all)) inr h.enough)

-- the same, of the key of a number and the pieces that a slice holds
pub counted_live : (modules : List NamedModule) (names : List Text) (rows : KeyRows) (x : Segments) → AreExpanded modules names rows x → (n : ℕ) → n < length rows.rows.items → (row : List code.WrittenComponent) → row ≡ row_at rows.rows.items n
    → (slice pieces : List Piece) → slice ≡ pieces → OfRow row x (λ ms k cs. ArePieces ms x.list.items k row cs pieces) → (test : Method → Bool) (found : List Occurrence) → AreFirstTwo row slice test found
    → AreTwoOf (length found) (count_by (λ (c : Component). test c.method) (of_key (key_at names n) (set_components modules)))
counted_live modules names rows x expanded n l row e slice pieces same live test found h =
    let row_is = row_of modules names rows expanded.rows_are n l row e in
    counted modules x.list.items (key_at names n) row test (set_components modules) pieces found (live modules (key_at names n) (set_components modules) row_is expanded.segments_are)
    (subst (λ (ps : List Piece). AreFirstTwo row ps test found) same h)

-- both methods are used where components of both occur
pub mixed_counted : (k : Key) (cs : List Component) (a b : ℕ) → AreTwoOf a (count_by (λ (c : Component). is_choice c.method) (of_key k cs)) → AreTwoOf b (count_by (λ (c : Component). is_interleave c.method) (of_key k cs)) → 0 < a → 0 < b → IsMixed k cs
mixed_counted k cs a b e d l m = (λ i. counted_any (λ (c : Component). is_choice c.method) (of_key k cs) (omega (arith, e.0, l)) i && counted_any (λ (c : Component). is_interleave c.method) (of_key k cs) (omega (arith, d.0, m)) i)

pub counted_mixed : (k : Key) (cs : List Component) (a b : ℕ) → AreTwoOf a (count_by (λ (c : Component). is_choice c.method) (of_key k cs)) → AreTwoOf b (count_by (λ (c : Component). is_interleave c.method) (of_key k cs)) → IsMixed k cs → (0 < a) × (0 < b)
counted_mixed k cs a b e d h =
    let p = and_parts (uses is_choice k cs) (uses is_interleave k cs) h in
    let one = any_counted (λ (c : Component). is_choice c.method) (of_key k cs) p.0 in
    let other = any_counted (λ (c : Component). is_interleave c.method) (of_key k cs) p.1 in
    (some_found a _ e one, some_found b _ d other)
