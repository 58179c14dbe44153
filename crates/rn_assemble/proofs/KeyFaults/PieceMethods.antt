-- The methods of a key's components, as its pieces have them.
use Rattle.std.proofs.Common.{◌≡◌, ◌<◌, ⊎_elim, ℕ, ◌+◌, Bool, ◌||◌, cond, List, [], ◌∷◌, map, flat_map, refl, sym, ap, ◌∙◌, arith, rules, tests}
use Rattle.std.specs.Prelude.{IsTrue, count_by, nat_lt, slice_range, sum_by}
use Rattle.std.specs.List.{AllByRecursion, list_any}
use Rattle.std.specs.Option.{option_map_or}
use Rattle.std.proofs.lemmas.Bool.{cases_lt}
use Rattle.std.proofs.lemmas.List.Folds.{list_any-append}
use Rattle.std.proofs.lemmas.List.Sums.{sum_by-append, sum_by-cons}
use Rattle.std.proofs.lemmas.Option.{slice_get_cases}
use Rattle.rn_syntax.specs.declared.tree.Method.{Method}
use Rattle.rn_assemble.specs.Combine.{is_plain}
use Rattle.rn_assemble.specs.Components.{Component, Key, NamedModule}
use Rattle.rn_assemble.specs.declared.reading.key_rows.WrittenComponent as code
use Rattle.rn_assemble.specs.declared.including.pieces.Piece.{Piece}
use Rattle.rn_assemble.specs.declared.including.segments.Segment.{Segment}
use Rattle.rn_assemble.specs.inside.Pieces.{IsPiece, component_in, piece_components}

any_mapped : {X Y : Type 0} (test : Y → Bool) (f : X → Y) (xs : List X) → list_any test (map f xs) ≡ list_any (λ x. test (f x)) xs
any_mapped test f [] = refl
any_mapped test f (x ∷ xs) = ap (λ r. test (f x) || r) (any_mapped test f xs)

pub count_mapped : {X Y : Type 0} (test : Y → Bool) (f : X → Y) (xs : List X) → count_by test (map f xs) ≡ count_by (λ x. test (f x)) xs
count_mapped test f [] = refl
count_mapped test f (x ∷ xs) =
    sum_by-cons (λ y. cond {A = ℕ} (test y) 1 0) (f x) (map f xs)
    ∙ ap (λ r. cond (test (f x)) 1 0 + r) (count_mapped test f xs)
    ∙ sym (sum_by-cons (λ y. cond {A = ℕ} (test (f y)) 1 0) x xs)

-- the components of a row of which a piece consists
abbrev pub part : List code.WrittenComponent → Piece → List code.WrittenComponent
part row p = slice_range row p.from p.to

-- whether one of a piece's components passes a test of methods
abbrev pub piece_uses : (Method → Bool) → List code.WrittenComponent → Piece → Bool
piece_uses test row p = list_any (λ (w : code.WrittenComponent). test w.method) (part row p)

-- how many of them are plain
abbrev pub plain_in : List code.WrittenComponent → Piece → ℕ
plain_in row p = count_by (λ (w : code.WrittenComponent). is_plain w.method) (part row p)

module _ (modules : List NamedModule) (list : List Segment) (k : Key) (row : List code.WrittenComponent) where
  -- the components of a piece are those of its part of the row, in its segment
  pub piece_is : (p : Piece) → IsPiece list row p → (s : Segment) × (piece_components modules list k row p ≡ map (component_in modules k s) (part row p))
  piece_is p h =
      ⊎_elim (λ t. (t.0, ap (λ o. option_map_or (λ (s : Segment). map (component_in modules k s) (part row p)) o []) t.2))
      (λ t. absurd (omega (arith, t.0, h.segment_within)))
      (slice_get_cases list p.segment).1

  piece_used : (test : Method → Bool) (p : Piece) → IsPiece list row p → list_any (λ (c : Component). test c.method) (piece_components modules list k row p) ≡ piece_uses test row p
  piece_used test p h = let r = piece_is p h in ap (list_any (λ (c : Component). test c.method)) r.1 ∙ any_mapped (λ (c : Component). test c.method) (component_in modules k r.0) (part row p)

  piece_plain : (p : Piece) → IsPiece list row p → count_by (λ (c : Component). is_plain c.method) (piece_components modules list k row p) ≡ plain_in row p
  piece_plain p h = let r = piece_is p h in ap (count_by (λ (c : Component). is_plain c.method)) r.1 ∙ count_mapped (λ (c : Component). is_plain c.method) (component_in modules k r.0) (part row p)

  pub pieces_used : (test : Method → Bool) (ps : List Piece) → AllByRecursion (IsPiece list row) ps → list_any (λ (c : Component). test c.method) (flat_map (piece_components modules list k row) ps) ≡ list_any (piece_uses test row) ps
  pieces_used test [] h = refl
  pieces_used test (p ∷ ps) h =
      list_any-append (λ (c : Component). test c.method) (piece_components modules list k row p) (flat_map (piece_components modules list k row) ps)
      ∙ (λ i. piece_used test p h.0 i || pieces_used test ps h.1 i)

  pub pieces_plain : (ps : List Piece) → AllByRecursion (IsPiece list row) ps → count_by (λ (c : Component). is_plain c.method) (flat_map (piece_components modules list k row) ps) ≡ sum_by (plain_in row) ps
  pieces_plain [] h = refl
  pieces_plain (p ∷ ps) h =
      sum_by-append (λ (c : Component). cond {A = ℕ} (is_plain c.method) 1 0) (piece_components modules list k row p) (flat_map (piece_components modules list k row) ps)
      ∙ (λ i. piece_plain p h.0 i + pieces_plain ps h.1 i)
      ∙ sym (sum_by-cons (plain_in row) p ps)

-- a count that is right as far as 1, and beyond that no more than too low
pub twice_by : (count sum plain : ℕ) → plain ≡ sum → (count < 2 → count ≡ sum) → (1 < count → 1 < sum) → (IsTrue (nat_lt 1 count) → 1 < plain) × (1 < plain → IsTrue (nat_lt 1 count))
twice_by count sum plain e few more = ⊎_elim
    (λ l. let is = more l in ((λ _. omega (arith, e, is)), (λ _. search (rules, tests, l))))
    (λ l. let is = few (omega (arith, l)) in ((λ t. let m : 1 < count = search (rules, tests, t) in omega (arith, m, l)), (λ m. absurd (omega (arith, m, e, is, l)))))
    (cases_lt 1 count)
