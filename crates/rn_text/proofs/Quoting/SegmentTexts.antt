-- The tokens of a written literal read back to its text.
use Rattle.std.proofs.lemmas.Bool.Decides.{nat_tests}
use Rattle.std.proofs.Common.{◌≡◌, ℕ, ◌-◌, true, false, List, [], ◌∷◌, ◌++◌, length, take, refl, sym, ap, ◌∙◌, subst, arith, length-append, append_assoc, ⊎_elim, eqb-true, inl, inr}
use Rattle.std.specs.Prelude.{◌==◌}
use Rattle.std.specs.List.{flat_map, onto_first, AllByRecursion}
use Rattle.std.proofs.Math.Seq.{take-append_seam}
use Rattle.rn_text.proofs.Quoting.WrittenLiterals.{segments_apart, segments_joined, shape}
use Rattle.std.specs.Char.{is_ascii_hexdigit}
use Rattle.std.specs.Str.Parse.{digits_value}
use Rattle.std.proofs.lemmas.Bool.{cases_Bool, cond-false, and_left, and_right}
use Rattle.rn_text.specs.Segments.{segment_text, text_after, opens_threefold, escape_front, begins_with, is_x}
use Rattle.rn_text.specs.Literals.{are_parted, segments, written, delimiter_for, delimited}

-- no neighbours are parted
abbrev pub Together : List ℕ → Type 0
Together [] = Unit {0}
Together (c ∷ []) = Unit {0}
Together (c ∷ d ∷ cs) = (are_parted c d ≡ false) × Together (d ∷ cs)

-- a character that is written as itself
pub plain_written : (c : ℕ) → (c == 9) ≡ false → (c == 10) ≡ false → (c == 13) ≡ false → written c ≡ c ∷ []
plain_written c t f r = cond-false _ _ _ t ∙ (cond-false _ _ _ f ∙ cond-false _ _ _ r)

-- the first character as it is written is no x where the character is none
pub not_x : (d : ℕ) (rest : List ℕ) → (d == 120) ≡ false → begins_with is_x (written d ++ rest) ≡ false
not_x d rest h1 = grind (arith, nat_tests, plain_written)

-- an escape of one digit
pub escape_read : (digit : ℕ) (rest : List ℕ) → is_ascii_hexdigit digit ≡ true → text_after 0 (92 ∷ 120 ∷ 123 ∷ digit ∷ 125 ∷ rest) ≡ digits_value 16 (digit ∷ []) ∷ text_after 0 rest
escape_read digit rest h1 = grind (arith, nat_tests)

pub later : (c : ℕ) (ds : List ℕ) → Together (c ∷ ds) → Together ds
later c ds h1 = grind (arith, nat_tests)

-- a character of a segment begins no escape, and reads as itself
plain_front : (c : ℕ) (ds : List ℕ) → Together (c ∷ ds) → escape_front (c ∷ flat_map written ds) ≡ false
plain_front c ds h1 = grind (arith, nat_tests, not_x)

abbrev ReadsBack : List ℕ → ℕ → Type 0
ReadsBack rest c = text_after 0 (written c ++ rest) ≡ c ∷ text_after 0 rest

written_back : (c : ℕ) (rest : List ℕ) → escape_front (c ∷ rest) ≡ false → ReadsBack rest c
written_back c rest e = elim (cases_Bool (c == 9)) [
  | inl tab ↦ subst (ReadsBack rest) (sym (eqb-true c 9 tab)) (escape_read 57 rest refl)
  | inr no_tab ↦ elim (cases_Bool (c == 10)) [
    | inl feed ↦ subst (ReadsBack rest) (sym (eqb-true c 10 feed)) (escape_read 65 rest refl)
    | inr no_feed ↦ elim (cases_Bool (c == 13)) [
      | inl return ↦ subst (ReadsBack rest) (sym (eqb-true c 13 return)) (escape_read 68 rest refl)
      | inr plain ↦ ap (λ l. text_after 0 (l ++ rest)) (plain_written c no_tab no_feed plain) ∙ cond-false _ _ _ e ∙ cond-false _ _ _ plain
    ]
  ]
]

-- what is written for a segment reads as the segment
pub text_back : (cs : List ℕ) → Together cs → text_after 0 (flat_map written cs) ≡ cs
text_back [] t = refl
text_back (c ∷ cs) t = written_back c (flat_map written cs) (plain_front c cs t) ∙ ap (λ l. c ∷ l) (text_back cs (later c cs t))

-- a written character doesn't begin with its segment's delimiter
pub no_delimiter : (c : ℕ) (rest : List ℕ) → begins_with (λ e. e == delimiter_for c) (written c ++ rest) ≡ false
no_delimiter c rest = grind (arith, nat_tests, plain_written)

-- a written segment reads as the segment
pub delimited_text : (s : List ℕ) → Together s → segment_text (delimited s) ≡ s
delimited_text [] t = refl
delimited_text (c ∷ cs) t =
    let q = delimiter_for c in
    let inside = flat_map written (c ∷ cs) in
    let tail : inside ++ q ∷ [] ≡ written c ++ (flat_map written cs ++ q ∷ []) = append_assoc (written c) (flat_map written cs) (q ∷ []) in
    let simple : opens_threefold (delimited (c ∷ cs)) ≡ false = and_right _ _ (and_right _ _ (and_left _ _ (ap (begins_with (λ e. e == q)) tail ∙ no_delimiter c (flat_map written cs ++ q ∷ [])))) in
    let long : length (delimited (c ∷ cs)) - 2 ≡ length inside = omega (arith, length-append inside (q ∷ [])) in
    ap (text_after 0) (cond-false _ _ _ simple ∙ ap (λ n. take n (inside ++ q ∷ [])) long ∙ take-append_seam inside (q ∷ [])) ∙ text_back (c ∷ cs) t

-- no segment parts neighbours that stand in two
pub segments_together : (cs : List ℕ) → AllByRecursion Together (segments cs)
segments_together [] = tt
segments_together (c ∷ []) = (tt, tt)
segments_together (c ∷ d ∷ cs) = let next = shape d cs in let ih = segments_together (d ∷ cs) in ⊎_elim
    (λ parted. subst (AllByRecursion Together) (sym (segments_apart c d cs parted)) (tt, ih))
    (λ together. let there = subst (AllByRecursion Together) next.is ih in
    subst (AllByRecursion Together) (sym (segments_joined c d cs together ∙ ap (onto_first c) next.is)) ((together, there.0), there.1))
    (cases_Bool (are_parted c d))

-- the segments of a text are the text
pub segments_join : (cs : List ℕ) → flat_map (λ s. s) (segments cs) ≡ cs
segments_join [] = refl
segments_join (c ∷ []) = refl
segments_join (c ∷ d ∷ cs) = let next = shape d cs in let ih = segments_join (d ∷ cs) in ⊎_elim
    (λ parted. ap (flat_map (λ s. s)) (segments_apart c d cs parted) ∙ ap (λ l. c ∷ l) ih)
    (λ together. ap (flat_map (λ s. s)) (segments_joined c d cs together ∙ ap (onto_first c) next.is) ∙ ap (λ l. c ∷ l) (sym (ap (flat_map (λ s. s)) next.is) ∙ ih))
    (cases_Bool (are_parted c d))
