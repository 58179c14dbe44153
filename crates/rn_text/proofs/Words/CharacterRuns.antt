-- Texts as lists of characters.
use Rattle.std.proofs.lemmas.Bool.Decides.{nat_tests}
use Rattle.std.proofs.Common.{◌≡◌, ℕ, ◌+◌, ◌-◌, ◌<◌, ◌≤◌, Bool, true, false, cond, List, [], ◌∷◌, ◌++◌, length, drop, take, refl, sym, ap, ◌∙◌, subst, arith, ⊎_elim, append-nil, length-append, lit<, ne_eqb, ◌≢◌, Bor, Some, None}
use Rattle.std.specs.Prelude.{not, Option, MatchOption, IfSome, ◌==◌, ◌&&◌, encode_utf8, zero, suc}
use denote.Param.Members.{Mut}
use Rattle.std.specs.Fn.{AlwaysReturns, Called}
use Rattle.std.proofs.lemmas.List.Sorted.{answers_always}
use Rattle.std.proofs.Math.Seq.{take-append_seam, drop-append_seam}
use Rattle.std.specs.Char.{IsScalar, is_ascii}
use Rattle.std.specs.List.{list_all}
use Rattle.std.proofs.lemmas.Bool.{and_parts, cases_Bool}
use Rattle.std.specs.Str.{IsUtf8, IsAscii, chars, encode_utf8_all, all_scalars, IsCharBoundary}
use Rattle.std.specs.Str.Pattern.{IsTrimStartMatches, CutsPrefixes, FindsPrefixBy, FindsCharPrefix, FindsCharSuffix}
use Rattle.std.proofs.lemmas.Str.Pattern.{strip_prefix_char, strip_suffix_char}
use Rattle.std.proofs.lemmas.Str.{chars_past_char, IsUtf8-past_char, IsUtf8-take, chars-append, encodes-chars, encodes_same, scalars-chars, encodes-append, encode_ascii, chars-nil, chars-IsAscii, IsCharBoundary-at_seam, len_utf8_bounds}
use Rattle.rn_text.specs.Segments.{is_empty, after_run, run_of, begins_with}
use Rattle.rn_text.proofs.Words.EqualLists.{none_of}
use Rattle.rn_text.specs.inside.Ascii.{is_ascii_and}

-- a run and what follows it
pub run_split : (p : ℕ → Bool) (cs : List ℕ) → run_of p cs ++ after_run p cs ≡ cs
run_split p [] = refl
run_split p (c ∷ cs) = elim (p c) as (λ b. cond b (c ∷ run_of p cs) [] ++ cond b (after_run p cs) (c ∷ cs) ≡ c ∷ cs) [ true ↦ ap (λ l. c ∷ l) (run_split p cs) | false ↦ refl ]

-- the bytes of a text that is cut between characters
pub bytes_split : (text rest front : List ℕ) → IsUtf8 text → IsUtf8 rest → chars text ≡ front ++ chars rest → text ≡ encode_utf8_all front ++ rest
bytes_split text rest front t r e = sym (encodes-chars text t) ∙ ap encode_utf8_all e ∙ encodes-append front (chars rest) ∙ ap (λ l. encode_utf8_all front ++ l) (encodes-chars rest r)

-- a run goes on over a character that passes, and stops at one that doesn't
pub after_run_passes : (p : ℕ → Bool) (c : ℕ) (cs : List ℕ) → p c ≡ true → after_run p (c ∷ cs) ≡ after_run p cs
after_run_passes p c cs e = ap (λ b. cond b (after_run p cs) (c ∷ cs)) e

pub after_run_stops : (p : ℕ → Bool) (c : ℕ) (cs : List ℕ) → p c ≡ false → after_run p (c ∷ cs) ≡ c ∷ cs
after_run_stops p c cs e = ap (λ b. cond b (after_run p cs) (c ∷ cs)) e

-- the first of scalars
scalar_at : (c : ℕ) (cs : List ℕ) → all_scalars (c ∷ cs) ≡ true → IsScalar c
scalar_at c cs e = (and_parts _ _ e).0

module _ (R : List ℕ → Option ℕ → Type 0) (k : ℕ → Bool) (finds : (s : List ℕ) (o : Option ℕ) → R s o → FindsPrefixBy k s o) where
  cut_utf8 : (s : List ℕ) (ns : List ℕ) (r : List ℕ) → IsUtf8 s → CutsPrefixes R s ns r → IsUtf8 r × (after_run k (chars r) ≡ after_run k (chars s))
  cut_utf8 s [] r u e = (subst IsUtf8 (sym e) u, ap (λ x. after_run k (chars x)) e)
  cut_utf8 s (n ∷ ns) r u (m, before, found, is) =
      let ih = cut_utf8 s ns m u before in
      let passing = finds m (Some n) found in
      let here : m ≡ encode_utf8 passing.0 ++ r = passing.2.split ∙ ap (λ l. encode_utf8 passing.0 ++ l) (sym is) in (
        IsUtf8-past_char m r passing.0 ih.0 here,
        sym (ap (after_run k) (chars_past_char m r passing.0 ih.0 here) ∙ after_run_passes k passing.0 (chars r) passing.1) ∙ ih.1,
      )

  stops : (cs : List ℕ) (r : List ℕ) → IsUtf8 r → chars r ≡ cs → (o : Option ℕ) → R r o → IfSome o (λ n. n ≡ 0) → after_run k cs ≡ cs
  stops [] r u e o found z = refl
  stops (c ∷ cs) r u e None found z =
      after_run_stops k c cs (finds r None found c (encode_utf8_all cs) (scalar_at c cs (ap all_scalars (sym e) ∙ scalars-chars r u)) (sym (encodes-chars r u) ∙ ap encode_utf8_all e))
  stops (c ∷ cs) r u e (Some n) found z =
      let at = (finds r (Some n) found).2 in absurd (omega (arith, at.ends, z, (len_utf8_bounds (finds r (Some n) found).0).0))

  -- what `trim_start_matches` leaves is what follows the run of characters that pass
  pub trimmed : (s r : List ℕ) → IsUtf8 s → IsTrimStartMatches R s r → chars r ≡ after_run k (chars s)
  trimmed s r u (cut, done) =
      let h = cut_utf8 s cut.0 r u cut.1 in
      sym (stops (chars r) r h.0 refl done.0 done.1 done.2) ∙ h.1

-- a list that doesn't begin with c
not_first : (cs : List ℕ) (c : ℕ) → ((ds : List ℕ) → cs ≡ c ∷ ds → ⊥) → begins_with (λ d. d == c) cs ≡ false
not_first cs c h1 = grind (arith, nat_tests)

-- `strip_prefix` at an ASCII character, in characters
pub starts_char_chars : (bs : List ℕ) (c : ℕ) (r : Option (Bor (List ℕ))) → IsUtf8 bs → c < 128
    → MatchOption r (FindsCharPrefix c bs None) (λ x. (n : ℕ) × FindsCharPrefix c bs (Some n) × (x.now ≡ drop n bs) × (length x.now + n ≡ length bs))
    → MatchOption r (begins_with (λ d. d == c) (chars bs) ≡ false) (λ x. chars bs ≡ c ∷ chars x.now)
starts_char_chars bs c None u small h =
    let lacks : (rest : List ℕ) → bs ≢ c ∷ rest = strip_prefix_char c bs None h small in
    not_first (chars bs) c (λ cs e. lacks (encode_utf8_all cs) (sym (encodes-chars bs u) ∙ ap encode_utf8_all e ∙ ap (λ l. l ++ encode_utf8_all cs) (encode_ascii c small)))
starts_char_chars bs c (Some x) u small h = grind (arith, nat_tests, strip_prefix_char, chars_past_char, encode_ascii)

-- `strip_suffix` at an ASCII character, in characters
pub ends_char_chars : (bs : List ℕ) (c : ℕ) (r : Option (Bor (List ℕ))) → IsUtf8 bs → c < 128
    → MatchOption r (FindsCharSuffix c bs None) (λ x. (n : ℕ) × FindsCharSuffix c bs (Some n) × (x.now ≡ take (length bs - n) bs) × (length x.now + n ≡ length bs))
    → MatchOption r ((front : List ℕ) → chars bs ≢ front ++ c ∷ []) (λ x. chars bs ≡ chars x.now ++ c ∷ [])
ends_char_chars bs c None u small h = λ front e.
    let none : (f : List ℕ) → bs ≢ f ++ c ∷ [] = strip_suffix_char c bs None h small in
    none (encode_utf8_all front) (sym (encodes-chars bs u) ∙ ap encode_utf8_all e ∙ encodes-append front (c ∷ []) ∙ ap (λ l. encode_utf8_all front ++ l) (append-nil (encode_utf8 c) ∙ encode_ascii c small))
ends_char_chars bs c (Some x) u small h =
    let is : bs ≡ x.now ++ c ∷ [] = strip_suffix_char c bs (Some x) h small in
    let before : IsUtf8 x.now = subst IsUtf8 (sym h.2) (IsUtf8-take bs (length bs - h.0) u (subst (λ n. IsCharBoundary bs (length bs - n)) (sym h.1.0) h.1.2)) in
    ap chars is ∙ chars-append x.now (c ∷ []) before ∙ ap (λ l. chars x.now ++ l) (chars-IsAscii (c ∷ []) one)
  where
    one : IsAscii (c ∷ [])
    one zero = small
    one (suc i) = lit< tt

-- what `trim_start_matches` leaves where a closure tests the characters
pub trimmed_by : {F : Type 0} (g : Mut F (ℕ × Unit {0}) Bool) (f : F) (k : ℕ → Bool) → ((f : F) (a : ℕ × Unit {0}) (r : Bool) (h : F) → Called g f a r h → r ≡ k a.0)
    → (s r : List ℕ) → IsUtf8 s → IsTrimStartMatches (λ s o. (k : ℕ → Bool) → AlwaysReturns g (λ a r. r ≡ k a.0) f → FindsPrefixBy k s o) s r → chars r ≡ after_run k (chars s)
trimmed_by g f k answers s r u h = trimmed (λ s o. (k : ℕ → Bool) → AlwaysReturns g (λ a r. r ≡ k a.0) f → FindsPrefixBy k s o) k (λ s o found. found k (answers_always g (λ a r. r ≡ k a.0) f answers)) s r u h

-- a text is empty if its characters are
pub is_empty_chars : (bs : List ℕ) → IsUtf8 bs → (length bs == 0) ≡ is_empty (chars bs)
is_empty_chars [] u = sym (ap is_empty chars-nil)
is_empty_chars (b ∷ bs) u = ne_eqb (length (b ∷ bs)) 0 (λ e. absurd (omega arith)) ∙ sym (other (chars (b ∷ bs)) refl)
  where
    other : (cs : List ℕ) → chars (b ∷ bs) ≡ cs → is_empty cs ≡ false
    other [] e = let no : b ∷ bs ≡ [] = sym (encodes-chars (b ∷ bs) u) ∙ ap encode_utf8_all e in cc
    other (c ∷ cs) e = refl

-- all characters pass if nothing follows their run
pub all_pass : (p : ℕ → Bool) (cs : List ℕ) → is_empty (after_run p cs) ≡ list_all p cs
all_pass p [] = refl
all_pass p (c ∷ cs) = elim (p c) as (λ b. is_empty (cond b (after_run p cs) (c ∷ cs)) ≡ (b && list_all p cs)) [ true ↦ all_pass p cs | false ↦ refl ]

char_finds : (c : ℕ) (s : List ℕ) (o : Option ℕ) → FindsCharPrefix c s o → FindsPrefixBy (λ d. d == c) s o
char_finds c s o h1 = grind (arith, nat_tests)

-- what `trim_start_matches` leaves where the pattern is a character
pub trimmed_char : (c : ℕ) (s r : List ℕ) → IsUtf8 s → IsTrimStartMatches (FindsCharPrefix c) s r → chars r ≡ after_run (λ d. d == c) (chars s)
trimmed_char c s r u h = trimmed (FindsCharPrefix c) (λ d. d == c) (char_finds c) s r u h

-- where a text ends with another, it may be cut before that
pub cut_before : (text rest front : List ℕ) → IsUtf8 text → IsUtf8 rest → chars text ≡ front ++ chars rest
    → (length rest ≤ length text) × IsCharBoundary text (length text - length rest) × (take (length text - length rest) text ≡ encode_utf8_all front)
cut_before text rest front t r e =
    let split = bytes_split text rest front t r e in
    let lengths : length text ≡ length (encode_utf8_all front) + length rest = ap length split ∙ length-append (encode_utf8_all front) rest in
    let at : length text - length rest ≡ length (encode_utf8_all front) = omega arith in (
      omega arith,
      subst (IsCharBoundary text) (sym at) (IsCharBoundary-at_seam text (encode_utf8_all front) rest split r),
      ap (λ n. take n text) at ∙ ap (take (length (encode_utf8_all front))) split ∙ take-append_seam (encode_utf8_all front) rest,
    )

-- what is cut off before the end that is another text is the front
pub front_chars : (text rest word front : List ℕ) → IsUtf8 text → IsUtf8 rest → IsUtf8 word → chars text ≡ front ++ chars rest → word ≡ take (length text - length rest - 0) text → chars word ≡ front
front_chars text rest word front h1 h2 h3 h4 h5 = grind (arith, nat_tests, cut_before, encodes-chars, encodes_same)

-- each character of a run passes, and the one behind it doesn't
pub run_passes : (p : ℕ → Bool) (cs : List ℕ) → list_all p (run_of p cs) ≡ true
run_passes p [] = refl
run_passes p (c ∷ cs) = grind (arith, nat_tests, run_passes p cs)

pub stop_fails : (p : ℕ → Bool) (cs : List ℕ) (d : ℕ) (ds : List ℕ) → after_run p cs ≡ d ∷ ds → p d ≡ false
stop_fails p [] d ds e = cc
stop_fails p (c ∷ cs) d ds e = grind (arith, nat_tests, after_run_passes, after_run_stops, stop_fails p cs d ds)

-- ---- runs of ASCII characters, which are their bytes

ascii_small : (b : ℕ) → is_ascii b ≡ true → b < 128
ascii_small b e = grind (arith, nat_tests)

-- a run goes on behind its ASCII characters
pub ascii_run : (p : ℕ → Bool) (bs : List ℕ) → IsUtf8 bs → IsUtf8 (after_run (is_ascii_and p) bs) × (after_run p (chars (after_run (is_ascii_and p) bs)) ≡ after_run p (chars bs))
ascii_run p [] u = (u, refl)
ascii_run p (b ∷ bs) u = ⊎_elim
    (λ passes.
    let both = and_parts (is_ascii b) (p b) passes in
    let run = after_run_passes (is_ascii_and p) b bs passes in
    let here : b ∷ bs ≡ encode_utf8 b ++ bs = ap (λ l. l ++ bs) (sym (encode_ascii b (ascii_small b both.0))) in
    let more = ascii_run p bs (IsUtf8-past_char (b ∷ bs) bs b u here) in (
      subst IsUtf8 (sym run) more.0,
      ap (λ l. after_run p (chars l)) run ∙ more.1 ∙ sym (ap (after_run p) (chars_past_char (b ∷ bs) bs b u here) ∙ after_run_passes p b (chars bs) both.1),
    ))
    (λ stops. let run = after_run_stops (is_ascii_and p) b bs stops in (subst IsUtf8 (sym run) u, ap (λ l. after_run p (chars l)) run))
    (cases_Bool (is_ascii_and p b))

-- where the run of ASCII characters that pass ends before one of ASCII, or at the end, no character behind it passes
is_small : (a : Bool) → not a ≡ false → a ≡ true
is_small true e = refl
is_small false e = sym e

fails_small : (p : ℕ → Bool) (b : ℕ) → is_ascii_and p b ≡ false → is_ascii b ≡ true → p b ≡ false
fails_small p b stops small = ap (λ a. a && p b) (sym small) ∙ stops

pub ascii_end : (p : ℕ → Bool) (bs : List ℕ) → IsUtf8 bs → begins_with (λ b. not (is_ascii b)) (after_run (is_ascii_and p) bs) ≡ false → chars (after_run (is_ascii_and p) bs) ≡ after_run p (chars bs)
ascii_end p [] u e = chars-nil ∙ ap (after_run p) (sym chars-nil)
ascii_end p (b ∷ bs) u e = ⊎_elim
    (λ passes.
    let both = and_parts (is_ascii b) (p b) passes in
    let run = after_run_passes (is_ascii_and p) b bs passes in
    let here : b ∷ bs ≡ encode_utf8 b ++ bs = ap (λ l. l ++ bs) (sym (encode_ascii b (ascii_small b both.0))) in
    let more = ascii_end p bs (IsUtf8-past_char (b ∷ bs) bs b u here) (ap (begins_with (λ c. not (is_ascii c))) (sym run) ∙ e) in
    ap chars run ∙ more ∙ sym (ap (after_run p) (chars_past_char (b ∷ bs) bs b u here) ∙ after_run_passes p b (chars bs) both.1))
    (λ stops.
    let run = after_run_stops (is_ascii_and p) b bs stops in
    let small = is_small (is_ascii b) (ap (begins_with (λ c. not (is_ascii c))) (sym run) ∙ e) in
    let here : b ∷ bs ≡ encode_utf8 b ++ bs = ap (λ l. l ++ bs) (sym (encode_ascii b (ascii_small b small))) in
    ap chars run ∙ chars_past_char (b ∷ bs) bs b u here ∙ sym (ap (after_run p) (chars_past_char (b ∷ bs) bs b u here) ∙ after_run_stops p b (chars bs) (fails_small p b stops small)))
    (cases_Bool (is_ascii_and p b))

-- a text may be cut behind its run of ASCII characters that pass
pub ascii_cut : (p : ℕ → Bool) (bs rest : List ℕ) → IsUtf8 bs → rest ≡ after_run (is_ascii_and p) bs
    → (length rest ≤ length bs) × IsCharBoundary bs (length bs - length rest) × (drop (length bs - length rest) bs ≡ rest)
ascii_cut p bs rest u e =
    let run = run_of (is_ascii_and p) bs in
    let split : bs ≡ run ++ rest = sym (run_split (is_ascii_and p) bs) ∙ ap (λ l. run ++ l) (sym e) in
    let at : length bs - length rest ≡ length run = omega (arith, ap length split, length-append run rest) in (
      omega (arith, ap length split, length-append run rest),
      subst (IsCharBoundary bs) (sym at) (IsCharBoundary-at_seam bs run rest split (subst IsUtf8 (sym e) (ascii_run p bs u).0)),
      ap (λ n. drop n bs) at ∙ ap (drop (length run)) split ∙ drop-append_seam run rest,
    )

-- nothing follows the run in a text whose characters all are of ASCII and pass
pub ascii_all : (p : ℕ → Bool) (bs : List ℕ) → IsUtf8 bs → list_all (is_ascii_and p) bs ≡ true → chars [] ≡ after_run p (chars bs)
ascii_all p bs u all =
    let end : after_run (is_ascii_and p) bs ≡ [] = none_of _ (all_pass (is_ascii_and p) bs ∙ all) in
    chars-nil ∙ ap (after_run p) (sym chars-nil) ∙ ap (λ l. after_run p (chars l)) (sym end) ∙ (ascii_run p bs u).1
