-- The characters of a text with each line end as one line feed, step by step.
use Rattle.std.proofs.Common.{◌≡◌, ◌≢◌, ℕ, Bool, true, false, cond, List, [], ◌∷◌, ◌++◌, length, refl, sym, ap, ◌∙◌, subst, arith, ⊎_elim, append_assoc, append-nil}
use Rattle.std.specs.Prelude.{◌==◌, ◌&&◌}
use Rattle.std.specs.List.{list_all}
use Rattle.std.specs.Str.{IsUtf8, chars, encode_utf8_all}
use Rattle.std.proofs.lemmas.Str.{encodes-chars}
use Rattle.std.proofs.lemmas.Bool.{and_parts, cases_Bool, eqb-true, false≢true}
use Rattle.std.proofs.lemmas.Bool.Decides.{nat_tests}
use Rattle.rn_text.specs.Segments.{begins_with, after_run}
use Rattle.rn_text.specs.Texts.{is_white}
use Rattle.rn_text.proofs.Words.CharacterRuns.{after_run_passes, after_run_stops}
use Rattle.rn_xml.specs.XmlCharacters.{lines_of, MaySpace, IsSpace}
use Rattle.rn_xml.specs.XmlCharacters as x
use Rattle.rn_xml.specs.inside.Pieces.{normal, is_inner}

-- the first character, and the others
pub lines_step : (c : ℕ) (cs : List ℕ) → lines_of (c ∷ cs) ≡ normal c cs ++ lines_of cs
lines_step c cs = step (c == 13) (begins_with (λ d. d == 10) cs)
  where
    step : (a b : Bool) → cond a (cond b (lines_of cs) (10 ∷ lines_of cs)) (c ∷ lines_of cs) ≡ cond a (cond b [] (10 ∷ [])) (c ∷ []) ++ lines_of cs
    step true true = refl
    step true false = refl
    step false b = refl

-- what one character is: none, a line feed, or itself
pub normal_cases : (P : List ℕ → Type 0) (c : ℕ) (cs : List ℕ) → (c ≡ 13 → begins_with (λ d. d == 10) cs ≡ true → P []) → P (10 ∷ []) → P (c ∷ []) → P (normal c cs)
normal_cases P c cs pair lone itself = by_cases (c == 13) (begins_with (λ d. d == 10) cs) (λ r f. pair (eqb-true c 13 r) f)
  where
    by_cases : (a b : Bool) → (a ≡ true → b ≡ true → P []) → P (cond a (cond b [] (10 ∷ [])) (c ∷ []))
    by_cases true true p = p refl refl
    by_cases true false p = lone
    by_cases false b p = itself

pub normal_other : (c : ℕ) (cs : List ℕ) → c ≢ 13 → normal c cs ≡ c ∷ []
normal_other c cs other = grind (arith, nat_tests)

pub normal_lone : (c : ℕ) (cs : List ℕ) → c ≡ 13 → begins_with (λ d. d == 10) cs ≡ false → normal c cs ≡ 10 ∷ []
normal_lone c cs is lone = grind (arith, nat_tests)

-- a character of no line end is itself
pub inner_itself : (c : ℕ) (cs : List ℕ) → is_inner c ≡ true → lines_of (c ∷ cs) ≡ c ∷ lines_of cs
inner_itself c cs e = ap (λ b. cond b (cond (begins_with (λ d. d == 10) cs) (lines_of cs) (10 ∷ lines_of cs)) (c ∷ lines_of cs)) (other c e)
  where
    other : (c : ℕ) → is_inner c ≡ true → (c == 13) ≡ false
    other c e = grind (arith, nat_tests)

pub inner_black : (c : ℕ) → is_white c ≡ false → is_inner c ≡ true
inner_black c n = grind (arith, nat_tests)

pub inner_front : (front cs : List ℕ) → list_all is_inner front ≡ true → lines_of (front ++ cs) ≡ front ++ lines_of cs
inner_front [] cs e = refl
inner_front (c ∷ front) cs e = let both = and_parts _ _ e in inner_itself c (front ++ cs) both.0 ∙ ap (λ l. c ∷ l) (inner_front front cs both.1)

pub inner_lines : (cs : List ℕ) → list_all is_inner cs ≡ true → lines_of cs ≡ cs
inner_lines cs e = ap lines_of (sym (append-nil cs)) ∙ inner_front cs [] e ∙ append-nil cs

-- a front without line ends was there before
first_there : (e c : ℕ) (cs behind : List ℕ) → is_inner e ≡ true → lines_of (c ∷ cs) ≡ e ∷ behind → (c ≡ e) × (lines_of cs ≡ behind)
first_there e c cs behind i h = there (c == 13) (begins_with (λ d. d == 10) cs) refl refl h
  where
    not_feed : e ≡ 10 → ⊥
    not_feed h1 = grind (arith, nat_tests)

    feed_behind : (cs : List ℕ) → begins_with (λ d. d == 10) cs ≡ true → lines_of cs ≡ e ∷ behind → ⊥
    feed_behind [] b l = false≢true b
    feed_behind (d ∷ ds) b l = not_feed (ten d ds b l)
      where
        ten : (d : ℕ) (ds : List ℕ) → (d == 10) ≡ true → lines_of (d ∷ ds) ≡ e ∷ behind → e ≡ 10
        ten d ds b l = grind (arith, nat_tests)

    there : (a b : Bool) → (c == 13) ≡ a → begins_with (λ d. d == 10) cs ≡ b → cond a (cond b (lines_of cs) (10 ∷ lines_of cs)) (c ∷ lines_of cs) ≡ e ∷ behind → (c ≡ e) × (lines_of cs ≡ behind)
    there true true p q l = absurd (feed_behind cs q l)
    there true false p q l = absurd (not_feed (let f : 10 ≡ e = cc in sym f))
    there false b p q l = (cc, cc)

pub front_there : (end cs behind : List ℕ) → list_all is_inner end ≡ true → lines_of cs ≡ end ++ behind → (ds : List ℕ) × (cs ≡ end ++ ds)
front_there [] cs behind i h = (cs, refl)
front_there (e ∷ end) [] behind i h = let no : [] ≡ e ∷ (end ++ behind) = h in absurd (cc)
front_there (e ∷ end) (c ∷ cs) behind i h =
    let both = and_parts _ _ i in
    let first = first_there e c cs (end ++ behind) both.0 h in
    let rest = front_there end cs behind both.1 first.1 in
    (rest.0, ap (λ a. a ∷ cs) first.0 ∙ ap (λ l. e ∷ l) rest.1)

-- where characters have no such front, they have none with their line ends as line feeds
pub front_absent : (end cs : List ℕ) → list_all is_inner end ≡ true → ((behind : List ℕ) → cs ≢ end ++ behind) → (behind : List ℕ) → lines_of cs ≢ end ++ behind
front_absent end cs i none behind h = let there = front_there end cs behind i h in none there.0 there.1

-- a text with a character of no line end in it
pub lines_parted : (front : List ℕ) (c : ℕ) (cs : List ℕ) → is_inner c ≡ true → lines_of (front ++ c ∷ cs) ≡ lines_of front ++ c ∷ lines_of cs
lines_parted [] c cs i = inner_itself c cs i
lines_parted (d ∷ front) c cs i =
    lines_step d (front ++ c ∷ cs) ∙ ap (λ n. n ++ lines_of (front ++ c ∷ cs)) (same front) ∙ ap (λ l. normal d front ++ l) (lines_parted front c cs i)
    ∙ sym (append_assoc (normal d front) (lines_of front) (c ∷ lines_of cs)) ∙ ap (λ n. n ++ c ∷ lines_of cs) (sym (lines_step d front))
  where
    not_feed : (c == 10) ≡ false
    not_feed = grind (arith, nat_tests)

    same : (front : List ℕ) → normal d (front ++ c ∷ cs) ≡ normal d front
    same [] = ap (λ b. cond (d == 13) (cond b [] (10 ∷ [])) (d ∷ [])) not_feed
    same (e ∷ front) = refl

-- ---- white space

white_front : (front cs rest : List ℕ) → list_all is_white front ≡ true → MaySpace cs rest → MaySpace (front ++ cs) rest
white_front [] cs rest w s = s
white_front (c ∷ front) cs rest w s = let both = and_parts _ _ w in x.MaySpace.white both.0 (white_front front cs rest both.1 s)

normal_white : (c : ℕ) (cs : List ℕ) → is_white c ≡ true → list_all is_white (normal c cs) ≡ true
normal_white c cs w = normal_cases (λ l. list_all is_white l ≡ true) c cs (λ r b. refl) refl (ap (λ b. b && true) w)

white_step : (c : ℕ) (cs rest : List ℕ) → is_white c ≡ true → MaySpace (lines_of cs) rest → MaySpace (lines_of (c ∷ cs)) rest
white_step c cs rest w s = subst (λ l. MaySpace l rest) (sym (lines_step c cs)) (white_front (normal c cs) (lines_of cs) rest (normal_white c cs w) s)

pub space_lines : (cs : List ℕ) → MaySpace (lines_of cs) (lines_of (after_run is_white cs))
space_lines [] = x.MaySpace.none
space_lines (c ∷ cs) = ⊎_elim
    (λ w. subst (λ l. MaySpace (lines_of (c ∷ cs)) (lines_of l)) (sym (after_run_passes is_white c cs w)) (white_step c cs (lines_of (after_run is_white cs)) w (space_lines cs)))
    (λ n. subst (λ l. MaySpace (lines_of (c ∷ cs)) (lines_of l)) (sym (after_run_stops is_white c cs n)) x.MaySpace.none)
    (cases_Bool (is_white c))

pub some_space_lines : (cs : List ℕ) → begins_with is_white cs ≡ true → IsSpace (lines_of cs) (lines_of (after_run is_white cs))
some_space_lines [] w = absurd (false≢true w)
some_space_lines (c ∷ cs) w = subst (λ l. IsSpace (lines_of (c ∷ cs)) (lines_of l)) (sym (after_run_passes is_white c cs w)) (subst (λ l. IsSpace l rest) (sym (lines_step c cs)) (step (λ b. some_space_lines cs b)))
  where
    rest : List ℕ
    rest = lines_of (after_run is_white cs)

    feed_white : (cs : List ℕ) → begins_with (λ d. d == 10) cs ≡ true → begins_with is_white cs ≡ true
    feed_white [] b = b
    feed_white (d ∷ ds) b = grind (arith, nat_tests)

    step : (begins_with is_white cs ≡ true → IsSpace (lines_of cs) rest) → IsSpace (normal c cs ++ lines_of cs) rest
    step more = normal_cases (λ n. IsSpace (n ++ lines_of cs) rest) c cs (λ r b. more (feed_white cs b)) (x.IsSpace.white refl (space_lines cs)) (x.IsSpace.white w (space_lines cs))

-- a text with white space in front, by the length of what follows that
pub trimmed_space : (text rest : List ℕ) → IsUtf8 text → IsUtf8 rest → chars rest ≡ after_run is_white (chars text) → length rest ≢ length text → IsSpace (lines_of (chars text)) (lines_of (chars rest))
trimmed_space text rest t r run shorter = ⊎_elim
    (λ w. subst (λ l. IsSpace (lines_of (chars text)) (lines_of l)) (sym run) (some_space_lines (chars text) w))
    (λ n. absurd (shorter (ap length (sym (encodes-chars rest r) ∙ ap encode_utf8_all (run ∙ stays (chars text) n) ∙ encodes-chars text t))))
    (cases_Bool (begins_with is_white (chars text)))
  where
    stays : (cs : List ℕ) → begins_with is_white cs ≡ false → after_run is_white cs ≡ cs
    stays [] n = refl
    stays (c ∷ cs) n = after_run_stops is_white c cs n
