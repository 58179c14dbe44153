-- The text of a segment is what its grammar reads, and nothing else is.
use Rattle.std.proofs.Common.{◌≡◌, ℕ, zero, suc, ◌<◌, ◌≤◌, Bool, true, false, cond, List, [], ◌∷◌, ◌++◌, length, drop, refl, sym, ap, ◌∙◌, subst, arith, append_assoc, length-append, ⊎_elim, eqb-true, ne_eqb}
use Rattle.std.specs.Prelude.{◌==◌, ◌&&◌, ◌↔◌}
use Rattle.std.proofs.lemmas.Bool.{cases_Bool, cond-true, cond-false, and_parts, and_from, false≢true}
use Rattle.std.specs.Char.{is_ascii_hexdigit}
use Rattle.std.specs.Str.Parse.{digits_value}
use Rattle.std.specs.List.{list_all}
use Rattle.rn_text.specs.Characters.{is_xml_char}
use Rattle.rn_text.specs.Segments.{after_run, run_of, begins_with, is_x, is_segment, escape_front, after_brace, escaped_char, after_escape, is_whole_escape, between_delimiters, text_after, segment_text}
use Rattle.rn_text.specs.SegmentReading as s
use Rattle.rn_text.specs.SegmentReading.{IsEscape, IsReadAs}
use Rattle.rn_text.proofs.Words.CharacterRuns.{run_split, run_passes}
use Rattle.rn_text.proofs.Cutting.NameTokens.{run_ends}
use Rattle.rn_text.proofs.Quoting.SegmentContents.{EscapesWhole, behind_escape, whole_behind, segment_whole}

-- ---- what is read is the text

-- an escape, its parts known
record Escaped (cs rest : List ℕ) (c : ℕ) : Type 0 where
  front : escape_front cs ≡ true
  char : escaped_char cs ≡ c
  behind : after_escape cs ≡ rest

escaped : (x : ℕ) (xs digits rest : List ℕ) → list_all is_x (x ∷ xs) ≡ true → list_all is_ascii_hexdigit digits ≡ true
    → Escaped (92 ∷ (x ∷ (xs ++ 123 ∷ (digits ++ 125 ∷ rest)))) rest (digits_value 16 digits)
escaped x xs digits rest all hex =
    let cs = 92 ∷ (x ∷ (xs ++ 123 ∷ (digits ++ 125 ∷ rest))) in
    let run = run_ends is_x (x ∷ xs) 123 (digits ++ 125 ∷ rest) all refl in
    let brace : after_brace cs ≡ digits ++ 125 ∷ rest = ap (drop 1) run.1 in
    let ends = run_ends is_ascii_hexdigit digits 125 rest hex refl in
    record {
      front = and_from (is_x x) _ (and_parts (is_x x) (list_all is_x xs) all).0 (ap (begins_with (λ d. d == 123)) run.1);
      char = ap (λ l. digits_value 16 (run_of is_ascii_hexdigit l)) brace ∙ ap (digits_value 16) ends.0;
      behind = ap (λ l. drop 1 (after_run is_ascii_hexdigit l)) brace ∙ ap (drop 1) ends.1;
    }

-- with what follows it
opened : (xs digits rest : List ℕ) → (92 ∷ (xs ++ 123 ∷ (digits ++ 125 ∷ []))) ++ rest ≡ 92 ∷ (xs ++ 123 ∷ (digits ++ 125 ∷ rest))
opened xs digits rest = ap (λ l. 92 ∷ l) (append_assoc xs (123 ∷ (digits ++ 125 ∷ [])) rest ∙ ap (λ l. xs ++ 123 ∷ l) (append_assoc digits (125 ∷ []) rest))

escape_read : (cs written rest : List ℕ) (c : ℕ) → cs ≡ written ++ rest → IsEscape written c → Escaped cs rest c
escape_read cs written rest c split e = go e.xs e.each_x e.some_x (split ∙ ap (λ l. l ++ rest) e.is ∙ opened e.xs e.digits rest)
  where
    go : (xs : List ℕ) → list_all is_x xs ≡ true → 0 < length xs → cs ≡ 92 ∷ (xs ++ 123 ∷ (e.digits ++ 125 ∷ rest)) → Escaped cs rest c
    go [] all some is = absurd (omega (arith, some))
    go (x ∷ xs) all some is = subst (λ l. Escaped l rest c) (sym is) (subst (Escaped _ rest) (sym e.value) (escaped x xs e.digits rest all e.hexadecimal))

escape_text : (cs rest text : List ℕ) (c : ℕ) → Escaped cs rest c → text_after 0 rest ≡ text → text_after 0 cs ≡ c ∷ text
escape_text [] rest text c e is = absurd (false≢true e.front)
escape_text (x ∷ xs) rest text c e is = cond-true _ _ _ e.front ∙ (λ i. e.char i ∷ (behind_escape x xs ∙ ap (text_after 0) e.behind ∙ is) i)

pub read_text : (cs text : List ℕ) → IsReadAs cs text → text_after 0 cs ≡ text
read_text cs text s.end = refl
read_text cs text (s.escape {written = written} {rest = rest} {text = more} {c = c} split e r) = escape_text cs rest more c (escape_read cs written rest c split e) (read_text rest more r)
read_text cs text (s.return_and_feed {rest = rest} {text = more} r) = ap (λ l. 10 ∷ l) (read_text rest more r)
read_text cs text (s.return {rest = rest} {text = more} alone r) = ap (λ b. 10 ∷ text_after (cond b 1 0) rest) alone ∙ ap (λ l. 10 ∷ l) (read_text rest more r)
read_text cs text (s.itself {c = c} {rest = rest} {text = more} other none r) = cond-false _ _ _ none ∙ cond-false _ _ _ (ne_eqb c 13 other) ∙ ap (λ l. c ∷ l) (read_text rest more r)

-- ---- the text is read

run_begins : (p q : ℕ → Bool) (cs : List ℕ) → begins_with p cs ≡ true → 0 < length (run_of p cs)
run_begins p q [] e = absurd (false≢true e)
run_begins p q (c ∷ cs) e = subst (λ l. 0 < length l) (sym (cond-true _ _ _ e)) (omega arith)

begun : (d : ℕ) (l : List ℕ) → begins_with (λ c. c == d) l ≡ true → l ≡ d ∷ drop 1 l
begun d [] e = absurd (false≢true e)
begun d (c ∷ cs) e = ap (λ x. x ∷ cs) (eqb-true c d e)

-- the escape at a front
record WholeFront (cs : List ℕ) : Type 0 where
  written : List ℕ
  split : cs ≡ written ++ after_escape cs
  escape : IsEscape written (escaped_char cs)
  some : 0 < length written

whole_front : (cs : List ℕ) → escape_front cs ≡ true → is_whole_escape cs ≡ true → WholeFront cs
whole_front [] e whole = absurd (false≢true e)
whole_front (c ∷ cs) e whole =
    let outer = and_parts (c == 92 && begins_with is_x cs) (begins_with (λ d. d == 123) (after_run is_x cs)) e in
    let inner = and_parts (c == 92) (begins_with is_x cs) outer.0 in
    let digits = after_brace (c ∷ cs) in
    let parts = and_parts (begins_with is_ascii_hexdigit digits && begins_with (λ d. d == 125) (after_run is_ascii_hexdigit digits)) (is_xml_char (escaped_char (c ∷ cs))) whole in
    let ends = and_parts (begins_with is_ascii_hexdigit digits) (begins_with (λ d. d == 125) (after_run is_ascii_hexdigit digits)) parts.0 in
    let xs = run_of is_x cs in
    let hex = run_of is_ascii_hexdigit digits in
    let brace : after_run is_x cs ≡ 123 ∷ digits = begun 123 (after_run is_x cs) outer.1 in
    let close : after_run is_ascii_hexdigit digits ≡ 125 ∷ after_escape (c ∷ cs) = begun 125 (after_run is_ascii_hexdigit digits) ends.1 in
    let behind : digits ≡ hex ++ 125 ∷ after_escape (c ∷ cs) = sym (run_split is_ascii_hexdigit digits) ∙ ap (λ l. hex ++ l) close in
    let all : cs ≡ xs ++ 123 ∷ (hex ++ 125 ∷ after_escape (c ∷ cs)) = sym (run_split is_x cs) ∙ ap (λ l. xs ++ l) (brace ∙ ap (λ l. 123 ∷ l) behind) in
    record {
      written = 92 ∷ (xs ++ 123 ∷ (hex ++ 125 ∷ []));
      split = (λ i. eqb-true c 92 inner.0 i ∷ all i) ∙ sym (opened xs hex (after_escape (c ∷ cs)));
      escape = record {
        xs = xs;
        digits = hex;
        is = refl;
        each_x = run_passes is_x cs;
        some_x = run_begins is_x is_x cs inner.1;
        hexadecimal = run_passes is_ascii_hexdigit digits;
        some_digit = run_begins is_ascii_hexdigit is_x digits ends.0;
        value = refl;
        xml = parts.1;
      };
      some = omega arith;
    }

-- a line end, where shorter texts are read
returned : (n c : ℕ) (rest : List ℕ) → c ≡ 13 → ((ds : List ℕ) → length ds ≤ n → EscapesWhole ds → IsReadAs ds (text_after 0 ds)) → length (c ∷ rest) ≤ suc n → EscapesWhole (c ∷ rest) → IsReadAs (c ∷ rest) (text_after 0 (c ∷ rest))
returned n c [] is again small whole = subst (λ x. IsReadAs (x ∷ []) (text_after 0 (x ∷ []))) (sym is) (s.return refl s.end)
returned n c (d ∷ ds) is again small whole = ⊎_elim
    (λ feed. subst (λ x. IsReadAs (x ∷ d ∷ ds) (text_after 0 (x ∷ d ∷ ds))) (sym is)
    (subst (λ y. IsReadAs (13 ∷ y ∷ ds) (text_after 0 (13 ∷ y ∷ ds))) (sym (eqb-true d 10 feed))
    (s.return_and_feed (again ds (omega (arith, small)) (whole_behind (c ∷ d ∷ []) ds (c ∷ d ∷ ds) refl whole)))))
    (λ other. subst (λ x. IsReadAs (x ∷ d ∷ ds) (text_after 0 (x ∷ d ∷ ds))) (sym is)
    (subst (IsReadAs (13 ∷ d ∷ ds)) (sym (ap (λ b. 10 ∷ text_after (cond b 1 0) (d ∷ ds)) other))
    (s.return other (again (d ∷ ds) (omega (arith, small)) (whole_behind (c ∷ []) (d ∷ ds) (c ∷ d ∷ ds) refl whole)))))
    (cases_Bool (d == 10))

-- a text of at most so many characters, in which each escape is whole
read_within : (n : ℕ) (cs : List ℕ) → length cs ≤ n → EscapesWhole cs → IsReadAs cs (text_after 0 cs)
read_within n [] small whole = s.end
read_within zero (c ∷ cs) small whole = absurd (omega (arith, small))
read_within (suc n) (c ∷ cs) small whole = ⊎_elim
    (λ front.
    let here = whole_front (c ∷ cs) front (whole [] (c ∷ cs) refl front) in
    let rest = after_escape (c ∷ cs) in
    let some = here.some in
    subst (IsReadAs (c ∷ cs)) (sym (cond-true _ _ _ front ∙ ap (λ l. escaped_char (c ∷ cs) ∷ l) (behind_escape c cs)))
    (s.escape here.split here.escape (read_within n rest (omega (arith, small, some, ap length here.split, length-append here.written rest)) (whole_behind here.written rest (c ∷ cs) (sym here.split) whole))))
    (λ none. ⊎_elim
    (λ return. returned n c cs (eqb-true c 13 return) (λ ds less hold. read_within n ds less hold) small whole)
    (λ other. subst (IsReadAs (c ∷ cs)) (sym (cond-false _ _ _ none ∙ cond-false _ _ _ other))
    (s.itself (λ e. false≢true (sym other ∙ ap (λ x. x == 13) e)) none (read_within n cs (omega (arith, small)) (whole_behind (c ∷ []) cs (c ∷ cs) refl whole))))
    (cases_Bool (c == 13)))
    (cases_Bool (escape_front (c ∷ cs)))

pub segments_are_read : (cs text : List ℕ) → is_segment cs ≡ true → IsReadAs (between_delimiters cs) text ↔ (text ≡ segment_text cs)
segments_are_read cs text segment = (
  (λ r. sym (read_text (between_delimiters cs) text r)),
  (λ e. subst (IsReadAs (between_delimiters cs)) (sym e) (read_within (length (between_delimiters cs)) (between_delimiters cs) (omega arith) (segment_whole cs segment))),
)
