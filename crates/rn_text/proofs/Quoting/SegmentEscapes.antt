-- The escapes of a segment are those that begin between its delimiters.
use Rattle.std.proofs.lemmas.Bool.Decides.{nat_tests}
use Rattle.std.proofs.Common.{◌≡◌, ℕ, true, false, cond, List, [], ◌∷◌, ◌++◌, drop, refl, sym, ap, ◌∙◌, subst, arith, append_assoc, append-nil, ⊎_elim, eq-eqb, ne_eqb}
use Rattle.std.specs.Prelude.{◌==◌, ◌&&◌, ◌↔◌, not}
use Rattle.std.proofs.lemmas.Bool.{cases_Bool, cond-true, cond-false, and_parts, and_from, false≢true, not-true}
use Rattle.std.specs.Char.{is_ascii_hexdigit}
use Rattle.std.specs.Str.Parse.{digits_value}
use Rattle.std.specs.List.{list_all}
use Rattle.rn_text.specs.Characters.{is_xml_char}
use Rattle.rn_text.specs.Segments.{is_empty, after_run, run_of, begins_with, is_x, is_delimiter, is_delimited, is_segment, opens_threefold, ends_at_three, escapes_hold, escape_front, after_brace, escaped_char, is_whole_escape, between_delimiters}
use Rattle.rn_text.specs.SegmentReading.{EscapesHold}
use Rattle.rn_text.proofs.Words.CharacterRuns.{all_pass}
use Rattle.rn_text.proofs.Words.EqualLists.{cons_rest}
use Rattle.rn_text.proofs.Words.TruthValues.{true_is_false}
use Rattle.rn_text.proofs.Cutting.NameTokens.{run_within, run_ends}
use Rattle.rn_text.proofs.Cutting.DelimitedFronts.{delimiter_at, three_by, closed_one, closed_three}
use Rattle.rn_text.proofs.Quoting.SegmentContents.{ends_with_one, ends_with_three, between_three, between_one, opened_three, begins_some, begins_front, run_some, digits_within, whole_within, within_brace}

-- ---- of the whole, and of what is between

hold_if : (d : ℕ) (cs : List ℕ) → escapes_hold d cs ≡ true → EscapesHold d cs
hold_if d [] h [] after split e = absurd (true_is_false (escape_front after) e (ap escape_front split))
hold_if d [] h (x ∷ xs) after split e = cc
hold_if d (c ∷ cs) h [] after split e =
    let here : escape_front (c ∷ cs) ≡ true = ap escape_front (sym split) ∙ e in
    let both = and_parts (is_whole_escape (c ∷ cs)) (not (escaped_char (c ∷ cs) == d)) (sym (cond-true _ _ _ here) ∙ (and_parts _ (escapes_hold d cs) h).0) in (
      ap is_whole_escape split ∙ both.0,
      λ is. true_is_false (escaped_char after == d) (eq-eqb (escaped_char after) d is) (ap (λ l. escaped_char l == d) split ∙ not-true (escaped_char (c ∷ cs) == d) both.1),
    )
hold_if d (c ∷ cs) h (x ∷ xs) after split e = hold_if d cs (and_parts _ (escapes_hold d cs) h).1 xs after (cons_rest split) e

hold_all : (d : ℕ) (cs : List ℕ) → EscapesHold d cs → escapes_hold d cs ≡ true
hold_all d [] h = refl
hold_all d (c ∷ cs) h = and_from (cond (escape_front (c ∷ cs)) (is_whole_escape (c ∷ cs) && not (escaped_char (c ∷ cs) == d)) true) (escapes_hold d cs)
    (⊎_elim
    (λ front. let here = h [] (c ∷ cs) refl front in
    cond-true _ _ _ front ∙ and_from (is_whole_escape (c ∷ cs)) (not (escaped_char (c ∷ cs) == d)) here.0 (ap not (ne_eqb (escaped_char (c ∷ cs)) d here.1)))
    (λ none. cond-false _ _ _ none)
    (cases_Bool (escape_front (c ∷ cs))))
    (hold_all d cs (λ front after split e. h (c ∷ front) after (ap (λ l. c ∷ l) split) e))

hold_behind : (d : ℕ) (front rest cs : List ℕ) → front ++ rest ≡ cs → EscapesHold d cs → EscapesHold d rest
hold_behind d front rest cs split h f after e = h (front ++ f) after (append_assoc front f after ∙ ap (λ l. front ++ l) e ∙ split)

-- ---- a whole escape, before a delimiter or anything else

char_within : (c : ℕ) (cs more : List ℕ) (q : ℕ) → is_delimiter q ≡ true → escape_front (c ∷ cs) ≡ true → is_whole_escape (c ∷ cs ++ q ∷ more) ≡ true → escaped_char (c ∷ cs ++ q ∷ more) ≡ escaped_char (c ∷ cs)
char_within c cs more q d e whole =
    let digits = after_brace (c ∷ cs) in
    let same = (within_brace c cs (q ∷ more) e).1 in
    let all = after_brace (c ∷ cs ++ q ∷ more) in
    let outer = and_parts (begins_with is_ascii_hexdigit all && begins_with (λ x. x == 125) (after_run is_ascii_hexdigit all)) (is_xml_char (digits_value 16 (run_of is_ascii_hexdigit all))) whole in
    let inner = and_parts (begins_with is_ascii_hexdigit all) (begins_with (λ x. x == 125) (after_run is_ascii_hexdigit all)) outer.0 in
    let h = digits_within digits more q d (ap (begins_with is_ascii_hexdigit) (sym same) ∙ inner.0) (ap (λ l. begins_with (λ x. x == 125) (after_run is_ascii_hexdigit l)) (sym same) ∙ inner.1) in
    ap (λ l. digits_value 16 (run_of is_ascii_hexdigit l)) same ∙ ap (digits_value 16) h.2

hold_before : (d : ℕ) (cs more : List ℕ) (q : ℕ) → is_delimiter q ≡ true → EscapesHold d (cs ++ q ∷ more) → EscapesHold d cs
hold_before d cs more q quote h front [] split e = absurd (false≢true e)
hold_before d cs more q quote h front (x ∷ xs) split e =
    let all = h front (x ∷ xs ++ q ∷ more) (sym (append_assoc front (x ∷ xs) (q ∷ more)) ∙ ap (λ l. l ++ q ∷ more) split) (within_brace x xs (q ∷ more) e).0 in
    (whole_within (x ∷ xs) more q quote e all.0, λ is. all.1 (char_within x xs more q quote e all.0 ∙ is))

whole_beyond : (c : ℕ) (cs more : List ℕ) → escape_front (c ∷ cs) ≡ true → is_whole_escape (c ∷ cs) ≡ true → (is_whole_escape (c ∷ cs ++ more) ≡ true) × (escaped_char (c ∷ cs ++ more) ≡ escaped_char (c ∷ cs))
whole_beyond c cs more e whole =
    let digits = after_brace (c ∷ cs) in
    let same = (within_brace c cs more e).1 in
    let outer = and_parts (begins_with is_ascii_hexdigit digits && begins_with (λ x. x == 125) (after_run is_ascii_hexdigit digits)) (is_xml_char (escaped_char (c ∷ cs))) whole in
    let inner = and_parts (begins_with is_ascii_hexdigit digits) (begins_with (λ x. x == 125) (after_run is_ascii_hexdigit digits)) outer.0 in
    let some = begins_some (λ x. x == 125) (after_run is_ascii_hexdigit digits) inner.1 in
    let run = run_within is_ascii_hexdigit digits more some in
    let char : escaped_char (c ∷ cs ++ more) ≡ escaped_char (c ∷ cs) = ap (λ l. digits_value 16 (run_of is_ascii_hexdigit l)) same ∙ ap (digits_value 16) run.0 in (
      and_from (begins_with is_ascii_hexdigit (after_brace (c ∷ cs ++ more)) && begins_with (λ x. x == 125) (after_run is_ascii_hexdigit (after_brace (c ∷ cs ++ more)))) (is_xml_char (escaped_char (c ∷ cs ++ more)))
          (and_from (begins_with is_ascii_hexdigit (after_brace (c ∷ cs ++ more))) (begins_with (λ x. x == 125) (after_run is_ascii_hexdigit (after_brace (c ∷ cs ++ more))))
          (ap (begins_with is_ascii_hexdigit) same ∙ begins_front is_ascii_hexdigit digits more (begins_some is_ascii_hexdigit digits inner.0) ∙ inner.0)
          (ap (λ l. begins_with (λ x. x == 125) (after_run is_ascii_hexdigit l)) same ∙ ap (begins_with (λ x. x == 125)) run.1 ∙ begins_front (λ x. x == 125) (after_run is_ascii_hexdigit digits) more some ∙ inner.1))
          (ap is_xml_char char ∙ outer.1),
      char,
    )

delimiter_is_none : (q : ℕ) → is_delimiter q ≡ true → ((q == 92) ≡ false) × (is_x q ≡ false) × ((q == 123) ≡ false)
delimiter_is_none q h1 = grind (arith, nat_tests)

-- the front of an escape ends before a delimiter
front_before : (c : ℕ) (cs qs : List ℕ) (q : ℕ) → is_delimiter q ≡ true → escape_front (c ∷ cs ++ q ∷ qs) ≡ true → escape_front (c ∷ cs) ≡ true
front_before c cs qs q quote e =
    let none = delimiter_is_none q quote in
    let all = cs ++ q ∷ qs in
    let outer = and_parts (c == 92 && begins_with is_x all) (begins_with (λ d. d == 123) (after_run is_x all)) e in
    let inner = and_parts (c == 92) (begins_with is_x all) outer.0 in
    ⊎_elim
    (λ ends. let stop = run_ends is_x cs q qs (sym (all_pass is_x cs) ∙ ends) none.1 in
    absurd (true_is_false (q == 123) (ap (begins_with (λ d. d == 123)) (sym stop.1) ∙ outer.1) none.2))
    (λ some. let run = run_within is_x cs (q ∷ qs) some in
    and_from (c == 92 && begins_with is_x cs) (begins_with (λ d. d == 123) (after_run is_x cs))
    (and_from (c == 92) (begins_with is_x cs) inner.0 (sym (begins_front is_x cs (q ∷ qs) (run_some is_x cs some)) ∙ inner.1))
    (sym (begins_front (λ d. d == 123) (after_run is_x cs) (q ∷ qs) some) ∙ ap (begins_with (λ d. d == 123)) (sym run.1) ∙ outer.1))
    (cases_Bool (is_empty (after_run is_x cs)))

-- ---- with delimiters before and behind

quote_hold : (d q : ℕ) (cs : List ℕ) → is_delimiter q ≡ true → EscapesHold d cs → EscapesHold d (q ∷ cs)
quote_hold d q cs quote h [] after split e =
    let no : escape_front (q ∷ cs) ≡ false = ap (λ b. b && begins_with is_x cs && begins_with (λ x. x == 123) (after_run is_x cs)) (delimiter_is_none q quote).0 in
    absurd (true_is_false (escape_front after) e (ap escape_front split ∙ no))
quote_hold d q cs quote h (x ∷ xs) after split e = h xs after (cons_rest split) e

quotes_hold : (d : ℕ) (qs cs : List ℕ) → list_all is_delimiter qs ≡ true → EscapesHold d cs → EscapesHold d (qs ++ cs)
quotes_hold d [] cs all h = h
quotes_hold d (q ∷ qs) cs all h = let both = and_parts (is_delimiter q) (list_all is_delimiter qs) all in quote_hold d q (qs ++ cs) both.0 (quotes_hold d qs cs both.1 h)

nothing_holds : (d : ℕ) → EscapesHold d []
nothing_holds d [] after split e = absurd (true_is_false (escape_front after) e (ap escape_front split))
nothing_holds d (x ∷ xs) after split e = cc

hold_quotes : (d : ℕ) (cs : List ℕ) (q : ℕ) (qs : List ℕ) → list_all is_delimiter (q ∷ qs) ≡ true → EscapesHold d cs → EscapesHold d (cs ++ q ∷ qs)
hold_quotes d [] q qs all h front after split e = subst (EscapesHold d) (append-nil (q ∷ qs)) (quotes_hold d (q ∷ qs) [] all (nothing_holds d)) front after split e
hold_quotes d (c ∷ cs) q qs all h [] after split e =
    let front = front_before c cs qs q (and_parts (is_delimiter q) (list_all is_delimiter qs) all).0 (ap escape_front (sym split) ∙ e) in
    let here = h [] (c ∷ cs) refl front in
    let beyond = whole_beyond c cs (q ∷ qs) front here.0 in
    (ap is_whole_escape split ∙ beyond.0, λ is. here.1 (sym beyond.1 ∙ ap escaped_char (sym split) ∙ is))
hold_quotes d (c ∷ cs) q qs all h (x ∷ xs) after split e = hold_quotes d cs q qs all (hold_behind d (c ∷ []) cs (c ∷ cs) refl h) xs after (cons_rest split) e

-- ---- the delimiters of a segment

record Delimited (d : ℕ) (cs : List ℕ) : Type 0 where
  opening : List ℕ
  content : List ℕ
  closing : List ℕ
  split : opening ++ (content ++ d ∷ closing) ≡ cs
  between : between_delimiters (d ∷ cs) ≡ content
  quote : is_delimiter d ≡ true
  opens : list_all is_delimiter opening ≡ true
  closes : list_all is_delimiter (d ∷ closing) ≡ true

parted : (d : ℕ) (cs : List ℕ) → is_delimited (d ∷ cs) ≡ true → Delimited d cs
parted d cs e =
    let q = delimiter_at d cs e in
    let one = and_from (is_delimiter d) true q refl in
    let two = and_from (is_delimiter d) (is_delimiter d && true) q one in
    ⊎_elim
    (λ t. let opened = opened_three d cs (three_by d cs e ∙ t) in
    let ends = ends_with_three d opened.0 (ap (λ l. ends_at_three d (drop 2 l)) (sym opened.1) ∙ closed_three d cs e t) in
    let is : cs ≡ d ∷ d ∷ (ends.0 ++ d ∷ d ∷ d ∷ []) = opened.1 ∙ ap (λ l. d ∷ d ∷ l) ends.1 in
    record {
      opening = d ∷ d ∷ [];
      content = ends.0;
      closing = d ∷ d ∷ [];
      split = sym is;
      between = ap (λ l. between_delimiters (d ∷ l)) is ∙ between_three d ends.0 q;
      quote = q;
      opens = two;
      closes = and_from (is_delimiter d) _ q two;
    })
    (λ f. let ends = ends_with_one d cs (closed_one d cs e f) in
    record {
      opening = [];
      content = ends.0;
      closing = [];
      split = sym ends.1;
      between = ap (λ l. between_delimiters (d ∷ l)) ends.1 ∙ between_one d ends.0 (ap (λ l. opens_threefold (d ∷ l)) (sym ends.1) ∙ f);
      quote = q;
      opens = refl;
      closes = one;
    })
    (cases_Bool (opens_threefold (d ∷ cs)))

held : (d : ℕ) (cs : List ℕ) → is_segment (d ∷ cs) ≡ true → (is_delimited (d ∷ cs) ≡ true) × EscapesHold d (between_delimiters (d ∷ cs))
held d cs e =
    let both = and_parts (is_delimited (d ∷ cs)) (escapes_hold d cs) e in
    let p = parted d cs both.0 in
    (both.0, subst (EscapesHold d) (sym p.between) (hold_before d p.content p.closing d p.quote (hold_behind d p.opening (p.content ++ d ∷ p.closing) cs p.split (hold_if d cs both.1))))

holds : (d : ℕ) (cs : List ℕ) → (is_delimited (d ∷ cs) ≡ true) × EscapesHold d (between_delimiters (d ∷ cs)) → is_segment (d ∷ cs) ≡ true
holds d cs h =
    let p = parted d cs h.0 in
    let content = hold_quotes d p.content d p.closing p.closes (subst (EscapesHold d) p.between h.1) in
    and_from (is_delimited (d ∷ cs)) (escapes_hold d cs) h.0 (hold_all d cs (subst (EscapesHold d) p.split (quotes_hold d p.opening (p.content ++ d ∷ p.closing) p.opens content)))

-- a segment is what is delimited and holds no wrong escape between the delimiters
pub segments_hold : (d : ℕ) (cs : List ℕ) → (is_segment (d ∷ cs) ≡ true) ↔ ((is_delimited (d ∷ cs) ≡ true) × EscapesHold d (between_delimiters (d ∷ cs)))
segments_hold d cs = (held d cs, holds d cs)
