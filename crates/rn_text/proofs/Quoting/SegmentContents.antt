-- What stands between the delimiters of a segment, and the text that it is.
use Rattle.std.proofs.lemmas.Bool.Decides.{nat_tests}
use Rattle.std.proofs.Common.{◌≡◌, ◌≢◌, ℕ, ◌-◌, ◌<◌, Bool, true, false, cond, List, [], ◌∷◌, ◌++◌, length, drop, take, refl, sym, ap, ◌∙◌, subst, arith, append_assoc, append-nil, length-append, ⊎_elim, eqb-true, eq-eqb, zero, suc, Some, None}
use Rattle.std.specs.Prelude.{◌==◌, ◌&&◌, Option, MatchOption, encode_utf8}
use Rattle.std.proofs.Math.Seq.{take-append_seam, drop-append_seam}
use Rattle.std.proofs.lemmas.Bool.{false_from_ne_true, cases_Bool, cond-true, cond-false, and_parts, and_from, and_right}
use Rattle.std.specs.Char.{is_ascii_hexdigit}
use Rattle.std.specs.Str.{encode_utf8_all}
use Rattle.std.specs.Str.Parse.{digits_value}
use Rattle.rn_text.specs.Characters.{is_xml_char}
use Rattle.rn_text.specs.Segments.{is_empty, after_run, run_of, begins_with, is_x, is_delimiter, is_delimited, is_segment, opens_threefold, three_of, ends_at_one, ends_at_three, escapes_hold, escape_front, after_brace, escaped_char, after_escape, is_whole_escape, between_delimiters, text_after, segment_text}
use Rattle.rn_text.specs.inside.Writing.{StandsFor}
use Rattle.rn_text.proofs.Words.CharacterRuns.{run_split, all_pass}
use Rattle.rn_text.proofs.Cutting.NameTokens.{run_within, run_ends}
use Rattle.rn_text.proofs.TokenLists.OneTokenList.{same_front}
use Rattle.rn_text.proofs.Cutting.DelimitedFronts.{delimiter_at, three_by, closed_one, closed_three}
use Rattle.rn_text.proofs.Words.EqualLists.{cons_rest, none_of}
use Rattle.rn_text.proofs.Words.TruthValues.{true_is_false}

-- ---- the delimiters

-- lists that are one with c behind are one
last_same : (xs ys : List ℕ) (c : ℕ) → xs ++ c ∷ [] ≡ ys ++ c ∷ [] → xs ≡ ys
last_same xs ys c e = (same_front xs ys (c ∷ []) (c ∷ []) e (omega (arith, ap length e, length-append xs (c ∷ []), length-append ys (c ∷ [])))).0

pub ends_with_one : (d : ℕ) (l : List ℕ) → ends_at_one d l ≡ true → (front : List ℕ) × (l ≡ front ++ d ∷ [])
ends_with_one d [] e = cc
ends_with_one d (c ∷ cs) e = ⊎_elim
    (λ here. ([], λ i. eqb-true c d here i ∷ none_of cs (sym (cond-true _ _ _ here) ∙ e) i))
    (λ on. let more = ends_with_one d cs (and_parts _ _ (sym (cond-false _ _ _ on) ∙ e)).1 in (c ∷ more.0, ap (λ l. c ∷ l) more.1))
    (cases_Bool (c == d))

three_is : (d : ℕ) (l : List ℕ) → three_of d l ≡ true → ends_at_three d l ≡ true → l ≡ d ∷ d ∷ d ∷ []
three_is d l h1 h2 = grind (arith, nat_tests, none_of)

pub ends_with_three : (d : ℕ) (l : List ℕ) → ends_at_three d l ≡ true → (front : List ℕ) × (l ≡ front ++ d ∷ d ∷ d ∷ [])
ends_with_three d [] e = cc
ends_with_three d (c ∷ cs) e = ⊎_elim
    (λ here. ([], three_is d (c ∷ cs) here e))
    (λ on. let more = ends_with_three d cs (sym (cond-false _ _ _ on) ∙ e) in (c ∷ more.0, ap (λ l. c ∷ l) more.1))
    (cases_Bool (three_of d (c ∷ cs)))

three_same : (d : ℕ) (cs : List ℕ) → three_of d (d ∷ d ∷ d ∷ cs) ≡ true
three_same d cs = let same : (d == d) ≡ true = eq-eqb d d refl in and_from (d == d) _ same (and_from (d == d) _ same same)

-- three on each side
pub between_three : (d : ℕ) (middle : List ℕ) → is_delimiter d ≡ true → between_delimiters (d ∷ d ∷ d ∷ (middle ++ d ∷ d ∷ d ∷ [])) ≡ middle
between_three d middle q =
    let inner = middle ++ d ∷ d ∷ d ∷ [] in
    let n : length (d ∷ d ∷ d ∷ inner) - 6 ≡ length middle = omega (arith, length-append middle (d ∷ d ∷ d ∷ [])) in
    cond-true _ _ _ (and_from (is_delimiter d) _ q (three_same d inner)) ∙ ap (λ k. take k inner) n ∙ take-append_seam middle (d ∷ d ∷ d ∷ [])

-- one on each side
pub between_one : (d : ℕ) (middle : List ℕ) → opens_threefold (d ∷ (middle ++ d ∷ [])) ≡ false → between_delimiters (d ∷ (middle ++ d ∷ [])) ≡ middle
between_one d middle simple =
    let inner = middle ++ d ∷ [] in
    let n : length (d ∷ inner) - 2 ≡ length middle = omega (arith, length-append middle (d ∷ [])) in
    cond-false _ _ _ simple ∙ ap (λ k. take k inner) n ∙ take-append_seam middle (d ∷ [])

-- three at the end, one by one
three_split : (front : List ℕ) (c : ℕ) → front ++ c ∷ c ∷ c ∷ [] ≡ ((front ++ c ∷ []) ++ c ∷ []) ++ c ∷ []
three_split front c = sym (append_assoc (front ++ c ∷ []) (c ∷ []) (c ∷ []) ∙ append_assoc front (c ∷ []) (c ∷ c ∷ []))

pub last_three : {T : Type 0} (now : T → List ℕ) (text one two : List ℕ) (c : ℕ) (r : Option T) → text ≡ one ++ c ∷ [] → one ≡ two ++ c ∷ []
    → MatchOption r ((front : List ℕ) → two ≢ front ++ c ∷ []) (λ x. two ≡ now x ++ c ∷ []) → MatchOption r ((front : List ℕ) → text ≢ front ++ c ∷ c ∷ c ∷ []) (λ x. text ≡ now x ++ c ∷ c ∷ c ∷ [])
last_three now text one two c None e f h = λ front is. h front (last_same two (front ++ c ∷ []) c (sym f ∙ last_same one ((front ++ c ∷ []) ++ c ∷ []) c (sym e ∙ is ∙ three_split front c)))
last_three now text one two c (Some x) e f h = e ∙ ap (λ l. l ++ c ∷ []) (f ∙ ap (λ l. l ++ c ∷ []) h) ∙ sym (three_split (now x) c)

pub found_three : {T : Type 0} (now : T → List ℕ) (d : ℕ) (text opened : List ℕ) (r : Option T) → is_delimiter d ≡ true → text ≡ d ∷ d ∷ d ∷ opened
    → MatchOption r ((front : List ℕ) → opened ≢ front ++ d ∷ d ∷ d ∷ []) (λ x. opened ≡ now x ++ d ∷ d ∷ d ∷ [])
    → MatchOption r (is_delimited text ≡ false) (λ x. now x ≡ between_delimiters text)
found_three now d text opened None q is h = ap is_delimited is ∙ false_from_ne_true (is_delimited (d ∷ d ∷ d ∷ opened))
    (λ e. let ends = ends_with_three d opened (closed_three d (d ∷ d ∷ opened) e (and_from (is_delimiter d) _ q (three_same d opened))) in h ends.0 ends.1)
found_three now d text opened (Some x) q is h = sym (ap between_delimiters (is ∙ ap (λ l. d ∷ d ∷ d ∷ l) h) ∙ between_three d (now x) q)

pub found_one : {T : Type 0} (now : T → List ℕ) (d : ℕ) (text opened : List ℕ) (r : Option T) → text ≡ d ∷ opened → three_of d text ≡ false
    → MatchOption r ((front : List ℕ) → opened ≢ front ++ d ∷ []) (λ x. opened ≡ now x ++ d ∷ [])
    → MatchOption r (is_delimited text ≡ false) (λ x. now x ≡ between_delimiters text)
found_one now d text opened None is single h = ap is_delimited is ∙ false_from_ne_true (is_delimited (d ∷ opened))
    (λ e. let ends = ends_with_one d opened (closed_one d opened e (and_right (is_delimiter d) _ (ap (three_of d) (sym is) ∙ single))) in h ends.0 ends.1)
found_one now d text opened (Some x) is single h = grind (arith, nat_tests, between_one)

pub three_none : (text : List ℕ) (c : ℕ) → ((front : List ℕ) → text ≢ front ++ c ∷ []) → (front : List ℕ) → text ≢ front ++ c ∷ c ∷ c ∷ []
three_none text c none front e = none ((front ++ c ∷ []) ++ c ∷ []) (e ∙ three_split front c)

pub three_none_behind : (text one : List ℕ) (c : ℕ) → text ≡ one ++ c ∷ [] → ((front : List ℕ) → one ≢ front ++ c ∷ []) → (front : List ℕ) → text ≢ front ++ c ∷ c ∷ c ∷ []
three_none_behind text one c is none front e = none (front ++ c ∷ []) (last_same one ((front ++ c ∷ []) ++ c ∷ []) c (sym is ∙ e ∙ three_split front c))

-- ---- the first character of a text

-- a list is what ends another
abbrev Ends : List ℕ → List ℕ → Type 0
Ends text rest = (front : List ℕ) × (front ++ rest ≡ text)

run_is_end : (p : ℕ → Bool) (text : List ℕ) → Ends text (after_run p text)
run_is_end p text = (run_of p text, run_split p text)

one_less : (text : List ℕ) → Ends text (drop 1 text)
one_less [] = ([], refl)
one_less (c ∷ cs) = (c ∷ [], refl)

then_ends : (text mid rest : List ℕ) → Ends text mid → Ends mid rest → Ends text rest
then_ends text mid rest (f, ef) (g, eg) = (f ++ g, append_assoc f g rest ∙ ap (λ l. f ++ l) eg ∙ ef)

escape_ends : (c : ℕ) (cs : List ℕ) → Ends cs (after_escape (c ∷ cs))
escape_ends c cs =
    let brace = after_run is_x cs in
    let digits = drop 1 brace in
    let end = after_run is_ascii_hexdigit digits in
    then_ends cs brace (drop 1 end) (run_is_end is_x cs) (then_ends brace digits (drop 1 end) (one_less brace) (then_ends digits end (drop 1 end) (run_is_end is_ascii_hexdigit digits) (one_less end)))

text_skip : (n : ℕ) (cs : List ℕ) → text_after n cs ≡ text_after 0 (drop n cs)
text_skip zero cs = refl
text_skip (suc n) [] = refl
text_skip (suc n) (c ∷ cs) = text_skip n cs

pub behind_escape : (c : ℕ) (cs : List ℕ) → text_after (length cs - length (after_escape (c ∷ cs))) cs ≡ text_after 0 (after_escape (c ∷ cs))
behind_escape c cs =
    let ends = escape_ends c cs in
    let n : length cs - length (after_escape (c ∷ cs)) ≡ length ends.0 = omega (arith, ap length ends.1, length-append ends.0 (after_escape (c ∷ cs))) in
    text_skip (length cs - length (after_escape (c ∷ cs))) cs ∙ ap (λ k. text_after 0 (drop k cs)) n ∙ ap (λ l. text_after 0 (drop (length ends.0) l)) (sym ends.1) ∙ ap (text_after 0) (drop-append_seam ends.0 (after_escape (c ∷ cs)))

-- an escape
pub escape_stands : (text : List ℕ) (c : ℕ) (rest : List ℕ) → escape_front text ≡ true → c ≡ escaped_char text → rest ≡ after_escape text → StandsFor text c rest
escape_stands [] c rest e is r = cc
escape_stands (x ∷ xs) c rest e is r =
    let ends = escape_ends x xs in
    record {
      front = x ∷ ends.0;
      split = ap (λ l. x ∷ (ends.0 ++ l)) r ∙ ap (λ l. x ∷ l) ends.1;
      some = omega arith;
      is = λ whole. cond-true _ _ _ e ∙ (λ i. sym is i ∷ (behind_escape x xs ∙ ap (text_after 0) (sym r)) i);
    }

-- a character that is itself
pub plain_stands : (text : List ℕ) (c : ℕ) (rest : List ℕ) → text ≡ c ∷ rest → (escape_front text ≡ true → is_whole_escape text ≡ false) → (c == 13) ≡ false → StandsFor text c rest
plain_stands text c rest is none other =
    record {
      front = c ∷ [];
      split = sym is;
      some = omega arith;
      is = λ whole. ap (text_after 0) is ∙ cond-false _ _ _ (ap escape_front (sym is) ∙ false_from_ne_true (escape_front text) (λ e. true_is_false (is_whole_escape text) (whole e) (none e))) ∙ cond-false _ _ _ other;
    }

-- a line end
pub pair_stands : (text after rest : List ℕ) → text ≡ 13 ∷ after → after ≡ 10 ∷ rest → StandsFor text 10 rest
pair_stands text after rest is feed =
    let whole : text ≡ 13 ∷ 10 ∷ rest = is ∙ ap (λ l. 13 ∷ l) feed in
    record { front = 13 ∷ 10 ∷ []; split = sym whole; some = omega arith; is = λ h. ap (text_after 0) whole }

pub return_stands : (text after : List ℕ) → text ≡ 13 ∷ after → begins_with (λ d. d == 10) after ≡ false → StandsFor text 10 after
return_stands text after is alone =
    record { front = 13 ∷ []; split = sym is; some = omega arith; is = λ h. ap (text_after 0) is ∙ ap (λ b. 10 ∷ text_after (cond b 1 0) after) alone }

-- ---- escapes

-- each escape that begins in the text is whole
abbrev pub EscapesWhole : List ℕ → Type 0
EscapesWhole cs = (front after : List ℕ) → front ++ after ≡ cs → escape_front after ≡ true → is_whole_escape after ≡ true

whole_if_hold : (d : ℕ) (cs : List ℕ) → escapes_hold d cs ≡ true → EscapesWhole cs
whole_if_hold d [] h [] after split e = let no : escape_front after ≡ false = ap escape_front split in absurd (true_is_false (escape_front after) e no)
whole_if_hold d [] h (x ∷ xs) after split e = cc
whole_if_hold d (c ∷ cs) h [] after split e =
    let here : escape_front (c ∷ cs) ≡ true = ap escape_front (sym split) ∙ e in
    let both = and_parts (is_whole_escape (c ∷ cs)) _ (sym (cond-true _ _ _ here) ∙ (and_parts _ (escapes_hold d cs) h).0) in
    ap is_whole_escape split ∙ both.0
whole_if_hold d (c ∷ cs) h (x ∷ xs) after split e = whole_if_hold d cs (and_parts _ (escapes_hold d cs) h).1 xs after (cons_rest split) e

pub whole_behind : (front rest cs : List ℕ) → front ++ rest ≡ cs → EscapesWhole cs → EscapesWhole rest
whole_behind front rest cs split whole f after e = whole (front ++ f) after (append_assoc front f after ∙ ap (λ l. front ++ l) e ∙ split)

pub begins_some : (p : ℕ → Bool) (l : List ℕ) → begins_with p l ≡ true → is_empty l ≡ false
begins_some p l h1 = grind (arith, nat_tests)

pub begins_front : (p : ℕ → Bool) (l more : List ℕ) → is_empty l ≡ false → begins_with p (l ++ more) ≡ begins_with p l
begins_front p l more h1 = grind (arith, nat_tests)

drop_one : (l more : List ℕ) → is_empty l ≡ false → drop 1 (l ++ more) ≡ drop 1 l ++ more
drop_one l more h1 = grind (arith, nat_tests)

pub run_some : (p : ℕ → Bool) (l : List ℕ) → is_empty (after_run p l) ≡ false → is_empty l ≡ false
run_some p l h1 = grind (arith, nat_tests)

-- what an escape at the front of a text is, it is where more follows
pub within_brace : (c : ℕ) (cs more : List ℕ) → escape_front (c ∷ cs) ≡ true → (escape_front (c ∷ cs ++ more) ≡ true) × (after_brace (c ∷ cs ++ more) ≡ after_brace (c ∷ cs) ++ more)
within_brace c cs more e =
    let outer = and_parts (c == 92 && begins_with is_x cs) (begins_with (λ d. d == 123) (after_run is_x cs)) e in
    let inner = and_parts (c == 92) (begins_with is_x cs) outer.0 in
    let some = begins_some (λ d. d == 123) (after_run is_x cs) outer.1 in
    let run = run_within is_x cs more some in (
      and_from (c == 92 && begins_with is_x (cs ++ more)) (begins_with (λ d. d == 123) (after_run is_x (cs ++ more)))
          (and_from (c == 92) (begins_with is_x (cs ++ more)) inner.0 (begins_front is_x cs more (begins_some is_x cs inner.1) ∙ inner.1))
          (ap (begins_with (λ d. d == 123)) run.1 ∙ begins_front (λ d. d == 123) (after_run is_x cs) more some ∙ outer.1),
      ap (drop 1) run.1 ∙ drop_one (after_run is_x cs) more some,
    )

delimiter_ends : (q : ℕ) → is_delimiter q ≡ true → (is_ascii_hexdigit q ≡ false) × ((q == 125) ≡ false)
delimiter_ends q h1 = grind (arith, nat_tests)

-- digits and a brace that come before a delimiter
pub digits_within : (digits more : List ℕ) (q : ℕ) → is_delimiter q ≡ true → begins_with is_ascii_hexdigit (digits ++ q ∷ more) ≡ true → begins_with (λ d. d == 125) (after_run is_ascii_hexdigit (digits ++ q ∷ more)) ≡ true
    → (begins_with is_ascii_hexdigit digits ≡ true) × (begins_with (λ d. d == 125) (after_run is_ascii_hexdigit digits) ≡ true) × (run_of is_ascii_hexdigit (digits ++ q ∷ more) ≡ run_of is_ascii_hexdigit digits)
digits_within digits more q d begins ends = ⊎_elim
    (λ none. let stop = run_ends is_ascii_hexdigit digits q more (sym (all_pass is_ascii_hexdigit digits) ∙ none) (delimiter_ends q d).0 in
    absurd (true_is_false (q == 125) (ap (begins_with (λ x. x == 125)) (sym stop.1) ∙ ends) (delimiter_ends q d).1))
    (λ some. let run = run_within is_ascii_hexdigit digits (q ∷ more) some in (
      sym (begins_front is_ascii_hexdigit digits (q ∷ more) (run_some is_ascii_hexdigit digits some)) ∙ begins,
      sym (begins_front (λ x. x == 125) (after_run is_ascii_hexdigit digits) (q ∷ more) some) ∙ sym (ap (begins_with (λ x. x == 125)) run.1) ∙ ends,
      run.0,
    ))
    (cases_Bool (is_empty (after_run is_ascii_hexdigit digits)))

pub whole_within : (cs more : List ℕ) (q : ℕ) → is_delimiter q ≡ true → escape_front cs ≡ true → is_whole_escape (cs ++ q ∷ more) ≡ true → is_whole_escape cs ≡ true
whole_within [] more q d e whole = cc
whole_within (c ∷ cs) more q d e whole =
    let digits = after_brace (c ∷ cs) in
    let same = (within_brace c cs (q ∷ more) e).1 in
    let all = after_brace (c ∷ cs ++ q ∷ more) in
    let outer = and_parts (begins_with is_ascii_hexdigit all && begins_with (λ x. x == 125) (after_run is_ascii_hexdigit all)) (is_xml_char (digits_value 16 (run_of is_ascii_hexdigit all))) whole in
    let inner = and_parts (begins_with is_ascii_hexdigit all) (begins_with (λ x. x == 125) (after_run is_ascii_hexdigit all)) outer.0 in
    let h = digits_within digits more q d (ap (begins_with is_ascii_hexdigit) (sym same) ∙ inner.0) (ap (λ l. begins_with (λ x. x == 125) (after_run is_ascii_hexdigit l)) (sym same) ∙ inner.1) in
    and_from (begins_with is_ascii_hexdigit digits && begins_with (λ x. x == 125) (after_run is_ascii_hexdigit digits)) (is_xml_char (digits_value 16 (run_of is_ascii_hexdigit digits)))
    (and_from (begins_with is_ascii_hexdigit digits) (begins_with (λ x. x == 125) (after_run is_ascii_hexdigit digits)) h.0 h.1)
    (ap (λ l. is_xml_char (digits_value 16 l)) (sym (ap (run_of is_ascii_hexdigit) same ∙ h.2)) ∙ outer.1)

-- without what follows the next delimiter
whole_before : (cs more : List ℕ) (q : ℕ) → is_delimiter q ≡ true → EscapesWhole (cs ++ q ∷ more) → EscapesWhole cs
whole_before cs more q h1 h2 = grind (arith, nat_tests, append_assoc, whole_within, within_brace)

pub opened_three : (d : ℕ) (cs : List ℕ) → three_of d (d ∷ cs) ≡ true → (more : List ℕ) × (cs ≡ d ∷ d ∷ more)
opened_three d cs h1 = grind (arith, nat_tests, true_is_false)

-- the escapes between the delimiters of a segment
pub segment_whole : (cs : List ℕ) → is_segment cs ≡ true → EscapesWhole (between_delimiters cs)
segment_whole [] e = cc
segment_whole (d ∷ cs) e =
    let both = and_parts (is_delimited (d ∷ cs)) (escapes_hold d cs) e in
    let q = delimiter_at d cs both.0 in
    let whole = whole_if_hold d cs both.1 in
    ⊎_elim
    (λ t. let opened = opened_three d cs (three_by d cs both.0 ∙ t) in
    let ends = ends_with_three d opened.0 (ap (λ l. ends_at_three d (drop 2 l)) (sym opened.1) ∙ closed_three d cs both.0 t) in
    let is : cs ≡ d ∷ d ∷ (ends.0 ++ d ∷ d ∷ d ∷ []) = opened.1 ∙ ap (λ l. d ∷ d ∷ l) ends.1 in
    subst EscapesWhole (sym (ap (λ l. between_delimiters (d ∷ l)) is ∙ between_three d ends.0 q))
    (whole_before ends.0 (d ∷ d ∷ []) d q (whole_behind (d ∷ d ∷ []) (ends.0 ++ d ∷ d ∷ d ∷ []) cs (sym is) whole)))
    (λ f. let ends = ends_with_one d cs (closed_one d cs both.0 f) in
    subst EscapesWhole (sym (ap (λ l. between_delimiters (d ∷ l)) ends.1 ∙ between_one d ends.0 (ap (λ l. opens_threefold (d ∷ l)) (sym ends.1) ∙ f)))
    (whole_before ends.0 [] d q (subst EscapesWhole ends.1 whole)))
    (cases_Bool (opens_threefold (d ∷ cs)))

-- ---- the loop over them

-- the text so far, and that of the rest
pub record ReadSoFar (segment rest out : List ℕ) : Type 0 where
  pub read : is_segment segment ≡ true → out ++ encode_utf8_all (text_after 0 rest) ≡ encode_utf8_all (segment_text segment)
  pub whole : is_segment segment ≡ true → EscapesWhole rest

pub read_start : (segment rest : List ℕ) → rest ≡ between_delimiters segment → ReadSoFar segment rest []
read_start segment rest is = record { read = λ e. ap (λ l. encode_utf8_all (text_after 0 l)) is; whole = λ e. subst EscapesWhole (sym is) (segment_whole segment e) }

pub read_more : (segment text rest out : List ℕ) (c : ℕ) → ReadSoFar segment text out → StandsFor text c rest → ReadSoFar segment rest (out ++ encode_utf8 c)
read_more segment text rest out c so_far stands =
    record {
      read = λ e. append_assoc out (encode_utf8 c) (encode_utf8_all (text_after 0 rest)) ∙ ap (λ l. out ++ encode_utf8_all l) (sym (stands.is (λ front. so_far.whole e [] text refl front))) ∙ so_far.read e;
      whole = λ e. whole_behind stands.front rest text stands.split (so_far.whole e);
    }

pub read_end : (segment rest out : List ℕ) → ReadSoFar segment rest out → rest ≡ [] → is_segment segment ≡ true → out ≡ encode_utf8_all (segment_text segment)
read_end segment rest out so_far none e = sym (append-nil out) ∙ ap (λ l. out ++ encode_utf8_all (text_after 0 l)) (sym none) ∙ so_far.read e

pub shorter : (text : List ℕ) (c : ℕ) (rest : List ℕ) → StandsFor text c rest → length rest < length text
shorter text c rest stands = let n = stands.some in omega (arith, ap length stands.split, length-append stands.front rest, n)
