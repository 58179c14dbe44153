-- Segments at the front of a text.
use Rattle.std.proofs.lemmas.Bool.Decides.{nat_tests}
use Rattle.std.proofs.Common.{◌≡◌, ℕ, true, false, cond, List, [], ◌∷◌, ◌++◌, length, drop, sym, ap, ◌∙◌, subst, arith, ⊎_elim, ne_eqb, Some, None, Bool, refl, append_assoc, eq-eqb}
use Rattle.std.specs.Prelude.{◌==◌, ◌&&◌, not, Option, MatchOption}
use Rattle.std.proofs.lemmas.Bool.{cases_Bool, cond-true, cond-false, and_parts, and_left, and_from}
use Rattle.rn_text.specs.declared.parts.Part.{Part}
use Rattle.rn_text.specs.declared.parts.Part.TheVariants.{Token}
use Rattle.rn_text.specs.declared.parts.Kind.TheVariants.{Segment}
use Rattle.rn_text.specs.Segments.{is_delimiter, is_delimited, is_segment, opens_threefold, three_of, ends_at_one, ends_at_three, escapes_hold, escape_front, is_whole_escape, escaped_char, is_line_end}
use Rattle.rn_text.specs.Parts.{BeginsWith, IsFirstPart, spells}
use Rattle.rn_text.specs.inside.PartEnds.{IsDelimitedFront, IsNeverDelimited}
use Rattle.rn_text.specs.Tokens.{BeginsNoPart}
use Rattle.rn_text.proofs.Words.TruthValues.{same_test}
use Rattle.rn_text.proofs.Cutting.FirstParts.{quote, class_of, class_quote, front_of}
use Rattle.rn_text.proofs.TokenLists.OneTokenList.{same_front}
use Rattle.rn_text.proofs.Words.EqualLists.{cons_first, cons_rest, none_of}

-- a front of the text that the test passes goes over what was searched, and on into the rest
pub record Searched (test : List ℕ → Bool) (text rest : List ℕ) : Type 0 where
  pub front : List ℕ
  pub split : front ++ rest ≡ text
  pub through : (found after : List ℕ) → found ++ after ≡ text → test found ≡ true → (more : List ℕ) × (more ++ after ≡ rest) × (test more ≡ true)
  pub back : (more after : List ℕ) → more ++ after ≡ rest → test more ≡ true → test (front ++ more) ≡ true

pub search_start : (test : List ℕ → Bool) (text : List ℕ) → Searched test text text
search_start test text = record { front = []; split = refl; through = λ found after split e. (found, split, e); back = λ more after split e. e }

-- one more character is passed, which tells the test nothing
pub search_step : (test : List ℕ → Bool) (text : List ℕ) (c : ℕ) (cs : List ℕ) → test [] ≡ false → ((more after : List ℕ) → more ++ after ≡ cs → test (c ∷ more) ≡ test more)
    → Searched test text (c ∷ cs) → Searched test text cs
search_step test text c cs empty same s =
    record {
      front = s.front ++ c ∷ [];
      split = append_assoc s.front (c ∷ []) cs ∙ s.split;
      through = λ found after split e. let h = s.through found after split e in on h.0 after h.1 h.2;
      back = λ more after split e. ap test (append_assoc s.front (c ∷ []) more) ∙ s.back (c ∷ more) after (ap (λ l. c ∷ l) split) (same more after split ∙ e);
    }
  where
    on : (more after : List ℕ) → more ++ after ≡ c ∷ cs → test more ≡ true → (tail : List ℕ) × (tail ++ after ≡ cs) × (test tail ≡ true)
    on [] after split e = let h : false ≡ true = sym empty ∙ e in cc
    on (d ∷ ds) after split e =
        let first : d ≡ c = cc in
        let rest : ds ++ after ≡ cs = cc in
        (ds, rest, sym (same ds after rest) ∙ ap (λ x. test (x ∷ ds)) (sym first) ∙ e)

pub search_found : (test : List ℕ → Bool) (text rest more after : List ℕ) → Searched test text rest → more ++ after ≡ rest → test more ≡ true → (found : List ℕ) × (found ++ after ≡ text) × (test found ≡ true)
search_found test text rest more after s split e = (s.front ++ more, append_assoc s.front more after ∙ ap (λ l. s.front ++ l) split ∙ s.split, s.back more after split e)

pub search_none : (test : List ℕ → Bool) (text rest : List ℕ) → Searched test text rest → ((more after : List ℕ) → more ++ after ≡ rest → test more ≡ true → ⊥) → (found after : List ℕ) → found ++ after ≡ text → test found ≡ true → ⊥
search_none test text rest s none found after split e = let h = s.through found after split e in none h.0 after h.1 h.2

-- in an empty rest nothing is found
pub none_left : (test : List ℕ → Bool) (rest : List ℕ) → test [] ≡ false → rest ≡ [] → (more after : List ℕ) → more ++ after ≡ rest → test more ≡ true → ⊥
none_left test rest empty is [] after split e = let h : false ≡ true = sym empty ∙ e in cc
none_left test rest empty is (c ∷ cs) after split e = let h : c ∷ (cs ++ after) ≡ [] = split ∙ is in cc

-- the end of a simple segment: a character that is neither a delimiter nor a line end
pub one_step : (d c : ℕ) (more : List ℕ) → (c == d) ≡ false → is_line_end c ≡ false → ends_at_one d (c ∷ more) ≡ ends_at_one d more
one_step d c more other inside = cond-false _ _ _ other ∙ ap (λ b. not b && ends_at_one d more) inside

-- a line end
pub one_none : (d c : ℕ) (cs : List ℕ) → (c == d) ≡ false → is_line_end c ≡ true → (more after : List ℕ) → more ++ after ≡ c ∷ cs → ends_at_one d more ≡ true → ⊥
one_none d c cs other line [] after split e = cc
one_none d c cs other line (x ∷ xs) after split e = grind (arith, nat_tests)

-- the delimiter
pub one_here : (d c : ℕ) → c ≡ d → ends_at_one d (c ∷ []) ≡ true
one_here d c e = cond-true _ _ _ (eq-eqb c d e)

-- three of a character at a front are three at the text
pub three_grows : (d : ℕ) (more after : List ℕ) → three_of d more ≡ true → three_of d (more ++ after) ≡ true
three_grows d more after h1 = grind (arith, nat_tests)

pub three_step : (d c : ℕ) (cs more after : List ℕ) → three_of d (c ∷ cs) ≡ false → more ++ after ≡ cs → ends_at_three d (c ∷ more) ≡ ends_at_three d more
three_step d c cs more after h1 h2 = grind (arith, nat_tests, three_grows)

pub three_here : (d : ℕ) → ends_at_three d (d ∷ d ∷ d ∷ []) ≡ true
three_here d = let same : (d == d) ≡ true = eq-eqb d d refl in cond-true _ _ _ (and_from _ _ same (and_from _ _ same same))

-- fronts of one text that end at their first delimiter are as long
pub one_unique : (d : ℕ) (f g after rest : List ℕ) → f ++ after ≡ g ++ rest → ends_at_one d f ≡ true → ends_at_one d g ≡ true → length f ≡ length g
one_unique d [] g after rest split ef eg = cc
one_unique d (x ∷ xs) [] after rest split ef eg = cc
one_unique d (x ∷ xs) (y ∷ ys) after rest split ef eg = grind (arith, nat_tests, none_of, one_unique d xs ys after rest)

only_segment : (part : Part) → class_of part ≡ quote → part ≡ Token Segment
only_segment part h1 = grind (arith, nat_tests)

-- a text opens threefold if a front of it does
opens_grows : (front after : List ℕ) → opens_threefold front ≡ true → opens_threefold (front ++ after) ≡ true
opens_grows front after h1 = grind (arith, nat_tests, three_grows)

opens_alike : (text front after : List ℕ) → front ++ after ≡ text → (opens_threefold text ≡ true → opens_threefold front ≡ true) → opens_threefold front ≡ opens_threefold text
opens_alike text front after split h = same_test (opens_threefold front) (opens_threefold text) (λ e. ap opens_threefold (sym split) ∙ opens_grows front after e) h

-- of the fronts of a text that end at three delimiters, each begins with three where one does
three_shrinks : (d : ℕ) (front after : List ℕ) → three_of d (front ++ after) ≡ true → ends_at_three d front ≡ true → three_of d front ≡ true
three_shrinks d front after h1 h2 = grind (arith, nat_tests)

-- three characters and no more
only_three : (d : ℕ) (l : List ℕ) → three_of d l ≡ true → ends_at_three d l ≡ true → length l ≡ 3
only_three d l h1 h2 = grind (arith, nat_tests)

-- fronts of one text that end at their first three delimiters are as long
three_unique : (d : ℕ) (f g after rest : List ℕ) → f ++ after ≡ g ++ rest → ends_at_three d f ≡ true → ends_at_three d g ≡ true → length f ≡ length g
three_unique d [] g after rest split ef eg = cc
three_unique d (x ∷ xs) [] after rest split ef eg = cc
three_unique d (x ∷ xs) (y ∷ ys) after rest split ef eg = grind (arith, nat_tests, three_grows, three_shrinks, only_three, three_unique d xs ys after rest)

-- what closes a segment, by its form
module _ (d : ℕ) (cs : List ℕ) (is : is_delimited (d ∷ cs) ≡ true) where
  pub delimiter_at : is_delimiter d ≡ true
  delimiter_at = (and_parts (is_delimiter d) _ is).0

  pub three_by : three_of d (d ∷ cs) ≡ opens_threefold (d ∷ cs)
  three_by = sym (ap (λ b. b && three_of d (d ∷ cs)) delimiter_at)

  pub closed_three : opens_threefold (d ∷ cs) ≡ true → ends_at_three d (drop 2 cs) ≡ true
  closed_three t = sym (cond-true _ _ _ (three_by ∙ t)) ∙ (and_parts (is_delimiter d) _ is).1

  pub closed_one : opens_threefold (d ∷ cs) ≡ false → ends_at_one d cs ≡ true
  closed_one f = sym (cond-false _ _ _ (three_by ∙ f)) ∙ (and_parts (is_delimiter d) _ is).1

-- behind three characters
long_enough : (d : ℕ) (cs : List ℕ) → ends_at_three d (drop 2 cs) ≡ true → (x : ℕ) × (y : ℕ) × (more : List ℕ) × (cs ≡ x ∷ y ∷ more)
long_enough d cs h1 = grind (arith, nat_tests)

-- a text has one front between delimiters
pub one_delimited : (text f g a b : List ℕ) → IsDelimitedFront text f a → IsDelimitedFront text g b → length f ≡ length g
one_delimited text [] g a b x y = let h : false ≡ true = x.is in cc
one_delimited text (c ∷ cs) [] a b x y = let h : false ≡ true = y.is in cc
one_delimited text (c ∷ cs) (d ∷ ds) a b x y =
    let split : c ∷ cs ++ a ≡ d ∷ ds ++ b = x.split ∙ sym y.split in
    let heads : c ≡ d = cons_first split in
    let tails : cs ++ a ≡ ds ++ b = cons_rest split in
    ⊎_elim
    (λ t. let f3 = closed_three c cs x.is (opens_alike text (c ∷ cs) a x.split x.threefold ∙ t) in
    let g3 = ap (λ q. ends_at_three q (drop 2 ds)) heads ∙ closed_three d ds y.is (opens_alike text (d ∷ ds) b y.split y.threefold ∙ t) in
    let f2 = long_enough c cs f3 in
    let g2 = long_enough c ds g3 in
    let behind : f2.2 ++ a ≡ g2.2 ++ b = cons_rest (cons_rest (ap (λ l. l ++ a) (sym f2.3) ∙ tails ∙ ap (λ l. l ++ b) g2.3)) in
    let same = three_unique c f2.2 g2.2 a b behind (ap (λ l. ends_at_three c (drop 2 l)) (sym f2.3) ∙ f3) (ap (λ l. ends_at_three c (drop 2 l)) (sym g2.3) ∙ g3) in
    omega (arith, ap length f2.3, ap length g2.3))
    (λ f. let f1 = closed_one c cs x.is (opens_alike text (c ∷ cs) a x.split x.threefold ∙ f) in
    let g1 = ap (λ q. ends_at_one q ds) heads ∙ closed_one d ds y.is (opens_alike text (d ∷ ds) b y.split y.threefold ∙ f) in
    let same = one_unique c cs ds a b tails f1 g1 in
    omega arith)
    (cases_Bool (opens_threefold text))

-- a part that begins with a delimiter stands between delimiters
pub delimited_front : (text : List ℕ) (part : Part) (front after : List ℕ) → class_of part ≡ quote → BeginsWith text part front after → IsDelimitedFront text front after
delimited_front text part front after k begins = record { split = begins.split; is = go front (ap (λ p. spells p front) (sym (only_segment part k)) ∙ begins.spelled); threefold = begins.threefold }
  where
    go : (f : List ℕ) → is_segment f ≡ true → is_delimited f ≡ true
    go [] e = cc
    go (c ∷ cs) e = (and_parts (is_delimited (c ∷ cs)) _ e).0

-- behind three delimiters, what ends at the next three
three_front : (d : ℕ) (opened front after : List ℕ) → is_delimiter d ≡ true → front ++ after ≡ opened → ends_at_three d front ≡ true → IsDelimitedFront (d ∷ d ∷ d ∷ opened) (d ∷ d ∷ d ∷ front) after
three_front d opened front after h1 h2 h3 = grind (arith, nat_tests)

three_never : (d : ℕ) (opened : List ℕ) → is_delimiter d ≡ true → ((front after : List ℕ) → front ++ after ≡ opened → ends_at_three d front ≡ true → ⊥) → IsNeverDelimited (d ∷ d ∷ d ∷ opened)
three_never d opened h1 h2 = grind (arith, nat_tests, long_enough)

-- behind one delimiter, what ends at the next
one_front : (d : ℕ) (tail front after : List ℕ) → is_delimiter d ≡ true → three_of d (d ∷ tail) ≡ false → front ++ after ≡ tail → ends_at_one d front ≡ true → IsDelimitedFront (d ∷ tail) (d ∷ front) after
one_front d tail front after h1 h2 h3 h4 = grind (arith, nat_tests, three_grows)

one_never : (d : ℕ) (tail : List ℕ) → is_delimiter d ≡ true → three_of d (d ∷ tail) ≡ false → ((front after : List ℕ) → front ++ after ≡ tail → ends_at_one d front ≡ true → ⊥) → IsNeverDelimited (d ∷ tail)
one_never d tail h1 h2 h3 = grind (arith, nat_tests, opens_alike)

-- the front between delimiters that a search for their end found, or that there is none
pub delimited_three : {T : Type 0} (now : T → List ℕ) (d : ℕ) (text opened : List ℕ) (r : Option T) → is_delimiter d ≡ true → text ≡ d ∷ d ∷ d ∷ opened
    → MatchOption r ((front after : List ℕ) → front ++ after ≡ opened → ends_at_three d front ≡ true → ⊥) (λ x. (front : List ℕ) × (front ++ now x ≡ opened) × (ends_at_three d front ≡ true))
    → MatchOption r (IsNeverDelimited text) (λ x. (front : List ℕ) × IsDelimitedFront text front (now x))
delimited_three now d text opened None q is h = subst IsNeverDelimited (sym is) (three_never d opened q h)
delimited_three now d text opened (Some x) q is h = (d ∷ d ∷ d ∷ h.0, subst (λ t. IsDelimitedFront t (d ∷ d ∷ d ∷ h.0) (now x)) (sym is) (three_front d opened h.0 (now x) q h.1 h.2))

pub delimited_one : {T : Type 0} (now : T → List ℕ) (d : ℕ) (text tail : List ℕ) (r : Option T) → is_delimiter d ≡ true → text ≡ d ∷ tail → three_of d text ≡ false
    → MatchOption r ((front after : List ℕ) → front ++ after ≡ tail → ends_at_one d front ≡ true → ⊥) (λ x. (front : List ℕ) × (front ++ now x ≡ tail) × (ends_at_one d front ≡ true))
    → MatchOption r (IsNeverDelimited text) (λ x. (front : List ℕ) × IsDelimitedFront text front (now x))
delimited_one now d text tail None q is single h = subst IsNeverDelimited (sym is) (one_never d tail q (ap (three_of d) (sym is) ∙ single) h)
delimited_one now d text tail (Some x) q is single h = (d ∷ h.0, subst (λ t. IsDelimitedFront t (d ∷ h.0) (now x)) (sym is) (one_front d tail h.0 (now x) q (ap (three_of d) (sym is) ∙ single) h.1 h.2))

-- a part that begins where a delimiter stands begins with one
quote_part : (text : List ℕ) (d : ℕ) (cs : List ℕ) (part : Part) (front after : List ℕ) → text ≡ d ∷ cs → is_delimiter d ≡ true → BeginsWith text part front after → IsDelimitedFront text front after
quote_part text d cs part front after is q begins =
    let here = front_of d cs part front after (subst (λ t. BeginsWith t part front after) is begins) in
    delimited_front text part front after (sym here.same_class ∙ class_quote d q) begins

-- no delimiters close
pub never_segment : (text : List ℕ) (d : ℕ) (cs : List ℕ) → text ≡ d ∷ cs → is_delimiter d ≡ true → IsNeverDelimited text → BeginsNoPart text
never_segment text d cs is q never part front after begins = never front after (quote_part text d cs part front after is q begins)

-- a delimiter begins no escape
delimiter_plain : (d : ℕ) (cs : List ℕ) → is_delimiter d ≡ true → escape_front (d ∷ cs) ≡ false
delimiter_plain d cs q = and_left _ _ (and_left _ _ (ne_eqb d 92 (λ e. let h : true ≡ false = sym q ∙ ap is_delimiter e in cc)))

-- the escapes of a segment may be judged with its delimiters, since no escape begins in these
pub escapes_within : (d : ℕ) (cs : List ℕ) → is_delimiter d ≡ true → escapes_hold d (d ∷ cs) ≡ escapes_hold d cs
escapes_within d cs q = ap (λ b. cond b (is_whole_escape (d ∷ cs) && not (escaped_char (d ∷ cs) == d)) true && escapes_hold d cs) (delimiter_plain d cs q)

segment_escapes : (d : ℕ) (front : List ℕ) (cs after : List ℕ) → is_delimiter d ≡ true → front ++ after ≡ d ∷ cs → is_delimited front ≡ true → is_segment front ≡ escapes_hold d front
segment_escapes d front cs after h1 h2 h3 = grind (arith, nat_tests, escapes_within)

-- a segment whose escapes hold
pub segment_first : (text : List ℕ) (d : ℕ) (cs front after : List ℕ) → text ≡ d ∷ cs → is_delimiter d ≡ true → IsDelimitedFront text front after → escapes_hold d front ≡ true → IsFirstPart text (Token Segment) front after
segment_first text d cs front after is q x holds =
    record {
      begins = record { split = x.split; spelled = segment_escapes d front cs after q (x.split ∙ is) x.is ∙ holds; threefold = x.threefold; no_escape = ap escape_front is ∙ delimiter_plain d cs q };
      longest = λ part other rest begins. let same = one_delimited text other front rest after (quote_part text d cs part other rest is q begins) x in omega (arith, same);
    }

-- where they don't, there is none
pub no_segment : (text : List ℕ) (d : ℕ) (cs front after : List ℕ) → text ≡ d ∷ cs → is_delimiter d ≡ true → IsDelimitedFront text front after → escapes_hold d front ≡ false → BeginsNoPart text
no_segment text d cs front after is q x fails part other rest begins =
    let y = quote_part text d cs part other rest is q begins in
    let same = same_front other front rest after (y.split ∙ sym x.split) (one_delimited text other front rest after y x) in
    let spelled : is_segment other ≡ true = segment_spelled part other rest begins in
    let h : true ≡ false = sym spelled ∙ ap is_segment same.0 ∙ segment_escapes d front cs after q (x.split ∙ is) x.is ∙ fails in
    cc
  where
    segment_spelled : (part : Part) (other rest : List ℕ) → BeginsWith text part other rest → is_segment other ≡ true
    segment_spelled part other rest begins =
        let here = front_of d cs part other rest (subst (λ t. BeginsWith t part other rest) is begins) in
        ap (λ p. spells p other) (sym (only_segment part (sym here.same_class ∙ class_quote d q))) ∙ begins.spelled
