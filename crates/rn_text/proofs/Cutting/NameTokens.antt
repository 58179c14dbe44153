-- Tokens that begin with a name.
use Rattle.std.proofs.lemmas.Bool.Decides.{nat_tests}
use Rattle.std.proofs.Common.{◌≡◌, ℕ, ◌+◌, ◌-◌, ◌≤◌, Bool, true, false, List, [], ◌∷◌, ◌++◌, length, drop, refl, sym, ap, ◌∙◌, subst, arith, append_assoc, length-append, ⊎_elim, take}
use Rattle.std.specs.Prelude.{◌==◌, ◌&&◌, codes, Option, MatchOption, is_some}
use Rattle.std.specs.List.{list_all}
use Rattle.std.specs.Str.{bytes_eq, IsUtf8, IsCharBoundary, chars, encode_utf8_all}
use Rattle.std.proofs.lemmas.Str.{encodes_same, encodes-chars}
use Rattle.std.proofs.lemmas.Bool.{cond-true, cond-false, and_parts, and_from, or_from, or_left}
use Rattle.std.proofs.lemmas.Slice.Eq.{bytes_eq-Decides}
use Rattle.rn_text.specs.declared.parts.Part.{Part}
use Rattle.rn_text.specs.declared.parts.Part.TheVariants.{Space, Comment, Token}
use Rattle.rn_text.specs.declared.parts.Kind.{Kind}
use Rattle.rn_text.specs.declared.parts.Kind.TheVariants.{Name, Keyword, Quoted, Prefixed, AnyOf, Segment, Symbol}
use Rattle.rn_text.specs.Characters.{is_name_start, is_name_char, is_ncname}
use Rattle.rn_text.specs.Segments.{is_empty, after_run, run_of, begins_with, opens_threefold, escape_front}
use Rattle.rn_text.specs.Parts.{IsFirstPart, spells, is_prefixed}
use Rattle.rn_text.specs.inside.PartEnds.{IsNoPrefix, IsPrefixEnd}
use Rattle.rn_text.specs.Tokens.{BeginsNoPart}
use Rattle.rn_text.proofs.Words.CharacterRuns.{after_run_passes, after_run_stops, run_split, run_passes, cut_before}
use Rattle.rn_text.proofs.Cutting.FirstParts.{letter, backslash, none_of_class, class_of, class_letter, only_class, plain_start, run_longest, keyword_is_name, differs, first_at}
use Rattle.rn_text.proofs.Words.EqualLists.{cons_first, cons_rest}

-- a character that begins a name may stand in one
pub start_is_char : (c : ℕ) → is_name_start c ≡ true → is_name_char c ≡ true
unfolding is_name_char
start_is_char c e = or_left _ _ (or_left _ _ (or_left _ _ (or_left _ _ (or_left _ _ (or_left _ _ e)))))

-- a colon may not
pub colon_is_none : is_name_char 58 ≡ false
unfolding is_name_char is_name_start
colon_is_none = refl

-- each character of a name may stand in one
pub name_chars : (cs : List ℕ) → is_ncname cs ≡ true → list_all is_name_char cs ≡ true
name_chars cs h1 = grind (arith, nat_tests, start_is_char)

-- a run that stops within a front stops there in the text
pub run_within : (p : ℕ → Bool) (front after : List ℕ) → is_empty (after_run p front) ≡ false → (run_of p (front ++ after) ≡ run_of p front) × (after_run p (front ++ after) ≡ after_run p front ++ after)
run_within p [] after e = grind (arith, nat_tests)
run_within p (c ∷ cs) after e = grind (arith, nat_tests, after_run_passes, after_run_stops, run_within p cs after)

-- a list that begins with a colon
pub record Colon (cs : List ℕ) : Type 0 where
  pub behind : List ℕ
  pub is : cs ≡ 58 ∷ behind

pub colon_of : (cs : List ℕ) → begins_with (λ d. d == 58) cs ≡ true → Colon cs
colon_of cs h1 = grind (arith, nat_tests)

-- a prefixed front: what it says of the text
pub record Prefix (p : List ℕ → Bool) (text front after : List ℕ) : Type 0 where
  pub local : List ℕ
  pub passes : p local ≡ true
  pub long : length front ≡ length (run_of is_name_char text) + 1 + length local
  pub follows : after_run is_name_char text ≡ 58 ∷ (local ++ after)

pub prefix_of : (p : List ℕ → Bool) (text front after : List ℕ) → front ++ after ≡ text → is_prefixed p front ≡ true → Prefix p text front after
prefix_of p text front after split e =
    let outer = and_parts (is_ncname (run_of is_name_char front) && begins_with (λ d. d == 58) (after_run is_name_char front)) (p (drop 1 (after_run is_name_char front))) e in
    let inner = and_parts (is_ncname (run_of is_name_char front)) (begins_with (λ d. d == 58) (after_run is_name_char front)) outer.0 in
    let colon = colon_of (after_run is_name_char front) inner.1 in
    let within = run_within is_name_char front after (ap is_empty colon.is) in
    let whole : length front ≡ length (run_of is_name_char front) + length (after_run is_name_char front) = ap length (sym (run_split is_name_char front)) ∙ length-append (run_of is_name_char front) (after_run is_name_char front) in
    let same : length (run_of is_name_char text) ≡ length (run_of is_name_char front) = ap (λ t. length (run_of is_name_char t)) (sym split) ∙ ap length within.0 in
    record {
      local = colon.behind;
      passes = ap (λ l. p (drop 1 l)) (sym colon.is) ∙ outer.1;
      long = omega (arith, whole, same, ap length colon.is);
      follows = ap (after_run is_name_char) (sym split) ∙ within.1 ∙ ap (λ l. l ++ after) colon.is;
    }

-- a bound on each front that begins with a letter
letter_bound : (c : ℕ) (cs : List ℕ) (n : ℕ) → length (run_of is_name_char (c ∷ cs)) ≤ n
    → ((front after : List ℕ) → Prefix is_ncname (c ∷ cs) front after → length front ≤ n)
    → ((front after : List ℕ) → Prefix (bytes_eq (codes "*")) (c ∷ cs) front after → length front ≤ n)
    → (part : Part) (tail after : List ℕ) → class_of part ≡ letter → tail ++ after ≡ cs → spells part (c ∷ tail) ≡ true → length (c ∷ tail) ≤ n
letter_bound c cs n plain prefixed any Space tail after k split e = cc
letter_bound c cs n plain prefixed any Comment tail after k split e = cc
letter_bound c cs n plain prefixed any (Token Name) tail after k split e =
    let h = run_longest is_name_char (c ∷ tail) after (c ∷ cs) (ap (λ l. c ∷ l) split) (name_chars (c ∷ tail) (and_parts _ _ e).0) in omega arith
letter_bound c cs n plain prefixed any (Token Keyword) tail after k split e =
    let h = run_longest is_name_char (c ∷ tail) after (c ∷ cs) (ap (λ l. c ∷ l) split) (name_chars (c ∷ tail) (keyword_is_name (c ∷ tail) e)) in omega arith
letter_bound c cs n plain prefixed any (Token Quoted) tail after k split e = cc
letter_bound c cs n plain prefixed any (Token Prefixed) tail after k split e = prefixed (c ∷ tail) after (prefix_of is_ncname (c ∷ cs) (c ∷ tail) after (ap (λ l. c ∷ l) split) e)
letter_bound c cs n plain prefixed any (Token AnyOf) tail after k split e = any (c ∷ tail) after (prefix_of (bytes_eq (codes "*")) (c ∷ cs) (c ∷ tail) after (ap (λ l. c ∷ l) split) e)
letter_bound c cs n plain prefixed any (Token Segment) tail after k split e = cc
letter_bound c cs n plain prefixed any (Token Symbol) tail after k split e = cc

-- a text that begins with a letter begins with neither a quote nor a backslash
pub plain_letter : (c : ℕ) (cs : List ℕ) → is_name_start c ≡ true → (opens_threefold (c ∷ cs) ≡ true → ⊥) × (escape_front (c ∷ cs) ≡ false)
unfolding is_name_start
plain_letter c cs start = plain_start c cs (or_from _ _ (differs is_name_start c 34 start refl) (differs is_name_start c 39 start refl)) (differs is_name_start c 92 start refl)

-- a name or a keyword that is no prefix
pub name_first : (c : ℕ) (cs : List ℕ) (kind : Kind) → is_name_start c ≡ true → class_of (Token kind) ≡ letter → spells (Token kind) (run_of is_name_char (c ∷ cs)) ≡ true → IsNoPrefix (after_run is_name_char (c ∷ cs))
    → IsFirstPart (c ∷ cs) (Token kind) (run_of is_name_char (c ∷ cs)) (after_run is_name_char (c ∷ cs))
name_first c cs kind start k spelled no_prefix =
    let plain = plain_letter c cs start in
    record {
      begins = record { split = run_split is_name_char (c ∷ cs); spelled = spelled; threefold = λ e. absurd (plain.0 e); no_escape = plain.1 };
      longest = only_class letter c cs _ (class_letter c start)
          (letter_bound c cs _ (omega arith)
          (λ front after p. absurd (no_local p.local after p.follows p.passes))
          (λ front after p. absurd (no_star p.local after p.follows p.passes)));
    }
  where
    no_local : (local after : List ℕ) → after_run is_name_char (c ∷ cs) ≡ 58 ∷ (local ++ after) → is_ncname local ≡ true → ⊥
    no_local [] after follows e = cc
    no_local (x ∷ xs) after follows e = let h : true ≡ false = sym (and_parts _ _ e).0 ∙ (no_prefix x (xs ++ after) follows).1 in cc

    no_star : (local after : List ℕ) → after_run is_name_char (c ∷ cs) ≡ 58 ∷ (local ++ after) → bytes_eq (codes "*") local ≡ true → ⊥
    no_star local after follows e =
        let star : local ≡ 42 ∷ [] = sym ((bytes_eq-Decides (codes "*") local).0 e) in
        let h : true ≡ false = (no_prefix 42 after (follows ∙ ap (λ l. 58 ∷ (l ++ after)) star)).0 in cc

-- a run ends before a character that fails
pub run_ends : (p : ℕ → Bool) (xs : List ℕ) (y : ℕ) (ys : List ℕ) → list_all p xs ≡ true → p y ≡ false → (run_of p (xs ++ y ∷ ys) ≡ xs) × (after_run p (xs ++ y ∷ ys) ≡ y ∷ ys)
run_ends p [] y ys all e = (cond-false _ _ _ e, after_run_stops p y ys e)
run_ends p (x ∷ xs) y ys all e = grind (arith, nat_tests, after_run_passes, after_run_stops, run_ends p xs y ys)

-- the run of name characters in a text that begins with a letter is a name
pub run_is_name : (c : ℕ) (cs : List ℕ) → is_name_start c ≡ true → is_ncname (run_of is_name_char (c ∷ cs)) ≡ true
run_is_name c cs start = ap is_ncname (cond-true _ _ _ (start_is_char c start)) ∙ and_from _ _ start (run_passes is_name_char cs)

-- a name, a colon and what passes spell a token with a prefix
pub spells_prefixed : (p : List ℕ → Bool) (name local : List ℕ) → is_ncname name ≡ true → p local ≡ true → is_prefixed p (name ++ 58 ∷ local) ≡ true
spells_prefixed p name local h1 h2 = grind (arith, nat_tests, colon_is_none, name_chars, run_ends)

-- a token that begins with a letter and goes on behind a colon
prefix_first : (c : ℕ) (cs : List ℕ) (kind : Kind) (p : List ℕ → Bool) (local after : List ℕ) → is_name_start c ≡ true → class_of (Token kind) ≡ letter
    → spells (Token kind) (run_of is_name_char (c ∷ cs) ++ 58 ∷ local) ≡ true → after_run is_name_char (c ∷ cs) ≡ 58 ∷ (local ++ after)
    → ((other rest : List ℕ) → is_ncname other ≡ true → other ++ rest ≡ local ++ after → length other ≤ length local)
    → 1 ≤ length local
    → IsFirstPart (c ∷ cs) (Token kind) (run_of is_name_char (c ∷ cs) ++ 58 ∷ local) after
prefix_first c cs kind p local after start k spelled follows names_fit long =
    let plain = plain_letter c cs start in
    let name = run_of is_name_char (c ∷ cs) in
    let wide : length (name ++ 58 ∷ local) ≡ length name + length (58 ∷ local) = length-append name (58 ∷ local) in
    record {
      begins = record {
        split = append_assoc name (58 ∷ local) after ∙ ap (λ l. name ++ l) (sym follows) ∙ run_split is_name_char (c ∷ cs);
        spelled = spelled;
        threefold = λ e. absurd (plain.0 e);
        no_escape = plain.1;
      };
      longest = only_class letter c cs _ (class_letter c start)
          (letter_bound c cs _ (omega (arith, wide))
          (λ front rest q. let h = names_fit q.local rest q.passes (cons_rest (sym q.follows ∙ follows)) in omega (arith, wide, q.long, h))
          (λ front rest q. let one = ap length ((bytes_eq-Decides (codes "*") q.local).0 q.passes) in omega (arith, wide, q.long, one, long)));
    }

pub star_starts_none : is_name_start 42 ≡ false
unfolding is_name_start
star_starts_none = refl

pub any_first : (c : ℕ) (cs after : List ℕ) → is_name_start c ≡ true → after_run is_name_char (c ∷ cs) ≡ 58 ∷ 42 ∷ after
    → IsFirstPart (c ∷ cs) (Token AnyOf) (run_of is_name_char (c ∷ cs) ++ 58 ∷ 42 ∷ []) after
any_first c cs after start follows =
    prefix_first c cs AnyOf (bytes_eq (codes "*")) (42 ∷ []) after start refl (spells_prefixed (bytes_eq (codes "*")) (run_of is_name_char (c ∷ cs)) (42 ∷ []) (run_is_name c cs start) refl) follows no_name (omega arith)
  where
    no_name : (other rest : List ℕ) → is_ncname other ≡ true → other ++ rest ≡ 42 ∷ after → length other ≤ 1
    no_name [] rest e split = omega arith
    no_name (x ∷ xs) rest e split = let h : true ≡ false = sym (and_parts (is_name_start x) _ e).0 ∙ ap is_name_start (cons_first split) ∙ star_starts_none in cc

pub prefixed_first : (c : ℕ) (cs : List ℕ) (x : ℕ) (xs : List ℕ) → is_name_start c ≡ true → is_name_start x ≡ true → after_run is_name_char (c ∷ cs) ≡ 58 ∷ x ∷ xs
    → IsFirstPart (c ∷ cs) (Token Prefixed) (run_of is_name_char (c ∷ cs) ++ 58 ∷ x ∷ run_of is_name_char xs) (after_run is_name_char xs)
prefixed_first c cs x xs start local_start follows =
    prefix_first c cs Prefixed is_ncname (x ∷ run_of is_name_char xs) (after_run is_name_char xs) start refl
    (spells_prefixed is_ncname (run_of is_name_char (c ∷ cs)) (x ∷ run_of is_name_char xs) (run_is_name c cs start) (and_from _ _ local_start (run_passes is_name_char xs)))
    (follows ∙ ap (λ l. 58 ∷ x ∷ l) (sym (run_split is_name_char xs)))
    (λ other rest is_name split. let h = run_longest is_name_char other rest (x ∷ xs) (split ∙ ap (λ l. x ∷ l) (run_split is_name_char xs)) (name_chars other is_name) in
    let run : run_of is_name_char (x ∷ xs) ≡ x ∷ run_of is_name_char xs = cond-true _ _ _ (start_is_char x local_start) in omega (arith, h, ap length run))
    (omega arith)

-- what follows the name in a text, by what follows its first character
named_rest : (text cs rest : List ℕ) (c : ℕ) → is_name_start c ≡ true → text ≡ c ∷ cs → rest ≡ after_run is_name_char cs → after_run is_name_char text ≡ rest
named_rest text cs rest c start is e = ap (after_run is_name_char) is ∙ after_run_passes is_name_char c cs (start_is_char c start) ∙ sym e

-- where the name ends in the bytes
pub named_cut : (text after rest : List ℕ) (c : ℕ) → IsUtf8 text → IsUtf8 rest → is_name_start c ≡ true → chars text ≡ c ∷ chars after → chars rest ≡ after_run is_name_char (chars after)
    → (length rest ≤ length text) × IsCharBoundary text (length text - length rest) × (take (length text - length rest) text ≡ encode_utf8_all (run_of is_name_char (chars text)))
named_cut text after rest c t r start is e =
    cut_before text rest (run_of is_name_char (chars text)) t r (sym (run_split is_name_char (chars text)) ∙ ap (λ l. run_of is_name_char (chars text) ++ l) (named_rest (chars text) (chars after) (chars rest) c start is e))

pub named_word : (text after rest word : List ℕ) (c : ℕ) → IsUtf8 text → IsUtf8 rest → IsUtf8 word → is_name_start c ≡ true → chars text ≡ c ∷ chars after → chars rest ≡ after_run is_name_char (chars after)
    → word ≡ take (length text - length rest - 0) text → chars word ≡ run_of is_name_char (chars text)
named_word text after rest word c h1 h2 h3 h4 h5 h6 h7 = grind (arith, nat_tests, encodes-chars, encodes_same, named_cut)

pub named_plain : (text after rest : List ℕ) (c : ℕ) (kind : Kind) → is_name_start c ≡ true → chars text ≡ c ∷ chars after → chars rest ≡ after_run is_name_char (chars after)
    → class_of (Token kind) ≡ letter → spells (Token kind) (run_of is_name_char (chars text)) ≡ true → IsNoPrefix (chars rest) → (front : List ℕ) × IsFirstPart (chars text) (Token kind) front (chars rest)
named_plain text after rest c kind start is e k spelled no_prefix =
    let ends = named_rest (c ∷ chars after) (chars after) (chars rest) c start refl e in (
      run_of is_name_char (c ∷ chars after),
      subst (IsFirstPart (chars text) (Token kind) (run_of is_name_char (c ∷ chars after))) ends
          (first_at (chars text) (c ∷ chars after) (Token kind) _ _ is (name_first c (chars after) kind start k (ap (λ t. spells (Token kind) (run_of is_name_char t)) (sym is) ∙ spelled) (subst IsNoPrefix (sym ends) no_prefix))),
    )

pub named_prefix : (text after rest end : List ℕ) (c : ℕ) (kind : Kind) → is_name_start c ≡ true → chars text ≡ c ∷ chars after → chars rest ≡ after_run is_name_char (chars after)
    → IsPrefixEnd (chars rest) kind (chars end) → (front : List ℕ) × IsFirstPart (chars text) (Token kind) front (chars end)
named_prefix text after rest end c kind start is e (x, xs, follows, way) =
    let ends = named_rest (c ∷ chars after) (chars after) (chars rest) c start refl e ∙ follows in
    ⊎_elim
    (λ any. (
      run_of is_name_char (c ∷ chars after) ++ 58 ∷ 42 ∷ [],
      same_end kind AnyOf _ xs (chars end) any.0 any.2 (first_at (chars text) (c ∷ chars after) (Token AnyOf) _ _ is (any_first c (chars after) xs start (ends ∙ ap (λ y. 58 ∷ y ∷ xs) any.1))),
    ))
    (λ one. (
      run_of is_name_char (c ∷ chars after) ++ 58 ∷ x ∷ run_of is_name_char xs,
      same_end kind Prefixed _ (after_run is_name_char xs) (chars end) one.0 one.2 (first_at (chars text) (c ∷ chars after) (Token Prefixed) _ _ is (prefixed_first c (chars after) x xs start one.1 ends)),
    ))
    way
  where
    same_end : (k k' : Kind) (front a b : List ℕ) → k ≡ k' → b ≡ a → IsFirstPart (chars text) (Token k') front a → IsFirstPart (chars text) (Token k) front b
    same_end k k' front a b ek eb h = subst (λ t. IsFirstPart (chars text) (Token k) front t) (sym eb) (subst (λ q. IsFirstPart (chars text) (Token q) front a) (sym ek) h)

only_quoted : (part : Part) → class_of part ≡ backslash → part ≡ Token Quoted
only_quoted part h1 = grind (arith, nat_tests)

-- a name behind the backslash of a front
quoted_tail : (part : Part) (tail : List ℕ) → class_of part ≡ backslash → spells part (92 ∷ tail) ≡ true → is_ncname tail ≡ true
quoted_tail part tail k e = (and_parts (92 == 92) (is_ncname tail) (ap (λ p. spells p (92 ∷ tail)) (sym (only_quoted part k)) ∙ e)).1

pub no_escape_front : {T : Type 0} (r : Option T) (text : List ℕ) (B : T → Type 0) → MatchOption r (escape_front text ≡ false) B → is_some r ≡ false → escape_front text ≡ false
no_escape_front r text B h1 h2 = grind (arith, nat_tests)

-- nor at a backslash that no name follows
pub quoted_none : (cs : List ℕ) → begins_with is_name_start cs ≡ false → BeginsNoPart (92 ∷ cs)
quoted_none cs e = none_of_class backslash 92 cs refl (λ part tail after k split spelled. no_tail tail after split (quoted_tail part tail k spelled))
  where
    no_tail : (tail after : List ℕ) → tail ++ after ≡ cs → is_ncname tail ≡ true → ⊥
    no_tail [] after split h = cc
    no_tail (d ∷ ds) after split h = let no_start : true ≡ false = sym (and_parts _ _ h).0 ∙ ap (begins_with is_name_start) split ∙ e in cc

-- a name behind a backslash
pub quoted_first : (d : ℕ) (cs : List ℕ) → is_name_start d ≡ true → escape_front (92 ∷ d ∷ cs) ≡ false → IsFirstPart (92 ∷ d ∷ cs) (Token Quoted) (92 ∷ d ∷ run_of is_name_char cs) (after_run is_name_char cs)
quoted_first d cs start e =
    record {
      begins = record { split = ap (λ l. 92 ∷ d ∷ l) (run_split is_name_char cs); spelled = and_from (92 == 92) (is_ncname (d ∷ run_of is_name_char cs)) refl (and_from _ _ start (run_passes is_name_char cs)); threefold = λ h. cc; no_escape = e };
      longest = only_class backslash 92 (d ∷ cs) _ refl (λ part tail after k split spelled.
          let h = run_longest is_name_char tail after (d ∷ cs) split (name_chars tail (quoted_tail part tail k spelled)) in
          let run : run_of is_name_char (d ∷ cs) ≡ d ∷ run_of is_name_char cs = cond-true _ _ _ (start_is_char d start) in
          omega (arith, ap length run));
    }

pub quoted_at : (text cs rest end : List ℕ) (d : ℕ) → text ≡ 92 ∷ cs → cs ≡ d ∷ rest → is_name_start d ≡ true → escape_front text ≡ false → end ≡ after_run is_name_char rest → (front : List ℕ) × IsFirstPart text (Token Quoted) front end
quoted_at text cs rest end d is cs_is start e ends =
    let whole : text ≡ 92 ∷ d ∷ rest = is ∙ ap (λ l. 92 ∷ l) cs_is in
    (92 ∷ d ∷ run_of is_name_char rest, subst (IsFirstPart text (Token Quoted) (92 ∷ d ∷ run_of is_name_char rest)) (sym ends) (first_at text (92 ∷ d ∷ rest) (Token Quoted) _ _ whole (quoted_first d rest start (ap escape_front (sym whole) ∙ e))))
