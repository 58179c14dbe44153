-- A spelled token before a break is the first part.
pub use Rattle.rn_text.specs.Parts.{breaks, is_break}
use Rattle.std.proofs.lemmas.Bool.Decides.{nat_tests}
use Rattle.std.proofs.Common.{◌≡◌, ℕ, Bool, true, false, List, [], ◌∷◌, ◌++◌, length, refl, sym, ap, ◌∙◌, subst, arith, append_assoc, ⊎_elim, ne_eqb, eq-eqb, ◌+◌, append-nil, length-append, eqb-true}
use Rattle.std.specs.Prelude.{◌==◌, ◌&&◌, not, codes}
use Rattle.std.specs.List.{list_all, list_any}
use Rattle.std.proofs.lemmas.Bool.{cases_Bool, and_parts, and_from, and_right, not-true}
use Rattle.rn_text.specs.declared.parts.Part.{Part}
use Rattle.rn_text.specs.declared.parts.Part.TheVariants.{Token}
use Rattle.rn_text.specs.declared.parts.Kind.{Kind}
use Rattle.rn_text.specs.declared.parts.Kind.TheVariants.{Name, Keyword, Quoted, Prefixed, AnyOf, Segment, Symbol}
use Rattle.rn_text.specs.Characters.{is_name_start, is_name_char, is_ncname, is_keyword}
use Rattle.rn_text.specs.Segments.{after_run, begins_with, is_x, is_delimiter, is_delimited, is_segment, opens_threefold, escapes_hold, escape_front}
use Rattle.rn_text.specs.Parts.{IsFirstPart, spells, symbols, is_symbol, IsSpelled, is_prefixed, is_quoted, ends_token}
use Rattle.rn_text.specs.inside.PartEnds.{IsNoPrefix}
use Rattle.rn_text.proofs.Words.CharacterRuns.{after_run_passes, after_run_stops, run_split}
use Rattle.rn_text.proofs.Cutting.DelimitedFronts.{segment_first, delimiter_at, escapes_within}
use Rattle.rn_text.proofs.Cutting.FirstParts.{letter, class_of, one_of, symbol_first, symbol_short, single_symbol, pair_symbol, keyword_is_name}
use Rattle.rn_text.proofs.Cutting.NameTokens.{name_chars, run_ends, name_first, any_first, prefixed_first, quoted_first, colon_is_none, colon_of, spells_prefixed}
use Rattle.rn_text.proofs.Words.EqualLists.{cons_first}
use Rattle.rn_text.proofs.Words.TruthValues.{true_is_false}
use Rattle.std.specs.Str.{bytes_eq}
use Rattle.std.proofs.lemmas.Slice.Eq.{bytes_eq-Decides}
use Rattle.rn_text.proofs.Quoting.SegmentContents.{within_brace}

-- what each of the characters passes, passes one of them
one_char : (p : ℕ → Bool) (ds : List ℕ) (c : ℕ) → list_all p ds ≡ true → list_any (λ d. d == c) ds ≡ true → p c ≡ true
one_char p [] c all any = cc
one_char p (d ∷ ds) c all any = grind (arith, nat_tests, one_char p ds c)

break_no_name : (b : ℕ) → is_break b ≡ true → is_name_char b ≡ false
unfolding is_name_char is_name_start
break_no_name b e = not-true _ (one_char (λ c. not (is_name_char c)) breaks b refl e)

break_no_colon : (b : ℕ) → is_break b ≡ true → (b == 58) ≡ false
break_no_colon b e = not-true _ (one_char (λ c. not (c == 58)) breaks b refl e)

break_no_delimiter : (b : ℕ) → is_break b ≡ true → is_delimiter b ≡ false
break_no_delimiter b e = not-true _ (one_char (λ c. not (is_delimiter c)) breaks b refl e)

break_no_brace : (b : ℕ) → is_break b ≡ true → ((b == 123) ≡ false) × ((b == 120) ≡ false)
break_no_brace b e = (not-true _ (one_char (λ c. not (c == 123)) breaks b refl e), not-true _ (one_char (λ c. not (c == 120)) breaks b refl e))

moved : (text : List ℕ) (part : Part) (f g a b : List ℕ) → f ≡ g → a ≡ b → IsFirstPart text part f a → IsFirstPart text part g b
moved text part f g a b ef ea h = subst (λ x. IsFirstPart text part g x) ea (subst (λ x. IsFirstPart text part x a) ef h)

not_colon : (b : ℕ) (rest : List ℕ) → (b == 58) ≡ false → IsNoPrefix (b ∷ rest)
not_colon b rest e c cs split = let same : b ≡ 58 = cc in let h : true ≡ false = sym (eq-eqb b 58 same) ∙ e in cc

-- a name or a keyword
pub name_before : (k : Kind) (s : List ℕ) (b : ℕ) (rest : List ℕ) → class_of (Token k) ≡ letter → is_ncname s ≡ true → spells (Token k) s ≡ true → is_break b ≡ true → IsFirstPart (s ++ b ∷ rest) (Token k) s (b ∷ rest)
name_before k [] b rest letters name spelled e = cc
name_before k (c ∷ cs) b rest letters name spelled e =
    let ends = run_ends is_name_char (c ∷ cs) b rest (name_chars (c ∷ cs) name) (break_no_name b e) in
    moved _ _ _ _ _ _ ends.0 ends.1
    (name_first c (cs ++ b ∷ rest) k (and_parts _ _ name).0 letters (ap (spells (Token k)) ends.0 ∙ spelled) (subst IsNoPrefix (sym ends.1) (not_colon b rest (break_no_colon b e))))

-- a prefix, a colon and a name
pub prefixed_before : (p l : List ℕ) (b : ℕ) (rest : List ℕ) → is_ncname p ≡ true → is_ncname l ≡ true → is_break b ≡ true → IsFirstPart ((p ++ 58 ∷ l) ++ b ∷ rest) (Token Prefixed) (p ++ 58 ∷ l) (b ∷ rest)
prefixed_before [] l b rest np nl e = cc
prefixed_before (c ∷ cs) [] b rest np nl e = cc
prefixed_before (c ∷ cs) (x ∷ xs) b rest np nl e =
    let ends = run_ends is_name_char (c ∷ cs) 58 (x ∷ xs ++ b ∷ rest) (name_chars (c ∷ cs) np) colon_is_none in
    let local = run_ends is_name_char xs b rest (and_parts _ _ nl).1 (break_no_name b e) in
    let split : c ∷ cs ++ 58 ∷ x ∷ (xs ++ b ∷ rest) ≡ ((c ∷ cs) ++ 58 ∷ x ∷ xs) ++ b ∷ rest = sym (append_assoc (c ∷ cs) (58 ∷ x ∷ xs) (b ∷ rest)) in
    subst (λ t. IsFirstPart t (Token Prefixed) ((c ∷ cs) ++ 58 ∷ x ∷ xs) (b ∷ rest)) split
    (moved _ _ _ _ _ _ (λ i. ends.0 i ++ 58 ∷ x ∷ local.0 i) local.1 (prefixed_first c (cs ++ 58 ∷ x ∷ (xs ++ b ∷ rest)) x (xs ++ b ∷ rest) (and_parts _ _ np).0 (and_parts _ _ nl).0 ends.1))

-- a prefix, a colon and `*`, before anything
pub any_before : (p rest : List ℕ) → is_ncname p ≡ true → IsFirstPart ((p ++ 58 ∷ 42 ∷ []) ++ rest) (Token AnyOf) (p ++ 58 ∷ 42 ∷ []) rest
any_before [] rest np = cc
any_before (c ∷ cs) rest np =
    let ends = run_ends is_name_char (c ∷ cs) 58 (42 ∷ rest) (name_chars (c ∷ cs) np) colon_is_none in
    subst (λ t. IsFirstPart t (Token AnyOf) ((c ∷ cs) ++ 58 ∷ 42 ∷ []) rest) (sym (append_assoc (c ∷ cs) (58 ∷ 42 ∷ []) rest))
    (moved _ _ _ _ _ _ (λ i. ends.0 i ++ 58 ∷ 42 ∷ []) refl (any_first c (cs ++ 58 ∷ 42 ∷ rest) rest (and_parts _ _ np).0 ends.1))

brace : true ≡ is_name_char 123 → ⊥
unfolding is_name_char is_name_start
brace h = cc

-- no brace follows the x in a name
no_brace : (s : List ℕ) (b : ℕ) (rest : List ℕ) → list_all is_name_char s ≡ true → is_break b ≡ true → begins_with (λ d. d == 123) (after_run is_x (s ++ b ∷ rest)) ≡ false
no_brace [] b rest all e = ap (begins_with (λ d. d == 123)) (after_run_stops is_x b rest (break_no_brace b e).1) ∙ (break_no_brace b e).0
no_brace (c ∷ cs) b rest all e = grind (arith, nat_tests, after_run_passes, after_run_stops, brace, break_no_brace, no_brace cs b rest)

-- a name behind a backslash
pub quoted_before : (s : List ℕ) (b : ℕ) (rest : List ℕ) → is_ncname s ≡ true → is_break b ≡ true → IsFirstPart (92 ∷ s ++ b ∷ rest) (Token Quoted) (92 ∷ s) (b ∷ rest)
quoted_before [] b rest name e = cc
quoted_before (c ∷ cs) b rest name e =
    let ends = run_ends is_name_char cs b rest (and_parts _ _ name).1 (break_no_name b e) in
    moved _ _ _ _ _ _ (λ i. 92 ∷ c ∷ ends.0 i) ends.1
    (quoted_first c (cs ++ b ∷ rest) (and_parts _ _ name).0 (and_right (92 == 92 && begins_with is_x (c ∷ cs ++ b ∷ rest)) _ (no_brace (c ∷ cs) b rest (name_chars (c ∷ cs) name) e)))

symbol_plain : (c : ℕ) (cs : List ℕ) → is_symbol (c ∷ cs) ≡ true → (is_delimiter c ≡ false) × ((c == 92) ≡ false)
unfolding symbols
symbol_plain c cs e = (not-true _ (one_of (λ s. begins_with (λ d. not (is_delimiter d)) s) symbols (c ∷ cs) refl e), not-true _ (one_of (λ s. begins_with (λ d. not (d == 92)) s) symbols (c ∷ cs) refl e))

second : (ℕ → ℕ → Bool) → List ℕ → Bool
second p [] = true
second p (c ∷ []) = true
second p (c ∷ d ∷ cs) = p c d

no_break_second : (c d : ℕ) → is_symbol (c ∷ d ∷ []) ≡ true → is_break d ≡ false
unfolding symbols second
no_break_second c d e = not-true _ (one_of (second (λ x y. not (is_break y))) symbols (c ∷ d ∷ []) refl e)

-- a symbol that begins no longer one
abbrev pub is_solo : ℕ → Bool
is_solo c = not (c == 124) && not (c == 38) && not (c == 62)

no_solo_first : (c d : ℕ) → is_symbol (c ∷ d ∷ []) ≡ true → is_solo c ≡ false
unfolding symbols second
no_solo_first c d e = not-true _ (one_of (second (λ x y. not (is_solo x))) symbols (c ∷ d ∷ []) refl e)

no_pair : (c d : ℕ) → (is_symbol (c ∷ d ∷ []) ≡ true → ⊥) → is_symbol (c ∷ d ∷ []) ≡ false
no_pair c d h = ⊎_elim (λ t. absurd (h t)) (λ f. f) (cases_Bool (is_symbol (c ∷ d ∷ [])))

-- a symbol of one character that begins no longer one, before anything
pub solo_before : (c : ℕ) (rest : List ℕ) → is_symbol (c ∷ []) ≡ true → is_solo c ≡ true → IsFirstPart (c ∷ rest) (Token Symbol) (c ∷ []) rest
solo_before c rest is solo =
    let plain = symbol_plain c [] is in
    symbol_first c rest [] rest plain.0 plain.1 (single_symbol c rest (λ d ds split. no_pair c d (λ h. true_is_false (is_solo c) solo (no_solo_first c d h))) is)

none : is_symbol [] ≡ true → ⊥
unfolding symbols
none h = cc

pub symbol_before : (s : List ℕ) (b : ℕ) (rest : List ℕ) → is_symbol s ≡ true → is_break b ≡ true → IsFirstPart (s ++ b ∷ rest) (Token Symbol) s (b ∷ rest)
symbol_before [] b rest is e = absurd (none is)
symbol_before (c ∷ []) b rest is e =
    let plain = symbol_plain c [] is in
    symbol_first c (b ∷ rest) [] (b ∷ rest) plain.0 plain.1 (single_symbol c (b ∷ rest) (λ d ds split. no_pair c d (λ h. true_is_false (is_break b) e (ap is_break (cons_first split) ∙ no_break_second c d h))) is)
symbol_before (c ∷ d ∷ []) b rest is e = let plain = symbol_plain c (d ∷ []) is in symbol_first c (d ∷ b ∷ rest) (d ∷ []) (b ∷ rest) plain.0 plain.1 (pair_symbol c d (b ∷ rest) is)
symbol_before (c ∷ d ∷ x ∷ xs) b rest is e = absurd (omega (arith, symbol_short c (d ∷ x ∷ xs) is))

-- a simple segment stays one before a break
simple_stays : (s : List ℕ) (b : ℕ) (rest : List ℕ) → is_segment s ≡ true → opens_threefold s ≡ false → is_break b ≡ true → opens_threefold (s ++ b ∷ rest) ≡ false
simple_stays [] b rest is simple e = cc
simple_stays (q ∷ []) b rest is simple e = grind (arith, nat_tests)
simple_stays (q ∷ x ∷ []) b rest is simple e = grind (arith, nat_tests, ne_eqb, break_no_delimiter)
simple_stays (q ∷ x ∷ y ∷ ys) b rest is simple e = grind (arith, nat_tests)

-- a segment before a break
pub segment_before : (s : List ℕ) (b : ℕ) (rest : List ℕ) → is_segment s ≡ true → is_break b ≡ true → IsFirstPart (s ++ b ∷ rest) (Token Segment) s (b ∷ rest)
segment_before [] b rest is e = cc
segment_before (d ∷ cs) b rest is e =
    let both = and_parts (is_delimited (d ∷ cs)) (escapes_hold d cs) is in
    let q = delimiter_at d cs both.0 in
    segment_first (d ∷ cs ++ b ∷ rest) d (cs ++ b ∷ rest) (d ∷ cs) (b ∷ rest) refl q (record { split = refl; is = both.0; threefold = opens }) (escapes_within d cs q ∙ both.1)
  where
    opens : opens_threefold (d ∷ cs ++ b ∷ rest) ≡ true → opens_threefold (d ∷ cs) ≡ true
    opens t = ⊎_elim
        (λ three. three)
        (λ simple. let h : true ≡ false = sym t ∙ simple_stays (d ∷ cs) b rest is simple e in cc)
        (cases_Bool (opens_threefold (d ∷ cs)))

-- a name, a colon, and what passes
prefix_parts : (p : List ℕ → Bool) (s : List ℕ) → is_prefixed p s ≡ true → (name : List ℕ) × (local : List ℕ) × (s ≡ name ++ 58 ∷ local) × (is_ncname name ≡ true) × (p local ≡ true)
prefix_parts p s h1 = grind (arith, nat_tests, colon_of, run_split)

pub spelled_is : (k : Kind) (s : List ℕ) → spells (Token k) s ≡ true → IsSpelled k s
spelled_is Name s e = let both = and_parts (is_ncname s) (not (is_keyword s)) e in (both.0, not-true (is_keyword s) both.1)
spelled_is Keyword s e = e
spelled_is Quoted [] e = cc
spelled_is Quoted (c ∷ cs) e = let both = and_parts (c == 92) (is_ncname cs) e in (cs, ap (λ x. x ∷ cs) (eqb-true c 92 both.0), both.1)
spelled_is Prefixed s e = prefix_parts is_ncname s e
spelled_is AnyOf s e =
    let parts = prefix_parts (bytes_eq (codes "*")) s e in
    let star : parts.1 ≡ 42 ∷ [] = sym ((bytes_eq-Decides (codes "*") parts.1).0 parts.4) in
    (parts.0, parts.2 ∙ ap (λ l. parts.0 ++ 58 ∷ l) star, parts.3)
spelled_is Segment s e = e
spelled_is Symbol s e = e

-- and what says so of a kind spells it
pub is_spelled : (k : Kind) (s : List ℕ) → IsSpelled k s → spells (Token k) s ≡ true
is_spelled Name s (name, other) = and_from (is_ncname s) (not (is_keyword s)) name (ap not other)
is_spelled Keyword s h = h
is_spelled Quoted s (name, is, named) = ap is_quoted is ∙ named
is_spelled Prefixed s (prefix, local, is, first, second) = ap (is_prefixed is_ncname) is ∙ spells_prefixed is_ncname prefix local first second
is_spelled AnyOf s (prefix, is, first) = ap (is_prefixed (bytes_eq (codes "*"))) is ∙ spells_prefixed (bytes_eq (codes "*")) prefix (42 ∷ []) first refl
is_spelled Segment s h = h
is_spelled Symbol s h = h

-- a token before a break
before_break : (k : Kind) (s : List ℕ) (b : ℕ) (rest : List ℕ) → spells (Token k) s ≡ true → is_break b ≡ true → IsFirstPart (s ++ b ∷ rest) (Token k) s (b ∷ rest)
before_break Name s b rest e ends = name_before Name s b rest refl (and_parts (is_ncname s) (not (is_keyword s)) e).0 e ends
before_break Keyword s b rest e ends = name_before Keyword s b rest refl (keyword_is_name s e) e ends
before_break Quoted s b rest e ends = grind (arith, nat_tests, spelled_is, quoted_before)
before_break Prefixed s b rest e ends =
    let parts = spelled_is Prefixed s e in
    subst (λ l. IsFirstPart (l ++ b ∷ rest) (Token Prefixed) l (b ∷ rest)) (sym parts.2) (prefixed_before parts.0 parts.1 b rest parts.3 parts.4 ends)
before_break AnyOf s b rest e ends =
    let parts = spelled_is AnyOf s e in
    subst (λ l. IsFirstPart (l ++ b ∷ rest) (Token AnyOf) l (b ∷ rest)) (sym parts.1) (any_before parts.0 (b ∷ rest) parts.2)
before_break Segment s b rest e ends = segment_before s b rest e ends
before_break Symbol s b rest e ends = symbol_before s b rest e ends

-- and one that ends the text
begins_no_escape : (s more : List ℕ) → escape_front (s ++ more) ≡ false → escape_front s ≡ false
begins_no_escape s more h1 = grind (arith, nat_tests, within_brace)

pub at_end : (k : Kind) (s : List ℕ) → spells (Token k) s ≡ true → IsFirstPart s (Token k) s []
at_end k s e =
    let before = before_break k s 32 [] e refl in
    record {
      begins = record { split = append-nil s; spelled = e; threefold = λ t. t; no_escape = begins_no_escape s (32 ∷ []) before.begins.no_escape };
      longest = λ part other rest begins. let n : length other + length rest ≡ length s = sym (length-append other rest) ∙ ap length begins.split in omega (arith, n);
    }

pub before_end : (k : Kind) (s rest : List ℕ) → spells (Token k) s ≡ true → ends_token rest ≡ true → IsFirstPart (s ++ rest) (Token k) s rest
before_end k s rest h1 h2 = grind (arith, nat_tests, append-nil, at_end, before_break)
