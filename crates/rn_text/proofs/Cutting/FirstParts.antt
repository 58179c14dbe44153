-- Which parts may begin a text, by its first character.
use Rattle.std.proofs.lemmas.Bool.Decides.{nat_tests}
use Rattle.std.proofs.Common.{◌≡◌, ℕ, ◌≤◌, Bool, true, false, cond, List, [], ◌∷◌, ◌++◌, length, refl, sym, ap, ◌∙◌, subst, arith, ⊎_elim, eqb-true, ne_eqb, eq-eqb}
use Rattle.std.specs.Prelude.{◌==◌, ◌&&◌, not}
use Rattle.std.specs.List.{list_all, list_any}
use Rattle.std.specs.Str.{bytes_eq}
use Rattle.std.proofs.lemmas.Bool.{cond-true, and_parts, and_from, and_left, or_from, or_cases}
use Rattle.std.proofs.lemmas.Slice.Eq.{bytes_eq-Decides}
use Rattle.rn_text.specs.declared.parts.Part.{Part}
use Rattle.rn_text.specs.declared.parts.Part.TheVariants.{Space, Comment, Token}
use Rattle.rn_text.specs.declared.parts.Kind.TheVariants.{Name, Keyword, Quoted, Prefixed, AnyOf, Segment, Symbol}
use Rattle.rn_text.specs.Characters.{is_name_start, is_name_char, is_ncname, is_keyword, keywords}
use Rattle.rn_text.specs.Segments.{is_empty, after_run, run_of, begins_with, is_line_end, is_delimiter, opens_threefold, escape_front}
use Rattle.rn_text.specs.Parts.{IsFirstPart, BeginsWith, spells, symbols, is_symbol}
use Rattle.rn_text.specs.inside.PartEnds.{IsLongestSymbol}
use Rattle.rn_text.specs.Texts.{is_white}
use Rattle.rn_text.specs.Tokens.{BeginsNoPart}
use Rattle.rn_text.proofs.Words.CharacterRuns.{run_split, run_passes}
use Rattle.rn_text.proofs.Cutting.Cuts.{no_empty_part}

-- what a first character tells
pub data Class : Type 0 where
  white : Class
  hash : Class
  quote : Class
  backslash : Class
  letter : Class
  other : Class

abbrev pub class : ℕ → Class
class c = cond (is_white c) white (cond (c == 35) hash (cond (is_delimiter c) quote (cond (c == 92) backslash (cond (is_name_start c) letter other))))

abbrev pub class_of : Part → Class
class_of Space = white
class_of Comment = hash
class_of (Token Name) = letter
class_of (Token Keyword) = letter
class_of (Token Quoted) = backslash
class_of (Token Prefixed) = letter
class_of (Token AnyOf) = letter
class_of (Token Segment) = quote
class_of (Token Symbol) = other

-- a character that passes is none that doesn't
pub differs : (p : ℕ → Bool) (c x : ℕ) → p c ≡ true → p x ≡ false → (c == x) ≡ false
differs p c x passes fails = ne_eqb c x (λ e. let h : true ≡ false = sym passes ∙ ap p e ∙ fails in cc)

class_white : (c : ℕ) → is_white c ≡ true → class c ≡ white
class_white c e = cond-true _ _ _ e

class_hash : (c : ℕ) → (c == 35) ≡ true → class c ≡ hash
unfolding is_name_start
class_hash c e = ap class (eqb-true c 35 e)

pub class_backslash : (c : ℕ) → (c == 92) ≡ true → class c ≡ backslash
class_backslash c e = ap class (eqb-true c 92 e)

pub class_quote : (c : ℕ) → is_delimiter c ≡ true → class c ≡ quote
class_quote c e = ⊎_elim (λ d. ap class (eqb-true c 34 d)) (λ d. ap class (eqb-true c 39 d)) (or_cases _ _ e)

pub class_letter : (c : ℕ) → is_name_start c ≡ true → class c ≡ letter
unfolding is_name_start
class_letter c h1 = grind (arith, nat_tests, differs)

-- where each of the words passes, what is one of them passes
pub one_of : (p : List ℕ → Bool) (words : List (List ℕ)) (cs : List ℕ) → list_all p words ≡ true → list_any (λ w. bytes_eq w cs) words ≡ true → p cs ≡ true
one_of p [] cs all any = cc
one_of p (w ∷ ws) cs all any = grind (arith, nat_tests, bytes_eq-Decides, one_of p ws cs)

pub keyword_is_name : (cs : List ℕ) → is_keyword cs ≡ true → is_ncname cs ≡ true
unfolding is_keyword keywords is_name_start is_name_char
keyword_is_name cs e = one_of is_ncname keywords cs refl e

-- the class of a character that is none of the others
pub class_other : (c : ℕ) → is_white c ≡ false → (c == 35) ≡ false → is_delimiter c ≡ false → (c == 92) ≡ false → is_name_start c ≡ false → class c ≡ other
class_other c w h d b l = λ i. cond (w i) white (cond (h i) hash (cond (d i) quote (cond (b i) backslash (cond (l i) letter other))))

is_plain : ℕ → Bool
is_plain c = not (is_white c) && not (c == 35) && not (is_delimiter c) && not (c == 92) && not (is_name_start c)

plain_class : (c : ℕ) → is_plain c ≡ true → class c ≡ other
unfolding is_plain
plain_class c h1 = grind (arith, nat_tests, class_other)

symbol_start : (c : ℕ) (cs : List ℕ) → is_symbol (c ∷ cs) ≡ true → class c ≡ other
unfolding symbols is_name_start is_plain
symbol_start c cs e = plain_class c (one_of (begins_with is_plain) symbols (c ∷ cs) refl e)

run_start : (c : ℕ) (cs : List ℕ) → is_ncname (run_of is_name_char (c ∷ cs)) ≡ true → is_name_start c ≡ true
run_start c cs h1 = grind (arith, nat_tests)

-- the first character of a part tells its class
pub part_class : (part : Part) (c : ℕ) (cs : List ℕ) → spells part (c ∷ cs) ≡ true → class c ≡ class_of part
part_class Space c cs e = class_white c (and_parts _ _ e).0
part_class Comment c cs e = class_hash c (and_parts _ _ e).0
part_class (Token Name) c cs e = class_letter c (and_parts _ _ (and_parts _ _ e).0).0
part_class (Token Keyword) c cs e = class_letter c (and_parts _ _ (keyword_is_name (c ∷ cs) e)).0
part_class (Token Quoted) c cs e = class_backslash c (and_parts _ _ e).0
part_class (Token Prefixed) c cs e = class_letter c (run_start c cs (and_parts _ _ (and_parts _ _ e).0).0)
part_class (Token AnyOf) c cs e = class_letter c (run_start c cs (and_parts _ _ (and_parts _ _ e).0).0)
part_class (Token Segment) c cs e = class_quote c (and_parts _ _ (and_parts _ _ e).0).0
part_class (Token Symbol) c cs e = symbol_start c cs e

-- a run is the longest front whose characters pass
pub run_longest : (p : ℕ → Bool) (front after cs : List ℕ) → front ++ after ≡ cs → list_all p front ≡ true → length front ≤ length (run_of p cs)
run_longest p [] after cs e all = omega arith
run_longest p (c ∷ front) after [] e all = cc
run_longest p (c ∷ front) after (d ∷ cs) e all = grind (arith, nat_tests, run_longest p front after cs)

-- a front that spells a part, behind its first character
pub record Front (c : ℕ) (cs : List ℕ) (part : Part) (front after : List ℕ) : Type 0 where
  pub tail : List ℕ
  pub is : front ≡ c ∷ tail
  pub split : tail ++ after ≡ cs
  pub spelled : spells part (c ∷ tail) ≡ true
  pub same_class : class c ≡ class_of part

pub front_of : (c : ℕ) (cs : List ℕ) (part : Part) (front after : List ℕ) → BeginsWith (c ∷ cs) part front after → Front c cs part front after
front_of c cs part [] after begins = grind (arith, nat_tests, no_empty_part)
front_of c cs part (d ∷ ds) after begins = grind (arith, nat_tests, part_class)

-- no part begins the empty text
pub none_in_nothing : BeginsNoPart []
none_in_nothing part [] after begins = no_empty_part part begins.spelled
none_in_nothing part (c ∷ cs) after begins = let e : c ∷ (cs ++ after) ≡ [] = begins.split in cc

-- a text that begins with neither a quote nor a backslash
pub plain_start : (c : ℕ) (cs : List ℕ) → is_delimiter c ≡ false → (c == 92) ≡ false → (opens_threefold (c ∷ cs) ≡ true → ⊥) × (escape_front (c ∷ cs) ≡ false)
plain_start c cs d b = (λ e. let h : true ≡ false = sym (and_parts _ _ e).0 ∙ d in cc, and_left _ _ (and_left _ _ b))

-- a bound on each front that spells a part of this class bounds all
pub only_class : (k : Class) (c : ℕ) (cs : List ℕ) (n : ℕ) → class c ≡ k
    → ((part : Part) (tail after : List ℕ) → class_of part ≡ k → tail ++ after ≡ cs → spells part (c ∷ tail) ≡ true → length (c ∷ tail) ≤ n)
    → (part : Part) (front after : List ℕ) → BeginsWith (c ∷ cs) part front after → length front ≤ n
only_class k c cs n is bound part front after begins =
    let f = front_of c cs part front after begins in
    let h = bound part f.tail after (sym f.same_class ∙ is) f.split f.spelled in
    omega (arith, ap length f.is)

-- no part begins the text where none of its class does
pub none_of_class : (k : Class) (c : ℕ) (cs : List ℕ) → class c ≡ k
    → ((part : Part) (tail after : List ℕ) → class_of part ≡ k → tail ++ after ≡ cs → spells part (c ∷ tail) ≡ true → ⊥)
    → BeginsNoPart (c ∷ cs)
none_of_class k c cs is no_front part front after begins =
    let f = front_of c cs part front after begins in
    no_front part f.tail after (sym f.same_class ∙ is) f.split f.spelled

space_bound : (c : ℕ) (part : Part) (tail : List ℕ) → class_of part ≡ white → spells part (c ∷ tail) ≡ true → length (c ∷ tail) ≤ 1
space_bound c part tail h1 h2 = grind (arith, nat_tests)

-- one white space character
pub white_first : (c : ℕ) (cs : List ℕ) → is_white c ≡ true → IsFirstPart (c ∷ cs) Space (c ∷ []) cs
white_first c cs w =
    let d : (x : ℕ) → is_white x ≡ false → (c == x) ≡ false = λ x fails. differs is_white c x w fails in
    let plain = plain_start c cs (or_from _ _ (d 34 refl) (d 39 refl)) (d 92 refl) in
    record {
      begins = record { split = refl; spelled = and_from _ _ w refl; threefold = λ e. absurd (plain.0 e); no_escape = plain.1 };
      longest = only_class white c cs 1 (class_white c w) (λ part tail after k split e. space_bound c part tail k e);
    }

comment_bound : (c : ℕ) (cs : List ℕ) (part : Part) (tail after : List ℕ) → class_of part ≡ hash → tail ++ after ≡ cs → spells part (c ∷ tail) ≡ true
    → length (c ∷ tail) ≤ length (c ∷ run_of (λ d. not (is_line_end d)) cs)
comment_bound c cs part tail after h1 h2 h3 = grind (arith, nat_tests, run_longest)

-- a comment
pub comment_first : (c : ℕ) (cs : List ℕ) → c ≡ 35 → IsFirstPart (c ∷ cs) Comment (c ∷ run_of (λ d. not (is_line_end d)) cs) (after_run (λ d. not (is_line_end d)) cs)
comment_first c cs is =
    let plain = plain_start c cs (ap is_delimiter is) (ap (λ x. x == 92) is) in
    record {
      begins = record {
        split = ap (λ l. c ∷ l) (run_split (λ d. not (is_line_end d)) cs);
        spelled = and_from _ _ (eq-eqb c 35 is) (run_passes (λ d. not (is_line_end d)) cs);
        threefold = λ e. absurd (plain.0 e);
        no_escape = plain.1;
      };
      longest = only_class hash c cs _ (class_hash c (eq-eqb c 35 is)) (comment_bound c cs);
    }

-- a symbol has two characters at most
short : List ℕ → Bool
short [] = true
short (c ∷ []) = true
short (c ∷ d ∷ cs) = is_empty cs

pub symbol_short : (c : ℕ) (tail : List ℕ) → is_symbol (c ∷ tail) ≡ true → length tail ≤ 1
unfolding symbols short
symbol_short c tail h1 = grind (arith, nat_tests, one_of, short)

-- two characters that are a symbol
pub pair_symbol : (c d : ℕ) (cs : List ℕ) → is_symbol (c ∷ d ∷ []) ≡ true → IsLongestSymbol c (d ∷ cs) (d ∷ []) cs
pair_symbol c d cs e = record { split = refl; is = e; longest = λ longer rest split is. symbol_short c longer is }

-- where the first two are none, only the first alone may be one
pub tail_none : (c : ℕ) (cs tail after : List ℕ) → ((d : ℕ) (ds : List ℕ) → cs ≡ d ∷ ds → is_symbol (c ∷ d ∷ []) ≡ false) → tail ++ after ≡ cs → is_symbol (c ∷ tail) ≡ true → tail ≡ []
tail_none c cs [] after no_pair split e = refl
tail_none c cs (d ∷ []) after no_pair split e = let h : true ≡ false = sym e ∙ no_pair d after (sym split) in cc
tail_none c cs (d ∷ x ∷ xs) after no_pair split e = absurd (omega (arith, symbol_short c (d ∷ x ∷ xs) e))

pub single_symbol : (c : ℕ) (cs : List ℕ) → ((d : ℕ) (ds : List ℕ) → cs ≡ d ∷ ds → is_symbol (c ∷ d ∷ []) ≡ false) → is_symbol (c ∷ []) ≡ true → IsLongestSymbol c cs [] cs
single_symbol c cs no_pair e = record { split = refl; is = e; longest = λ longer rest split is. omega (arith, ap length (tail_none c cs longer rest no_pair split is)) }

pub no_symbol : (c : ℕ) (cs : List ℕ) → ((d : ℕ) (ds : List ℕ) → cs ≡ d ∷ ds → is_symbol (c ∷ d ∷ []) ≡ false) → is_symbol (c ∷ []) ≡ false → (tail after : List ℕ) → tail ++ after ≡ cs → is_symbol (c ∷ tail) ≡ true → ⊥
no_symbol c cs no_pair no_single tail after split e =
    let h : true ≡ false = sym e ∙ ap (λ l. is_symbol (c ∷ l)) (tail_none c cs tail after no_pair split e) ∙ no_single in cc

symbol_bound : (c : ℕ) (cs front : List ℕ) (rest : List ℕ) → IsLongestSymbol c cs front rest → (part : Part) (tail after : List ℕ) → class_of part ≡ other → tail ++ after ≡ cs → spells part (c ∷ tail) ≡ true
    → length (c ∷ tail) ≤ length (c ∷ front)
symbol_bound c cs front rest h1 part tail after h2 h3 h4 = grind (arith, nat_tests)

pub symbol_first : (c : ℕ) (cs tail after : List ℕ) → is_delimiter c ≡ false → (c == 92) ≡ false → IsLongestSymbol c cs tail after → IsFirstPart (c ∷ cs) (Token Symbol) (c ∷ tail) after
symbol_first c cs tail after d b l =
    let plain = plain_start c cs d b in
    record {
      begins = record { split = ap (λ x. c ∷ x) l.split; spelled = l.is; threefold = λ e. absurd (plain.0 e); no_escape = plain.1 };
      longest = only_class other c cs _ (symbol_start c tail l.is) (symbol_bound c cs tail after l);
    }

only_symbol : (part : Part) → class_of part ≡ other → part ≡ Token Symbol
only_symbol part h1 = grind (arith, nat_tests)

pub symbol_none : (c : ℕ) (cs : List ℕ) → class c ≡ other → ((tail after : List ℕ) → tail ++ after ≡ cs → is_symbol (c ∷ tail) ≡ true → ⊥) → BeginsNoPart (c ∷ cs)
symbol_none c cs k h = none_of_class other c cs k (λ part tail after is split e. h tail after split (ap (λ p. spells p (c ∷ tail)) (sym (only_symbol part is)) ∙ e))

-- what is first of these characters is first of the text that they are
pub first_at : (text cs : List ℕ) (part : Part) (front after : List ℕ) → text ≡ cs → IsFirstPart cs part front after → IsFirstPart text part front after
first_at text cs part front after e h = subst (λ t. IsFirstPart t part front after) (sym e) h

pub none_at : (text cs : List ℕ) → text ≡ cs → BeginsNoPart cs → BeginsNoPart text
none_at text cs e h = subst BeginsNoPart (sym e) h

pub longest_at : (c : ℕ) (text cs tail after : List ℕ) → text ≡ cs → IsLongestSymbol c cs tail after → IsLongestSymbol c text tail after
longest_at c text cs tail after e h = subst (λ t. IsLongestSymbol c t tail after) (sym e) h
