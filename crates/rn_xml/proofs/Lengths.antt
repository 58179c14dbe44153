-- What is left of a text is shorter.
use Rattle.std.proofs.Common.{◌≡◌, ℕ, ◌+◌, ◌<◌, List, [], ◌∷◌, ◌++◌, length, drop, ap, sym, ◌∙◌, true, false, subst, arith, length-append, Bor, Some, None}
use Rattle.std.specs.Prelude.{Option, IfSome, MatchOption, ◌==◌}
use Rattle.std.specs.Option.{is_some}
use Rattle.rn_text.specs.Characters.{is_ncname, is_name_char}
use Rattle.rn_text.specs.Segments.{after_run, begins_with, run_of}
use Rattle.std.proofs.lemmas.Bool.Decides.{nat_tests}
use Rattle.std.specs.Str.{IsUtf8, chars, encode_utf8_all}
use Rattle.std.specs.Str.Pattern.{FindsCharPrefix, FindsTextPrefix}
use Rattle.std.proofs.lemmas.Str.{length-le-encodes, len_utf8_bounds}
use Rattle.rn_text.specs.Texts.{LeavesUtf8}
use Rattle.rn_text.proofs.Words.CharacterRuns.{bytes_split, run_split}

-- what follows a character is shorter
pub shorter_behind : (bs rest : List ℕ) (c : ℕ) → IsUtf8 bs → IsUtf8 rest → chars bs ≡ c ∷ chars rest → length rest < length bs
shorter_behind bs rest c u v e =
    let split = bytes_split bs rest (c ∷ []) u v e in
    omega (arith, ap length split, length-append (encode_utf8_all (c ∷ [])) rest, length-le-encodes (c ∷ []))

pub char_shorter : (bs : List ℕ) (r : Option (ℕ × Bor (List ℕ))) → IsUtf8 bs → MatchOption r (chars bs ≡ []) (λ p. chars bs ≡ p.0 ∷ chars p.1.now) → LeavesUtf8 r
    → IfSome r (λ p. length p.1.now < length bs)
char_shorter bs None u e v = tt
char_shorter bs (Some p) u e v = shorter_behind bs p.1.now p.0 u v e

-- `strip_prefix` at a character, and at a text
pub strip_shorter : (c : ℕ) (bs : List ℕ) (r : Option (Bor (List ℕ)))
    → MatchOption r (FindsCharPrefix c bs None) (λ x. (n : ℕ) × FindsCharPrefix c bs (Some n) × (x.now ≡ drop n bs) × (length x.now + n ≡ length bs))
    → IfSome r (λ x. length x.now < length bs)
strip_shorter c bs None h = tt
strip_shorter c bs (Some x) h = omega (arith, h.3, h.1.ends, (len_utf8_bounds c).0)

pub front_stripped : (front bs : List ℕ) (r : Option (Bor (List ℕ)))
    → MatchOption r (FindsTextPrefix front bs None) (λ x. (n : ℕ) × FindsTextPrefix front bs (Some n) × (x.now ≡ drop n bs) × (length x.now + n ≡ length bs))
    → IfSome r (λ x. bs ≡ front ++ x.now)
front_stripped front bs None h = tt
front_stripped front bs (Some x) h = subst (λ l. bs ≡ front ++ l) (sym h.2) h.1.1

pub front_shorter : (front bs : List ℕ) (r : Option (Bor (List ℕ))) → 0 < length front
    → MatchOption r (FindsTextPrefix front bs None) (λ x. (n : ℕ) × FindsTextPrefix front bs (Some n) × (x.now ≡ drop n bs) × (length x.now + n ≡ length bs))
    → IfSome r (λ x. length x.now < length bs)
front_shorter front bs None some h = tt
front_shorter front bs (Some x) some h = omega (arith, h.3, h.1.0)

-- whether a text begins with a character
pub begins_if_some : (c : ℕ) (cs : List ℕ) (r : Option (Bor (List ℕ))) → MatchOption r (begins_with (λ d. d == c) cs ≡ false) (λ x. cs ≡ c ∷ chars x.now) → is_some r ≡ begins_with (λ d. d == c) cs
begins_if_some c cs None h = sym h
begins_if_some c cs (Some x) h = grind (arith, nat_tests, h)

-- what follows a name is shorter
pub name_shorter : (text rest : List ℕ) → IsUtf8 text → IsUtf8 rest → chars rest ≡ after_run is_name_char (chars text) → is_ncname (run_of is_name_char (chars text)) ≡ true → length rest < length text
name_shorter text rest t r behind name =
    let run = run_of is_name_char (chars text) in
    let split = bytes_split text rest run t r (sym (run_split is_name_char (chars text)) ∙ ap (λ l. run ++ l) (sym behind)) in
    let some : 0 < length run = some_name run name in
    omega (arith, ap length split, length-append (encode_utf8_all run) rest, length-le-encodes run, some)
  where
    some_name : (cs : List ℕ) → is_ncname cs ≡ true → 0 < length cs
    some_name [] e = let h : false ≡ true = e in cc
    some_name (c ∷ cs) e = omega arith
