-- Texts that begin with characters of ASCII, whose codes are their bytes.
use Rattle.std.proofs.Common.{◌≡◌, ◌≢◌, ℕ, ◌<◌, ◌+◌, true, List, [], ◌∷◌, ◌++◌, length, drop, sym, ap, ◌∙◌, arith, zero, suc, lit<, Bor, Some, None}
use Rattle.std.proofs.lemmas.Bool.{and_parts}
use Rattle.std.proofs.lemmas.Bool.Decides.{nat_tests}
use Rattle.std.specs.Char.{is_ascii}
use Rattle.std.specs.List.{list_all}
use Rattle.std.specs.Prelude.{Option, MatchOption}
use Rattle.std.specs.Str.{IsAscii, IsUtf8, chars, encode_utf8_all}
use Rattle.std.specs.Str.Pattern.{FindsTextPrefix}
use Rattle.std.proofs.lemmas.Str.{chars-append, chars-IsAscii, IsUtf8-from_ascii, encodes-chars, encodes-append, encodes-IsAscii}
use Rattle.rn_xml.proofs.Lengths.{front_stripped}

small_byte : (b : ℕ) → is_ascii b ≡ true → b < 128
small_byte b e = grind (arith, nat_tests)

pub ascii_bytes : (bs : List ℕ) → list_all is_ascii bs ≡ true → IsAscii bs
ascii_bytes [] e i = lit< tt
ascii_bytes (b ∷ bs) e zero = small_byte b (and_parts _ _ e).0
ascii_bytes (b ∷ bs) e (suc i) = ascii_bytes bs (and_parts _ _ e).1 i

pub ascii_chars : (bs : List ℕ) → list_all is_ascii bs ≡ true → chars bs ≡ bs
ascii_chars bs all = chars-IsAscii bs (ascii_bytes bs all)

-- the characters of a text behind such a front
pub chars_behind : (front bs rest : List ℕ) → list_all is_ascii front ≡ true → bs ≡ front ++ rest → chars bs ≡ front ++ chars rest
chars_behind front bs rest all e =
    ap chars e ∙ chars-append front rest (IsUtf8-from_ascii front (ascii_bytes front all)) ∙ ap (λ l. l ++ chars rest) (ascii_chars front all)

pub front_chars_stripped : (front bs : List ℕ) (r : Option (Bor (List ℕ))) → IsUtf8 bs → list_all is_ascii front ≡ true
    → MatchOption r (FindsTextPrefix front bs None) (λ x. (n : ℕ) × FindsTextPrefix front bs (Some n) × (x.now ≡ drop n bs) × (length x.now + n ≡ length bs))
    → MatchOption r ((behind : List ℕ) → chars bs ≢ front ++ behind) (λ x. chars bs ≡ front ++ chars x.now)
front_chars_stripped front bs None u all h = λ behind e. h (encode_utf8_all behind) (sym (encodes-chars bs u) ∙ ap encode_utf8_all e ∙ encodes-append front behind ∙ ap (λ l. l ++ encode_utf8_all behind) (encodes-IsAscii front (ascii_bytes front all)))
front_chars_stripped front bs (Some x) u all h = chars_behind front bs x.now all (front_stripped front bs (Some x) h)
