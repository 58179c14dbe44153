-- What is escaped in references and in paths (RFC 3986, 2.1; XLink 1.0, 5.4).
use Rattle.std.specs.Prelude.{ℕ, ◌==◌, ◌&&◌, ◌||◌, not, nat_le, Bool, true, false, List, [], ◌∷◌, if◌then◌else◌}
use Rattle.std.specs.List.{flat_map}
use Rattle.std.specs.Char.{is_ascii_hexdigit}
use Rattle.percent_encoding.specs.Percent.{percent_encode_byte}

-- two hexadecimal digits come first
abbrev pub begins_with_digits : List ℕ → Bool
begins_with_digits (high ∷ low ∷ rest) = is_ascii_hexdigit high && is_ascii_hexdigit low
begins_with_digits _ = false

-- each `%` begins an escape: two hexadecimal digits follow it (RFC 3986, 2.1)
abbrev pub has_escapes : List ℕ → Bool
has_escapes [] = true
has_escapes (b ∷ rest) = (not (b == 37) || begins_with_digits rest) && has_escapes rest

-- the byte where it is kept, and else its escape: `%` and two hexadecimal digits in upper case
abbrev pub byte_or_escape : Bool → ℕ → List ℕ
byte_or_escape is_kept b = if is_kept then b ∷ [] else percent_encode_byte b

abbrev pub kept_or_escaped : (ℕ → Bool) → ℕ → List ℕ
kept_or_escaped is_kept b = byte_or_escape (is_kept b) b

-- a URI reference may hold the byte (XLink 5.4): it is of ASCII and no control (0 to 31 and 127), and none of
-- space, `"`, `<`, `>`, `\`, `^`, `` ` ``, `{`, `|`, `}`
abbrev pub is_allowed : ℕ → Bool
is_allowed b =
    nat_le 33 b && nat_le b 126
    && not (b == 34 || b == 60 || b == 62 || b == 92 || b == 94 || b == 96 || b == 123 || b == 124 || b == 125)

-- the reference with each byte escaped that is not allowed
abbrev pub escaped_reference : List ℕ → List ℕ
escaped_reference reference = flat_map (kept_or_escaped is_allowed) reference
