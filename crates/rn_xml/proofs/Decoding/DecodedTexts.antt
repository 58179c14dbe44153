-- Texts that are decoded, character by character.
use Rattle.std.proofs.Common.{◌≡◌, ℕ, List, [], ◌∷◌, ◌++◌, ap, sym, ◌∙◌, append_assoc, append-nil, true, flat_map, ◌<◌, ◌≤◌, ◌+◌, length, take, get_or, nat_le, arith}
use Rattle.std.specs.Char.{IsScalar, encode_utf8}
use Rattle.std.specs.Char.Escape.{encode_utf16}
use Rattle.std.specs.Str.{IsUtf8, chars, all_scalars}
use Rattle.std.proofs.lemmas.Str.{chars-append, chars-encodes}
use Rattle.std.proofs.lemmas.Grind.{flat_map-append}
use Rattle.std.specs.List.{list_all}
use Rattle.std.proofs.Math.Utf8.{low_scalar}
use Rattle.std.proofs.lemmas.List.{take_more}
use Rattle.std.proofs.lemmas.Bool.Decides.{nat_tests}
use Rattle.rn_text.proofs.Words.AppendedLists.{all_append}
use Rattle.rn_xml.specs.Encodings.{utf16_bytes}

-- one more character
pub chars_more : (old : List ℕ) (c : ℕ) → IsUtf8 old → IsScalar c → chars (old ++ encode_utf8 c) ≡ chars old ++ c ∷ []
chars_more old c u h = chars-append old (encode_utf8 c) u ∙ ap (λ l. chars old ++ l) (one c h)
  where
    one : (c : ℕ) → IsScalar c → chars (encode_utf8 c) ≡ c ∷ []
    one c h = let scalar : all_scalars (c ∷ []) ≡ true = rw h in ap chars (sym (append-nil (encode_utf8 c))) ∙ chars-encodes (c ∷ []) scalar

pub utf16_bytes-append : (unit_bytes : ℕ → List ℕ) (cs ds : List ℕ) → utf16_bytes unit_bytes (cs ++ ds) ≡ utf16_bytes unit_bytes cs ++ utf16_bytes unit_bytes ds
utf16_bytes-append unit_bytes cs ds =
    ap (λ l. flat_map unit_bytes l) (flat_map-append encode_utf16 cs ds) ∙ flat_map-append unit_bytes (flat_map encode_utf16 cs) (flat_map encode_utf16 ds)

-- a character is read
pub read_more : (unit_bytes : ℕ → List ℕ) (bytes old new rest after : List ℕ) (c : ℕ) → IsUtf8 old → IsScalar c → new ≡ old ++ encode_utf8 c
    → bytes ≡ utf16_bytes unit_bytes (chars old) ++ rest → rest ≡ flat_map unit_bytes (encode_utf16 c) ++ after
    → bytes ≡ utf16_bytes unit_bytes (chars new) ++ after
read_more unit_bytes bytes old new rest after c u h grown before split =
    let more : chars new ≡ chars old ++ c ∷ [] = ap chars grown ∙ chars_more old c u h in
    let one : utf16_bytes unit_bytes (c ∷ []) ≡ flat_map unit_bytes (encode_utf16 c) = ap (λ l. flat_map unit_bytes l) (append-nil (encode_utf16 c)) in
    let all : utf16_bytes unit_bytes (chars new) ≡ utf16_bytes unit_bytes (chars old) ++ flat_map unit_bytes (encode_utf16 c) =
    ap (λ l. utf16_bytes unit_bytes l) more ∙ utf16_bytes-append unit_bytes (chars old) (c ∷ []) ∙ ap (λ l. utf16_bytes unit_bytes (chars old) ++ l) one in
    before ∙ ap (λ l. utf16_bytes unit_bytes (chars old) ++ l) split
    ∙ sym (append_assoc (utf16_bytes unit_bytes (chars old)) (flat_map unit_bytes (encode_utf16 c)) after) ∙ ap (λ l. l ++ after) (sym all)

-- a byte that is a character is read
pub byte_read : (bytes old new : List ℕ) (i b : ℕ) → IsUtf8 old → i < length bytes → get_or bytes i 0 ≡ b → b < 256 → new ≡ old ++ encode_utf8 b
    → chars old ≡ take i bytes → chars new ≡ take (i + 1) bytes
byte_read bytes old new i b u h is small grown before =
    ap chars grown ∙ chars_more old b u (low_scalar b (omega arith)) ∙ ap (λ l. l ++ b ∷ []) before
    ∙ ap (λ x. take i bytes ++ x ∷ []) (sym is) ∙ sym (take_more bytes i 0 h)

-- it is one of those that fit
pub byte_fits : (bytes : List ℕ) (i most : ℕ) → i < length bytes → get_or bytes i 0 ≤ most → list_all (λ b. nat_le b most) (take i bytes) ≡ true
    → list_all (λ b. nat_le b most) (take (i + 1) bytes) ≡ true
byte_fits bytes i most h small before =
    let one : list_all (λ b. nat_le b most) (get_or bytes i 0 ∷ []) ≡ true = grind (arith, nat_tests) in
    ap (list_all (λ b. nat_le b most)) (take_more bytes i 0 h) ∙ all_append (λ b. nat_le b most) (take i bytes) (get_or bytes i 0 ∷ []) before one
