-- The tokens of a text that is cut: what spells them, and where they stand.
use Rattle.std.proofs.lemmas.Bool.Decides.{nat_tests}
use Rattle.std.proofs.Common.{◌≡◌, ℕ, ◌+◌, ◌-◌, ◌<◌, ◌≤◌, ltb, leb, true, cond, List, [], ◌∷◌, ◌++◌, length, drop, take, refl, sym, ap, ◌∙◌, subst, arith, append_assoc, length-append}
use Rattle.std.specs.Prelude.{◌&&◌, encode_utf8}
use Rattle.std.specs.List.{list_all, AllByRecursion}
use Rattle.std.specs.Str.{IsUtf8, chars, encode_utf8_all, all_scalars}
use Rattle.std.proofs.Math.Seq.{take-append_seam, drop-append_seam}
use Rattle.std.proofs.lemmas.Bool.{and_parts, and_from, lt-ltb}
use Rattle.std.proofs.lemmas.Str.{chars-encodes, encodes-chars, encodes-append, len_utf8_bounds, length-encode}
use Rattle.rn_text.specs.declared.parts.Part.{Part}
use Rattle.rn_text.specs.declared.parts.Part.TheVariants.{Space, Comment, Token}
use Rattle.rn_text.specs.Characters.{is_xml_char}
use Rattle.rn_text.specs.Parts.{Piece, IsCut, IsSpelled, spells}
use Rattle.rn_text.specs.Tokens.{Lexeme, HasTokens, StandInOrder, unmarked, lexeme_at, lexemes, width}
use Rattle.rn_text.proofs.Cutting.Cuts.{mark_front, no_empty_part}
use Rattle.rn_text.proofs.Words.AppendedLists.{all_parts}
use Rattle.rn_text.proofs.Cutting.BeforeBreaks.{spelled_is}

scalar_of : (c : ℕ) → is_xml_char c ≡ true → cond (ltb c 55296) true (leb 57344 c && ltb c 1114112) ≡ true
unfolding is_xml_char
scalar_of c h1 = grind (arith, nat_tests, lt-ltb)

pub xml_scalars : (cs : List ℕ) → list_all is_xml_char cs ≡ true → all_scalars cs ≡ true
xml_scalars [] e = refl
xml_scalars (c ∷ cs) e = let both = and_parts (is_xml_char c) (list_all is_xml_char cs) e in and_from (cond (ltb c 55296) true (leb 57344 c && ltb c 1114112)) (all_scalars cs) (scalar_of c both.0) (xml_scalars cs both.1)

-- the text behind a mark
pub unmarked_xml : (cs : List ℕ) → list_all is_xml_char cs ≡ true → list_all is_xml_char (unmarked cs) ≡ true
unmarked_xml cs xml = let mark = mark_front cs in (all_parts is_xml_char mark.0 (unmarked cs) (ap (list_all is_xml_char) (sym mark.1) ∙ xml)).1

-- what spells the tokens
abbrev SpelledAll : List Lexeme → Type 0
SpelledAll ts = AllByRecursion (λ t. IsSpelled t.kind (chars t.text)) ts

spelled_pieces : (text rest : List ℕ) (ps : List Piece) (place : ℕ) → IsCut text ps rest → list_all is_xml_char text ≡ true → SpelledAll (lexemes place ps)
spelled_pieces text rest [] place cut xml = tt
spelled_pieces text rest (p ∷ ps) place (after, first, more) xml = grind (arith, nat_tests, all_parts, xml_scalars, chars-encodes, spelled_is, spelled_pieces after rest ps (place + width p))

pub tokens_spelled : (cs : List ℕ) (ts : List Lexeme) → HasTokens cs ts → AllByRecursion (λ t. IsSpelled t.kind (chars t.text)) ts
tokens_spelled cs ts h = subst SpelledAll (sym h.are) (spelled_pieces (unmarked cs) [] h.pieces _ h.cut (unmarked_xml cs h.xml))

-- where they stand
spelling_long : (part : Part) (s : List ℕ) → spells part s ≡ true → 0 < length (encode_utf8_all s)
spelling_long part [] e = absurd (no_empty_part part e)
spelling_long part (c ∷ cs) e = let n = (len_utf8_bounds c).0 in omega (arith, length-append (encode_utf8 c) (encode_utf8_all cs), length-encode c, n)

in_order : (src before text : List ℕ) (ps : List Piece) (from : ℕ) → IsCut text ps [] → src ≡ before ++ encode_utf8_all text → from ≤ length before → StandInOrder src from (lexemes (length before) ps)
in_order src before text [] from cut split at = tt
in_order src before text (p ∷ ps) from (after, first, more) split at =
    let bytes = encode_utf8_all p.spelling in
    let whole : src ≡ before ++ (bytes ++ encode_utf8_all after) = split ∙ ap (λ t. before ++ encode_utf8_all t) (sym first.begins.split) ∙ ap (λ l. before ++ l) (encodes-append p.spelling after) in
    let grown : src ≡ (before ++ bytes) ++ encode_utf8_all after = whole ∙ sym (append_assoc before bytes (encode_utf8_all after)) in
    let long : length (before ++ bytes) ≡ length before + length bytes = length-append before bytes in
    one_more p.part bytes whole (spelling_long p.part p.spelling first.begins.spelled)
    (λ next e. subst (λ n. StandInOrder src next (lexemes n ps)) long (in_order src (before ++ bytes) after ps next more grown (omega (arith, long, e))))
  where
    one_more : (part : Part) (bytes : List ℕ) → src ≡ before ++ (bytes ++ encode_utf8_all after) → 0 < length bytes → ((next : ℕ) → next ≤ length before + length bytes → StandInOrder src next (lexemes (length before + width p) ps))
        → StandInOrder src from (lexeme_at (length before) part bytes ++ lexemes (length before + width p) ps)
    one_more Space bytes whole some rest = rest from (omega (arith, at))
    one_more Comment bytes whole some rest = rest from (omega (arith, at))
    one_more (Token k) bytes whole some rest =
        let size : length src ≡ length before + (length bytes + length (encode_utf8_all after)) = ap length whole ∙ length-append before (bytes ++ encode_utf8_all after) ∙ ap (λ n. length before + n) (length-append bytes (encode_utf8_all after)) in
        let wide : length before + length bytes - length before ≡ length bytes = omega arith in (
          at,
          omega (arith, some),
          omega (arith, size),
          sym (ap (λ n. take n (drop (length before) src)) wide ∙ ap (λ l. take (length bytes) (drop (length before) l)) whole ∙ ap (take (length bytes)) (drop-append_seam before (bytes ++ encode_utf8_all after)) ∙ take-append_seam bytes (encode_utf8_all after)),
          rest (length before + length bytes) (omega arith),
        )

pub tokens_in_order : (src : List ℕ) (ts : List Lexeme) → IsUtf8 src → HasTokens (chars src) ts → StandInOrder src 0 ts
tokens_in_order src ts u h =
    let mark = mark_front (chars src) in
    let before = encode_utf8_all mark.0 in
    let split : src ≡ before ++ encode_utf8_all (unmarked (chars src)) = sym (encodes-chars src u) ∙ ap encode_utf8_all mark.1 ∙ encodes-append mark.0 (unmarked (chars src)) in
    subst (StandInOrder src 0) (ap (λ n. lexemes n h.pieces) mark.2 ∙ sym h.are) (in_order src before (unmarked (chars src)) h.pieces 0 h.cut split (omega arith))
