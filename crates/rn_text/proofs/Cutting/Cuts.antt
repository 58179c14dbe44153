-- A text that is cut up to some place.
use Rattle.std.proofs.lemmas.Bool.Decides.{nat_tests}
use Rattle.std.proofs.Common.{◌≡◌, ℕ, ◌+◌, ◌-◌, ◌<◌, ◌≤◌, Bool, true, false, List, [], ◌∷◌, ◌++◌, length, refl, sym, ap, ◌∙◌, subst, arith, append_assoc, append-nil, length-append, length-take-le, ⊎_elim, eqb-true, take}
use Rattle.std.proofs.lemmas.Bool.{cases_Bool, cond-true, cond-false}
use Rattle.std.specs.Prelude.{map, ◌==◌, encode_utf8}
use Rattle.std.specs.List.{flat_map, list_all}
use Rattle.std.specs.Str.{IsUtf8, IsCharBoundary, chars, encode_utf8_all}
use Rattle.rn_text.specs.declared.parts.Part.TheVariants.{Token}
use Rattle.rn_text.specs.declared.parts.Kind.{Kind}
use Rattle.rn_text.specs.declared.source.Token.{Token as SourceToken}
use Rattle.rn_text.specs.Characters.{is_xml_char, is_keyword, keywords}
use Rattle.rn_text.specs.Segments.{is_empty, after_run, run_of}
use Rattle.rn_text.proofs.Words.CharacterRuns.{cut_before, is_empty_chars, all_pass, run_split, run_passes, stop_fails}
use Rattle.std.proofs.lemmas.Str.{encodes-append, length-encode}
use Rattle.std.proofs.lemmas.List.{flat_map_more}
use Rattle.rn_text.specs.declared.parts.Part.{Part}
use Rattle.rn_text.specs.Parts.{Piece, IsCut, IsFirstPart, BeginsWith, spells, symbols}
use Rattle.rn_text.specs.Tokens.{Lexeme, lexeme_of, LeavesXmlAt, BeginsNoPart, StopsAt, HasTokens, lexeme_at, lexemes, width, unmarked, unmarked_start}

-- the characters of the pieces
abbrev pub spelled_by : List Piece → List ℕ
spelled_by ps = flat_map (λ p. p.spelling) ps

-- the text of characters cs is cut as far as the rest, and these tokens were found
pub record CutSoFar (cs : List ℕ) (found : List Lexeme) (rest : List ℕ) : Type 0 where
  pub pieces : List Piece
  pub cut : IsCut (unmarked cs) pieces rest
  pub are : found ≡ lexemes (unmarked_start cs) pieces
  pub front : List ℕ
  pub split : cs ≡ front ++ rest
  pub place : length (encode_utf8_all front) ≡ unmarked_start cs + length (encode_utf8_all (spelled_by pieces))

-- one more part
pub cut_push : (text : List ℕ) (ps : List Piece) (rest : List ℕ) (p : Piece) (after : List ℕ) → IsCut text ps rest → IsFirstPart rest p.part p.spelling after → IsCut text (ps ++ p ∷ []) after
cut_push text [] rest p after e first = (after, subst (λ t. IsFirstPart t p.part p.spelling after) (sym e) first, refl)
cut_push text (q ∷ ps) rest p after (next, here, more) first = (next, here, cut_push next ps rest p after more first)

length_spelled : (p : Piece) (ps : List Piece) → length (encode_utf8_all (spelled_by (p ∷ ps))) ≡ width p + length (encode_utf8_all (spelled_by ps))
length_spelled p ps = ap length (encodes-append p.spelling (spelled_by ps)) ∙ length-append (encode_utf8_all p.spelling) (encode_utf8_all (spelled_by ps))

lexemes_push : (place : ℕ) (ps : List Piece) (p : Piece) → lexemes place (ps ++ p ∷ []) ≡ lexemes place ps ++ lexeme_at (place + length (encode_utf8_all (spelled_by ps))) p.part (encode_utf8_all p.spelling)
lexemes_push place [] p = append-nil (lexeme_at place p.part (encode_utf8_all p.spelling)) ∙ ap (λ n. lexeme_at n p.part (encode_utf8_all p.spelling)) (omega arith)
lexemes_push place (q ∷ ps) p = grind (arith, nat_tests, append-nil, append_assoc, length_spelled, lexemes_push (place + width q) ps p)

-- one more part is read, which begins at this place
pub cut_more : (cs rest after : List ℕ) (found : List Lexeme) (part : Part) (spelling : List ℕ) (place : ℕ) → (so_far : CutSoFar cs found rest) → IsFirstPart rest part spelling after → place ≡ length (encode_utf8_all so_far.front)
    → CutSoFar cs (found ++ lexeme_at place part (encode_utf8_all spelling)) after
cut_more cs rest after found part spelling place so_far first at =
    let piece : Piece = record { part = part; spelling = spelling } in
    let grown : spelled_by (so_far.pieces ++ piece ∷ []) ≡ spelled_by so_far.pieces ++ spelling = sym (flat_map_more (λ p. p.spelling) [] so_far.pieces piece) in
    let wider : length (encode_utf8_all (spelled_by (so_far.pieces ++ piece ∷ []))) ≡ length (encode_utf8_all (spelled_by so_far.pieces)) + length (encode_utf8_all spelling)
    = ap length (ap encode_utf8_all grown ∙ encodes-append (spelled_by so_far.pieces) spelling) ∙ length-append (encode_utf8_all (spelled_by so_far.pieces)) (encode_utf8_all spelling) in
    let front_wider : length (encode_utf8_all (so_far.front ++ spelling)) ≡ length (encode_utf8_all so_far.front) + length (encode_utf8_all spelling)
    = ap length (encodes-append so_far.front spelling) ∙ length-append (encode_utf8_all so_far.front) (encode_utf8_all spelling) in
    record {
      pieces = so_far.pieces ++ piece ∷ [];
      cut = cut_push (unmarked cs) so_far.pieces rest piece after so_far.cut first;
      are = ap (λ l. l ++ lexeme_at place part (encode_utf8_all spelling)) so_far.are ∙ ap (λ n. lexemes (unmarked_start cs) so_far.pieces ++ lexeme_at n part (encode_utf8_all spelling)) (at ∙ so_far.place)
          ∙ sym (lexemes_push (unmarked_start cs) so_far.pieces piece);
      front = so_far.front ++ spelling;
      split = so_far.split ∙ ap (λ l. so_far.front ++ l) (sym first.begins.split) ∙ sym (append_assoc so_far.front spelling after);
      place = front_wider ∙ omega (arith, wider, so_far.place);
    }

-- where a run ends, in bytes
pub run_cut : (p : ℕ → Bool) (text rest : List ℕ) → IsUtf8 text → IsUtf8 rest → chars rest ≡ after_run p (chars text)
    → (length rest ≤ length text) × IsCharBoundary text (length text - length rest) × (take (length text - length rest) text ≡ encode_utf8_all (run_of p (chars text)))
run_cut p text rest t r e = cut_before text rest (run_of p (chars text)) t r (sym (run_split p (chars text)) ∙ ap (λ l. run_of p (chars text) ++ l) (sym e))

-- where something follows the characters of XML, the first of it is none
pub leaves_at : (cs : List ℕ) (c : ℕ) (rest : List ℕ) → after_run is_xml_char cs ≡ c ∷ rest → LeavesXmlAt cs (length (encode_utf8_all (run_of is_xml_char cs)))
leaves_at cs c rest e = record {
  front = run_of is_xml_char cs;
  wrong = c;
  rest = rest;
  split = ap (λ l. run_of is_xml_char cs ++ l) (sym e) ∙ run_split is_xml_char cs;
  front_is_xml = run_passes is_xml_char cs;
  wrong_is_not = stop_fails is_xml_char cs c rest e;
  is = refl;
}

pub leaves_xml : (text wrong : List ℕ) → IsUtf8 text → IsUtf8 wrong → chars wrong ≡ after_run is_xml_char (chars text) → (length wrong == 0) ≡ false → LeavesXmlAt (chars text) (length text - length wrong)
leaves_xml text wrong t w e more = first (chars wrong) refl
  where
    first : (cs : List ℕ) → chars wrong ≡ cs → LeavesXmlAt (chars text) (length text - length wrong)
    first [] none = let empty : true ≡ false = sym (ap is_empty none) ∙ sym (is_empty_chars wrong w) ∙ more in cc
    first (c ∷ cs) is = let cut = run_cut is_xml_char text wrong t w e in
        subst (LeavesXmlAt (chars text)) (omega (arith, cut.0, ap length cut.2, length-take-le (length text - length wrong) text (omega arith))) (leaves_at (chars text) c cs (sym e ∙ is))

-- where nothing follows them, all are of XML
pub all_xml : (text wrong : List ℕ) → IsUtf8 wrong → chars wrong ≡ after_run is_xml_char (chars text) → (length wrong == 0) ≡ true → list_all is_xml_char (chars text) ≡ true
all_xml text wrong w e none = sym (all_pass is_xml_char (chars text)) ∙ ap is_empty (sym e) ∙ sym (is_empty_chars wrong w) ∙ none

-- an invariant of the loop, by bytes: one more part is read
pub cut_more_bytes : (text rest after : List ℕ) (found : List Lexeme) (part : Part) (spelling : List ℕ) → IsUtf8 text → IsUtf8 rest → IsUtf8 after → CutSoFar (chars text) found (chars rest)
    → IsFirstPart (chars rest) part spelling (chars after)
    → CutSoFar (chars text) (found ++ lexeme_at (length text - length rest) part (take (length rest - length after) rest)) (chars after)
cut_more_bytes text rest after found part spelling t r a so_far first =
    let whole = cut_before text rest so_far.front t r so_far.split in
    let here = cut_before rest after spelling r a (sym first.begins.split) in
    let place : length text - length rest ≡ length (encode_utf8_all so_far.front) = omega (arith, whole.0, ap length whole.2, length-take-le (length text - length rest) text (omega arith)) in
    subst (λ b. CutSoFar (chars text) (found ++ lexeme_at (length text - length rest) part b) (chars after)) (sym here.2)
    (cut_more (chars text) (chars rest) (chars after) found part spelling (length text - length rest) so_far first place)

-- a part that is no token adds none
pub no_lexeme : (place : ℕ) (part : Part) (bytes : List ℕ) → ((k : Kind) → part ≡ Token k → ⊥) → lexeme_at place part bytes ≡ []
no_lexeme place part bytes h1 = grind (arith, nat_tests)

-- the byte order mark, where there is one
pub mark_front : (cs : List ℕ) → (front : List ℕ) × (cs ≡ front ++ unmarked cs) × (length (encode_utf8_all front) ≡ unmarked_start cs)
mark_front [] = ([], refl, refl)
mark_front (c ∷ cs) = ⊎_elim
    (λ mark. let is : unmarked (c ∷ cs) ≡ cs = cond-true _ _ _ mark in
    let three : unmarked_start (c ∷ cs) ≡ 3 = cond-true _ _ _ mark in
    (0xFEFF ∷ [], ap (λ d. d ∷ cs) (eqb-true c 0xFEFF mark) ∙ ap (λ l. 0xFEFF ∷ l) (sym is), ap length (append-nil (encode_utf8 0xFEFF)) ∙ length-encode 0xFEFF ∙ sym three))
    (λ other. let is : unmarked (c ∷ cs) ≡ c ∷ cs = cond-false _ _ _ other in
    let none : unmarked_start (c ∷ cs) ≡ 0 = cond-false _ _ _ other in
    ([], sym is, sym none))
    (cases_Bool (c == 0xFEFF))

-- before the first part, behind it
pub cut_from_start : (cs : List ℕ) → CutSoFar cs [] (unmarked cs)
cut_from_start cs = let mark = mark_front cs in record { pieces = []; cut = refl; are = refl; front = mark.0; split = mark.1; place = omega (arith, mark.2) }

-- no part begins the rest
pub stops_here : (text rest : List ℕ) (found : List Lexeme) → IsUtf8 text → IsUtf8 rest → CutSoFar (chars text) found (chars rest) → list_all is_xml_char (chars text) ≡ true
    → (length rest == 0) ≡ false → BeginsNoPart (chars rest) → StopsAt (chars text) (length text - length rest)
stops_here text rest found h1 h2 h3 h4 h5 h6 = grind (arith, nat_tests, cut_before, is_empty_chars, length-take-le)

-- the rest is empty
pub tokens_at_end : (text rest : List ℕ) (found : List Lexeme) → IsUtf8 rest → CutSoFar (chars text) found (chars rest) → list_all is_xml_char (chars text) ≡ true
    → (length rest == 0) ≡ true → HasTokens (chars text) found
tokens_at_end text rest found h1 h2 h3 h4 = grind (arith, nat_tests, is_empty_chars)

-- no part is empty
pub no_empty_part : (part : Part) → spells part [] ≡ true → ⊥
unfolding keywords is_keyword symbols
no_empty_part part h1 = grind (arith, nat_tests)

-- what follows a part is shorter
pub part_shortens : (text : List ℕ) (part : Part) (front after : List ℕ) → BeginsWith text part front after → length after < length text
part_shortens text part front after h1 = grind (arith, nat_tests, length-append, no_empty_part)

-- the tokens of a vector, with one more
pub lexemes_more : (items : List SourceToken) (t : SourceToken) → map lexeme_of (items ++ t ∷ []) ≡ map lexeme_of items ++ lexeme_of t ∷ []
lexemes_more [] t = refl
lexemes_more (x ∷ xs) t = ap (λ l. lexeme_of x ∷ l) (lexemes_more xs t)

-- a token by its parts
pub same_lexeme : (k : Kind) (b b' : List ℕ) (s e : ℕ) → b' ≡ b → e ≡ s + length b → record { kind = k; text = b'; start = s; end = e } ∷ [] ≡ lexeme_at s (Token k) b
same_lexeme k b b' s e same ends = λ i. record { kind = k; text = same i; start = s; end = ends i } ∷ []
