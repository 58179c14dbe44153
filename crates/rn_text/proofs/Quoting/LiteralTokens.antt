-- The tokens of a written literal, and their texts.
use Rattle.std.proofs.Common.{arith, ◌≡◌, ℕ, true, false, List, [], ◌∷◌, ◌++◌, refl, sym, ap, ◌∙◌, subst, append-nil, lit<}
use Rattle.std.proofs.lemmas.Bool.Decides.{nat_tests}
use Rattle.std.specs.Prelude.{◌==◌, codes, encode_utf8}
use Rattle.std.specs.List.{list_all, flat_map, AllByRecursion}
use Rattle.std.specs.Str.{chars, encode_utf8_all, IsUtf8}
use Rattle.std.proofs.lemmas.Bool.{cond-false}
use Rattle.std.proofs.lemmas.Str.{chars-encodes, encode_ascii}
use Rattle.rn_text.specs.declared.parts.Part.TheVariants.{Space, Token}
use Rattle.rn_text.specs.declared.parts.Kind.TheVariants.{Segment, Symbol}
use Rattle.rn_text.specs.Characters.{is_xml_char}
use Rattle.rn_text.specs.Segments.{begins_with, segment_text}
use Rattle.rn_text.specs.Literals.{literal_bytes, delimited, joined, segments, literal_of}
use Rattle.rn_text.specs.Parts.{Piece, IsCut, symbols}
use Rattle.rn_text.specs.Tokens.{Lexeme, HasTokens, SegmentsHaveText, lexemes, unmarked, unmarked_start}
use Rattle.rn_text.proofs.Cutting.FirstParts.{white_first}
use Rattle.rn_text.proofs.Cutting.BeforeBreaks.{solo_before, at_end, before_end}
use Rattle.rn_text.proofs.Quoting.SegmentTexts.{Together, delimited_text, segments_together, segments_join}
use Rattle.rn_text.proofs.Quoting.DelimitedRuns.{delimited_segment, delimited_xml}
use Rattle.rn_text.proofs.Words.AppendedLists.{all_append, all_parts}
use Rattle.rn_text.proofs.TokenLists.CutLexemes.{xml_scalars}

abbrev segment : List ℕ → Piece
segment s = record { part = Token Segment; spelling = delimited s }

abbrev space : Piece
space = record { part = Space; spelling = 32 ∷ [] }

abbrev tilde : Piece
tilde = record { part = Token Symbol; spelling = 126 ∷ [] }

abbrev literal_pieces : List (List ℕ) → List Piece
literal_pieces [] = segment [] ∷ []
literal_pieces (s ∷ []) = segment s ∷ []
literal_pieces (s ∷ t ∷ ss) = segment s ∷ space ∷ tilde ∷ space ∷ literal_pieces (t ∷ ss)

-- the literal is cut into them
literal_cut : (ss : List (List ℕ)) → AllByRecursion Together ss → IsCut (joined ss) (literal_pieces ss) []
unfolding symbols
literal_cut [] t = ([], at_end Segment (delimited []) (delimited_segment [] tt), refl)
literal_cut (s ∷ []) t = ([], at_end Segment (delimited s) (delimited_segment s t.0), refl)
literal_cut (s ∷ r ∷ ss) t =
    let next = joined (r ∷ ss) in (
      32 ∷ 126 ∷ 32 ∷ next,
      before_end Segment (delimited s) (32 ∷ 126 ∷ 32 ∷ next) (delimited_segment s t.0) refl,
      (126 ∷ 32 ∷ next, white_first 32 (126 ∷ 32 ∷ next) refl, (32 ∷ next, solo_before 126 (32 ∷ next) refl refl, (next, white_first 32 next refl, literal_cut (r ∷ ss) t.1))),
    )

-- the characters of a literal are of XML where those of its text are
literal_xml : (ss : List (List ℕ)) → list_all is_xml_char (flat_map (λ s. s) ss) ≡ true → list_all is_xml_char (joined ss) ≡ true
unfolding is_xml_char
literal_xml [] e = delimited_xml [] refl
literal_xml (s ∷ []) e = delimited_xml s (all_parts is_xml_char s [] e).0
literal_xml (s ∷ r ∷ ss) e = grind (arith, nat_tests, all_append, all_parts, delimited_xml, literal_xml (r ∷ ss))

-- the tokens of a literal are segments whose texts make up its text
segment_back : (s : List ℕ) → Together s → list_all is_xml_char s ≡ true → segment_text (chars (encode_utf8_all (delimited s))) ≡ s
segment_back s t xml = ap segment_text (chars-encodes (delimited s) (xml_scalars (delimited s) (delimited_xml s xml))) ∙ delimited_text s t

literal_texts : (ss : List (List ℕ)) (place : ℕ) → AllByRecursion Together ss → list_all is_xml_char (flat_map (λ s. s) ss) ≡ true → SegmentsHaveText (lexemes place (literal_pieces ss)) (flat_map (λ s. s) ss)
literal_texts [] place t e = (refl, sym (segment_back [] tt refl))
literal_texts (s ∷ []) place t e = (refl, append-nil s ∙ sym (segment_back s t.0 (all_parts is_xml_char s [] e).0))
literal_texts (s ∷ r ∷ ss) place t e =
    let parts = all_parts is_xml_char s (flat_map (λ x. x) (r ∷ ss)) e in
    let more = flat_map (λ x. x) (r ∷ ss) in
    (refl, refl, append-nil (encode_utf8 126) ∙ encode_ascii 126 (lit< tt), (more, ap (λ l. l ++ more) (sym (segment_back s t.0 parts.0)), literal_texts (r ∷ ss) _ t.1 parts.1))

-- no byte order mark begins it
no_mark : (s rest : List ℕ) → begins_with (λ c. c == 0xFEFF) (delimited s ++ rest) ≡ false
no_mark s rest = grind (arith, nat_tests)

literal_unmarked : (ss : List (List ℕ)) → unmarked (joined ss) ≡ joined ss
literal_unmarked [] = refl
literal_unmarked (s ∷ []) = cond-false _ _ _ (ap (begins_with (λ c. c == 0xFEFF)) (sym (append-nil (delimited s))) ∙ no_mark s [])
literal_unmarked (s ∷ r ∷ ss) = cond-false _ _ _ (no_mark s (codes " ~ " ++ joined (r ∷ ss)))

pub literal_reads_back : (cs : List ℕ) → list_all is_xml_char cs ≡ true → (ts : List Lexeme) × HasTokens (literal_of cs) ts × SegmentsHaveText ts cs
unfolding literal_of
literal_reads_back cs xml =
    let ss = segments cs in
    let together = segments_together cs in
    let all : list_all is_xml_char (flat_map (λ s. s) ss) ≡ true = ap (list_all is_xml_char) (segments_join cs) ∙ xml in
    let start = unmarked_start (joined ss) in (
      lexemes start (literal_pieces ss),
      record { xml = literal_xml ss all; pieces = literal_pieces ss; cut = subst (λ t. IsCut t (literal_pieces ss) []) (sym (literal_unmarked ss)) (literal_cut ss together); are = refl },
      subst (SegmentsHaveText (lexemes start (literal_pieces ss))) (segments_join cs) (literal_texts ss start together all),
    )

-- the bytes of the literal of a text are read back as the text
pub literal_bytes_read_back : (text : List ℕ) → list_all is_xml_char (chars text) ≡ true → IsUtf8 (literal_bytes text) × ((ts : List Lexeme) × HasTokens (chars (literal_bytes text)) ts × SegmentsHaveText ts (chars text))
literal_bytes_read_back text h1 = grind (arith, nat_tests, chars-encodes, literal_reads_back, xml_scalars)
