-- The literal of a text is segments, each cut, and signs between them.
use Rattle.std.proofs.Common.{◌≡◌, ℕ, true, false, List, [], ◌∷◌, ◌++◌, refl, sym, ap, ◌∙◌, subst, append_assoc, arith}
use Rattle.std.specs.Prelude.{codes}
use Rattle.std.specs.List.{AllByRecursion, flat_map, list_all}
use Rattle.std.specs.Str.{chars, encode_utf8_all}
use Rattle.std.proofs.lemmas.Str.{encodes-append}
use Rattle.rn_text.specs.declared.parts.Kind.TheVariants.{Segment, Symbol}
use Rattle.rn_text.specs.Characters.{is_xml_char}
use Rattle.rn_text.specs.Literals.{delimited, joined as joined_segments, literal_bytes, literal_of, segments}
use Rattle.rn_text.specs.Parts.{symbols}
use Rattle.rn_text.specs.Texts.{Text}
use Rattle.rn_text.proofs.Quoting.DelimitedRuns.{delimited_segment, delimited_xml}
use Rattle.rn_text.proofs.Quoting.SegmentTexts.{Together, segments_join, segments_together}
use Rattle.rn_text.proofs.Words.AppendedLists.{all_parts}
use Rattle.rn_translate.specs.Cuts.{Cut, IsSpelledAs}
use Rattle.rn_translate.specs.TokenTexts.{joined_tokens, literal_tokens, one_token}
use Rattle.rn_translate.proofs.CutSigns.{between_spaces}
use Rattle.rn_translate.proofs.CutTexts.{ascii, joined_apart, joined_closed}
use Rattle.rn_translate.proofs.CutTokens.{token_cut}

-- segments that are written apart, of characters of XML
abbrev AreWritten : List (List ℕ) → Type 0
AreWritten ss = AllByRecursion (λ s. Together s × (list_all is_xml_char s ≡ true)) ss

written : (ss : List (List ℕ)) → AllByRecursion Together ss → list_all is_xml_char (flat_map (λ s. s) ss) ≡ true → AreWritten ss
written [] h x = tt
written (s ∷ ss) h x = let both = all_parts is_xml_char s (flat_map (λ r. r) ss) x in ((h.0, both.0), written ss h.1 both.1)

segment_cut : (s : List ℕ) → Together s → list_all is_xml_char s ≡ true → Cut true (encode_utf8_all (delimited s)) (one_token Segment (encode_utf8_all (delimited s)))
segment_cut s t x = token_cut Segment (delimited s) (delimited_xml s x) (delimited_segment s t)

tilde_cut : Cut false (codes " ~ ") (one_token Symbol (codes "~"))
unfolding is_xml_char symbols
tilde_cut = between_spaces (codes "~") refl (refl, refl)

bytes : (front rest : List ℕ) → encode_utf8_all front ++ (codes " ~ " ++ encode_utf8_all rest) ≡ encode_utf8_all (front ++ (codes " ~ " ++ rest))
bytes front rest =
    ap (λ l. encode_utf8_all front ++ l) (ap (λ b. b ++ encode_utf8_all rest) (sym (ascii (codes " ~ ") refl)) ∙ sym (encodes-append (codes " ~ ") rest))
    ∙ sym (encodes-append front (codes " ~ " ++ rest))

segments_cut : (ss : List (List ℕ)) → AreWritten ss → Cut true (encode_utf8_all (joined_segments ss)) (joined_tokens ss)
unfolding is_xml_char
segments_cut [] h = segment_cut [] tt refl
segments_cut (s ∷ []) h = segment_cut s h.0.0 h.0.1
segments_cut (s ∷ r ∷ rs) h =
    let rest = joined_segments (r ∷ rs) in
    let front = joined_apart (segment_cut s h.0.0 h.0.1) (codes " ~ ") tilde_cut (refl, refl) refl (omega arith) in
    let whole = joined_closed front (segments_cut (r ∷ rs) h.1) in
    subst (λ t. Cut true t (joined_tokens (s ∷ r ∷ rs))) (append_assoc (encode_utf8_all (delimited s)) (codes " ~ ") (encode_utf8_all rest) ∙ bytes (delimited s) rest) whole

pub literal_cut : (x : Text) → list_all is_xml_char (chars x) ≡ true → IsSpelledAs true (literal_bytes x) (literal_tokens x)
unfolding literal_of
literal_cut x xml =
    let cs = chars x in
    ∣ segments_cut (segments cs) (written (segments cs) (segments_together cs) (ap (list_all is_xml_char) (segments_join cs) ∙ xml)) ∣₁
