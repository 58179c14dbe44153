-- The tokens of a text: names are names, segments are texts of XML characters.
use Rattle.std.proofs.Common.{◌≡◌, ℕ, zero, suc, ◌+◌, ◌-◌, Bool, true, false, not, cond, List, [], ◌∷◌, ◌++◌, length, take, drop, refl, sym, ap, ◌∙◌, subst}
use Rattle.std.specs.Prelude.{⊤, ◌&&◌, ◌==◌, bytes_eq, map}
use Rattle.std.specs.List.{list_all, AllByRecursion}
use Rattle.std.specs.Str.{chars, encode_utf8_all}
use Rattle.std.proofs.lemmas.Bool.{and_parts, and_from}
use Rattle.std.proofs.lemmas.Str.{chars-encodes, encodes-chars, encodes-append}
use Rattle.rn_text.specs.declared.parts.Kind.{Kind}
use Rattle.rn_text.specs.declared.parts.Kind.TheVariants.{Name, Keyword, Quoted, Prefixed, AnyOf, Segment, Symbol}
use Rattle.rn_text.specs.declared.parts.Part.{Part}
use Rattle.rn_text.specs.declared.parts.Part.TheVariants.{Space, Comment, Token}
use Rattle.rn_text.specs.Characters.{is_xml_char, is_ncname, is_keyword, is_name_char}
use Rattle.rn_text.specs.Segments.{run_of, after_run, begins_with, escape_front, is_whole_escape, escaped_char, after_escape, opens_threefold, is_segment, between_delimiters, text_after, segment_text}
use Rattle.rn_text.specs.Parts.{spells, Piece, text_of, IsCut}
use Rattle.rn_text.specs.Tokens.{Lexeme, HasTokens, width, unmarked, unmarked_start, has_mark}
use Rattle.rn_text.proofs.Words.XmlNames.{ncname_xml}
use Rattle.rn_text.proofs.Words.AppendedLists.{all_append, all_parts}
use Rattle.rn_text.proofs.Quoting.SegmentContents.{EscapesWhole, segment_whole}
use Rattle.rn_text.specs.Texts.{Text}
use Rattle.rn_text.specs.declared.keywords.Keyword as code
use Rattle.rn_text.specs.declared.keywords.Keyword.TheVariants as k
use Rattle.rn_syntax.specs.Terminal as t
use Rattle.rn_syntax.specs.Terminal.{Terminal, Placed, ◌#◌}
use Rattle.rn_syntax.specs.Grammar.{Tokens}
use Rattle.rn_syntax.specs.TokenTerminals.{spelled_in, keyword_row, keyword_rows, symbol_rows, terminal_of, terminals}
use Rattle.rn_text.proofs.TokenLists.CutLexemes.{xml_scalars}
use Rattle.rn_syntax.proofs.TokenKinds.PieceTokens.{before, terms, terms-are}
use Rattle.rn_assemble.specs.WritableTexts.{IsName, IsXml}

-- ---- names and texts in bytes

pub xml_is : (cs : List ℕ) → list_all is_xml_char cs ≡ true → IsXml (encode_utf8_all cs)
xml_is cs x = record { utf8 = (cs, (xml_scalars cs x, refl)); is = ap (list_all is_xml_char) (chars-encodes cs (xml_scalars cs x)) ∙ x }

pub name_is : (cs : List ℕ) → is_ncname cs ≡ true → IsName (encode_utf8_all cs)
name_is cs x = let scalar = xml_scalars cs (ncname_xml cs x) in record { utf8 = (cs, (scalar, refl)); is = ap is_ncname (chars-encodes cs scalar) ∙ x }

-- a text of XML characters behind another
pub xml_append : (s t : Text) → IsXml s → IsXml t → IsXml (s ++ t)
xml_append s t x y =
    let both = all_append is_xml_char (chars s) (chars t) x.is y.is in
    subst IsXml (encodes-append (chars s) (chars t) ∙ (λ i. encodes-chars s x.utf8 i ++ encodes-chars t y.utf8 i)) (xml_is (chars s ++ chars t) both)

pub xml_nothing : IsXml []
xml_nothing = xml_is [] refl

-- ---- segments

all_drop : (p : ℕ → Bool) (n : ℕ) (cs : List ℕ) → list_all p cs ≡ true → list_all p (drop n cs) ≡ true
all_drop p zero cs h = h
all_drop p (suc n) [] h = h
all_drop p (suc n) (c ∷ cs) h = all_drop p n cs (and_parts (p c) (list_all p cs) h).1

all_take : (p : ℕ → Bool) (n : ℕ) (cs : List ℕ) → list_all p cs ≡ true → list_all p (take n cs) ≡ true
all_take p zero cs h = refl
all_take p (suc n) [] h = h
all_take p (suc n) (c ∷ cs) h = let here = and_parts (p c) (list_all p cs) h in and_from (p c) (list_all p (take n cs)) here.0 (all_take p n cs here.1)

between_xml_at : (b : Bool) (cs : List ℕ) → list_all is_xml_char cs ≡ true → list_all is_xml_char (cond b (take (length cs - 6) (drop 3 cs)) (take (length cs - 2) (drop 1 cs))) ≡ true
between_xml_at true cs h = all_take is_xml_char (length cs - 6) (drop 3 cs) (all_drop is_xml_char 3 cs h)
between_xml_at false cs h = all_take is_xml_char (length cs - 2) (drop 1 cs) (all_drop is_xml_char 1 cs h)

whole_tail : (c : ℕ) (cs : List ℕ) → EscapesWhole (c ∷ cs) → EscapesWhole cs
whole_tail c cs w front after split e = w (c ∷ front) after (ap (λ l. c ∷ l) split) e

xml_escape : (cs : List ℕ) → is_whole_escape cs ≡ true → is_xml_char (escaped_char cs) ≡ true
xml_escape cs w = (and_parts _ (is_xml_char (escaped_char cs)) w).1

line_feed_xml : is_xml_char 10 ≡ true
unfolding is_xml_char
line_feed_xml = refl

text_xml_at : (e r : Bool) (c : ℕ) (cs more feed : List ℕ) → escape_front (c ∷ cs) ≡ e → EscapesWhole (c ∷ cs) → is_xml_char c ≡ true
    → list_all is_xml_char more ≡ true → list_all is_xml_char feed ≡ true → list_all is_xml_char (text_after 0 cs) ≡ true
    → list_all is_xml_char (cond e (escaped_char (c ∷ cs) ∷ more) (cond r (10 ∷ feed) (c ∷ text_after 0 cs))) ≡ true
text_xml_at true r c cs more feed e w x h f g = and_from (is_xml_char (escaped_char (c ∷ cs))) (list_all is_xml_char more) (xml_escape (c ∷ cs) (w [] (c ∷ cs) refl e)) h
text_xml_at false true c cs more feed e w x h f g = and_from (is_xml_char 10) (list_all is_xml_char feed) line_feed_xml f
text_xml_at false false c cs more feed e w x h f g = and_from (is_xml_char c) (list_all is_xml_char (text_after 0 cs)) x g

-- the text of characters of XML, whose escapes stand for such
text_xml : (n : ℕ) (cs : List ℕ) → EscapesWhole cs → list_all is_xml_char cs ≡ true → list_all is_xml_char (text_after n cs) ≡ true
text_xml zero [] w h = refl
text_xml (suc n) [] w h = refl
text_xml (suc n) (c ∷ cs) w h = text_xml n cs (whole_tail c cs w) (and_parts (is_xml_char c) (list_all is_xml_char cs) h).1
text_xml zero (c ∷ cs) w h =
    let here = and_parts (is_xml_char c) (list_all is_xml_char cs) h in
    let tail = whole_tail c cs w in
    text_xml_at (escape_front (c ∷ cs)) (c == 13) c cs (text_after (length cs - length (after_escape (c ∷ cs))) cs) (text_after (cond (begins_with (λ d. d == 10) cs) 1 0) cs) refl w here.0
    (text_xml (length cs - length (after_escape (c ∷ cs))) cs tail here.1) (text_xml (cond (begins_with (λ d. d == 10) cs) 1 0) cs tail here.1) (text_xml 0 cs tail here.1)

segment_xml : (cs : List ℕ) → is_segment cs ≡ true → list_all is_xml_char cs ≡ true → list_all is_xml_char (segment_text cs) ≡ true
segment_xml cs s h = text_xml 0 (between_delimiters cs) (segment_whole cs s) (between_xml_at (opens_threefold cs) cs h)

-- ---- terminals

abbrev pub IsGoodTerminal : Terminal → Type 0
IsGoodTerminal (t.ident n) = IsName n
IsGoodTerminal (t.prefixed p l) = IsName p × IsName l
IsGoodTerminal (t.segment s) = IsXml s
IsGoodTerminal x = ⊤

abbrev pub IsGoodPlaced : Placed → Type 0
IsGoodPlaced (x # i) = IsGoodTerminal x

abbrev pub AreGood : Tokens → Type 0
AreGood = AllByRecursion IsGoodPlaced

in_rows_at : (b : Bool) (x y : Terminal) → IsGoodTerminal x → IsGoodTerminal y → IsGoodTerminal (cond b x y)
in_rows_at true x y h k = h
in_rows_at false x y h k = k

in_rows : (rows : List (List ℕ × Terminal)) (cs : List ℕ) → AllByRecursion (λ row. IsGoodTerminal row.1) rows → IsGoodTerminal (spelled_in rows cs)
in_rows [] cs h = tt
in_rows (row ∷ rows) cs h = in_rows_at (bytes_eq row.0 cs) row.1 (spelled_in rows cs) h.0 (in_rows rows cs h.1)

words_good : (ws : List code.Keyword) → AllByRecursion (λ (row : List ℕ × Terminal). IsGoodTerminal row.1) (map keyword_row ws)
words_good [] = tt
words_good (w ∷ ws) = (tt, words_good ws)

keywords_good : AllByRecursion (λ (row : List ℕ × Terminal). IsGoodTerminal row.1) keyword_rows
unfolding keyword_rows
keywords_good = words_good (k.Attribute ∷ k.Default ∷ k.Datatypes ∷ k.Div ∷ k.Element ∷ k.Empty ∷ k.External ∷ k.Grammar ∷ k.Include ∷ k.Inherit ∷ k.List ∷ k.Mixed ∷ k.Namespace ∷ k.NotAllowed ∷ k.Parent ∷ k.Start ∷ k.String ∷ k.Text ∷ k.Token ∷ [])

symbols_good : AllByRecursion (λ (row : List ℕ × Terminal). IsGoodTerminal row.1) symbol_rows
unfolding symbol_rows
symbols_good = (tt, (tt, (tt, (tt, (tt, (tt, (tt, (tt, (tt, (tt, (tt, (tt, (tt, (tt, (tt, (tt, (tt, (tt, tt))))))))))))))))))

quoted_name : (cs : List ℕ) → spells (Token Quoted) cs ≡ true → is_ncname (drop 1 cs) ≡ true
quoted_name [] e = cc
quoted_name (c ∷ cs) e = (and_parts (c == 92) (is_ncname cs) e).1

terminal_good : (kind : Kind) (cs : List ℕ) → spells (Token kind) cs ≡ true → list_all is_xml_char cs ≡ true → IsGoodTerminal (terminal_of kind cs)
terminal_good Name cs e h = name_is cs (and_parts (is_ncname cs) (not (is_keyword cs)) e).0
terminal_good Keyword cs e h = in_rows keyword_rows cs keywords_good
terminal_good Quoted cs e h = name_is (drop 1 cs) (quoted_name cs e)
terminal_good Prefixed cs e h =
    let outer = and_parts (is_ncname (run_of is_name_char cs) && begins_with (λ d. d == 58) (after_run is_name_char cs)) (is_ncname (drop 1 (after_run is_name_char cs))) e in
    (name_is (run_of is_name_char cs) (and_parts (is_ncname (run_of is_name_char cs)) _ outer.0).0, name_is (drop 1 (after_run is_name_char cs)) outer.1)
terminal_good AnyOf cs e h = tt
terminal_good Segment cs e h = xml_is (segment_text cs) (segment_xml cs e h)
terminal_good Symbol cs e h = in_rows symbol_rows cs symbols_good

before_good : (part : Part) (i : ℕ) (cs : List ℕ) (ts : Tokens) → spells part cs ≡ true → list_all is_xml_char cs ≡ true → AreGood ts → AreGood (before part i cs ts)
before_good Space i cs ts e h g = g
before_good Comment i cs ts e h g = g
before_good (Token kind) i cs ts e h g = (terminal_good kind cs e h, g)

cut_good : (text : List ℕ) (ps : List Piece) (i : ℕ) → IsCut text ps [] → list_all is_xml_char text ≡ true → AreGood (terms i ps []) × (list_all is_xml_char (text_of ps) ≡ true)
cut_good text [] i c h = (tt, refl)
cut_good text (p ∷ ps) i (after, first, more) h =
    let parts = all_parts is_xml_char p.spelling after (ap (list_all is_xml_char) first.begins.split ∙ h) in
    let rest = cut_good after ps (i + width p) more parts.1 in
    (before_good p.part i p.spelling (terms (i + width p) ps []) first.begins.spelled parts.0 rest.0, all_append is_xml_char p.spelling (text_of ps) parts.0 rest.1)

unmarked_xml_at : (b : Bool) (cs : List ℕ) → list_all is_xml_char cs ≡ true → list_all is_xml_char (cond b (drop 1 cs) cs) ≡ true
unmarked_xml_at true cs h = all_drop is_xml_char 1 cs h
unmarked_xml_at false cs h = h

-- the tokens of a text are good
pub tokens_good : (cs : List ℕ) (ts : List Lexeme) → HasTokens cs ts → AreGood (terminals ts)
tokens_good cs ts has =
    let start = unmarked_start cs in
    let both = cut_good (unmarked cs) has.pieces start has.cut (unmarked_xml_at (has_mark cs) cs has.xml) in
    subst (λ l. AreGood (terminals l)) (sym has.are) (subst AreGood (terms-are start has.pieces both.1) both.0)
