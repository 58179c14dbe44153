-- Texts that are cut into tokens, one behind the other.
use Rattle.std.proofs.Common.{◌≡◌, ℕ, ◌+◌, ◌<◌, Bool, true, false, List, [], ◌∷◌, ◌++◌, length, refl, sym, ap, ◌∙◌, subst, ltb, append_assoc, append-nil, ⊎_elim, arith}
use mathlib.Core.Logic.{∥∥₁_map, ∥∥₁_map₂, ∥∥₁_elim}
use mathlib.Core.HLevel.{⊥_prop}
use Rattle.std.proofs.lemmas.Bool.{and_parts, cond-false, ltb-true}
use Rattle.std.specs.Prelude.{map}
use Rattle.std.specs.List.{list_all}
use Rattle.std.specs.Str.{IsUtf8, chars, encode_utf8_all}
use Rattle.std.proofs.lemmas.Str.{chars-append, encode_ascii, chars-encodes, encodes-append, encodes-chars}
use Rattle.rn_text.specs.declared.parts.Part.{Part}
use Rattle.rn_text.specs.declared.parts.Part.TheVariants.{Space, Comment, Token}
use Rattle.rn_text.specs.Characters.{is_xml_char}
use Rattle.rn_text.specs.Parts.{Piece, IsCut, ends_token, text_of}
use Rattle.rn_text.specs.Texts.{Text}
use Rattle.rn_text.specs.Tokens.{HasTokens, IsLexicalPlace, Lexeme, has_mark, lexeme_at, lexemes, unmarked, unmarked_start, width}
use Rattle.rn_text.proofs.Cutting.SoundPieces.{text_of-append, cut_then}
use Rattle.rn_text.proofs.TokenLists.CutLexemes.{xml_scalars}
use Rattle.rn_text.proofs.TokenLists.OneFaultPlace.{list_or_place}
use Rattle.rn_text.proofs.TokenLists.TokensOrFault.{tokens_or_place}
use Rattle.rn_text.proofs.Words.AppendedLists.{all_append}
use Rattle.rn_translate.specs.Spelled.{Spelled}
use Rattle.rn_translate.specs.TokenTexts.{spelled_of}
use Rattle.rn_translate.specs.Cuts.{Cut, HasParts, IsSpelledAs, IsTextOf, may_follow, spelled, spelled_at}

-- ASCII characters are their bytes
pub ascii : (cs : List ℕ) → list_all (λ c. ltb c 128) cs ≡ true → encode_utf8_all cs ≡ cs
ascii [] e = refl
ascii (c ∷ cs) e = let both = and_parts (ltb c 128) (list_all (λ d. ltb d 128) cs) e in (λ i. encode_ascii c (ltb-true c 128 both.0) i ++ ascii cs both.1 i)

-- characters of XML that ASCII has
abbrev pub IsPlain : List ℕ → Type 0
IsPlain cs = (list_all is_xml_char cs ≡ true) × (list_all (λ c. ltb c 128) cs ≡ true)

pub plain_characters : (cs : List ℕ) → IsPlain cs → chars cs ≡ cs
plain_characters cs (xml, low) = ap chars (sym (ascii cs low)) ∙ chars-encodes cs (xml_scalars cs xml)

-- a text of nothing
pub nothing_cut : Cut false [] []
nothing_cut = record { pieces = []; are = refl; xml = refl; cut = λ rest e. refl; tokens_are = refl }

-- the characters of a text that is cut
pub characters : {a : Bool} {x : Text} {ts : List Spelled} (c : Cut a x ts) → chars x ≡ text_of c.pieces
characters c = ap chars c.are ∙ chars-encodes (text_of c.pieces) (xml_scalars (text_of c.pieces) c.xml)

-- pieces whose text goes on with pieces
joins : (ps qs : List Piece) (rest : List ℕ) → IsCut (text_of ps ++ (text_of qs ++ rest)) ps (text_of qs ++ rest) → IsCut (text_of qs ++ rest) qs rest
    → IsCut (text_of (ps ++ qs) ++ rest) (ps ++ qs) rest
joins ps qs rest h k =
    subst (λ t. IsCut t (ps ++ qs) rest) (sym (ap (λ l. l ++ rest) (text_of-append ps qs) ∙ append_assoc (text_of ps) (text_of qs) rest))
    (cut_then (text_of ps ++ (text_of qs ++ rest)) ps (text_of qs ++ rest) qs rest h k)

spelled-append : (ps qs : List Piece) → spelled (ps ++ qs) ≡ spelled ps ++ spelled qs
spelled-append [] qs = refl
spelled-append (p ∷ ps) qs =
    let first = spelled_at p.part (encode_utf8_all p.spelling) in
    ap (λ l. first ++ l) (spelled-append ps qs) ∙ sym (append_assoc first (spelled ps) (spelled qs))

-- behind the first, what the second begins with may follow
pub joined : {a b : Bool} {x y : Text} {ts us : List Spelled} (c : Cut b x ts) (d : Cut a y us) → ((rest : List ℕ) → may_follow a rest ≡ true → may_follow b (text_of d.pieces ++ rest) ≡ true)
    → Cut a (x ++ y) (ts ++ us)
joined {x = x} {y = y} {ts = ts} c d follows = record {
  pieces = c.pieces ++ d.pieces;
  are = ap (λ l. l ++ y) c.are ∙ ap (λ l. encode_utf8_all (text_of c.pieces) ++ l) d.are ∙ sym (encodes-append (text_of c.pieces) (text_of d.pieces)) ∙ ap encode_utf8_all (sym (text_of-append c.pieces d.pieces));
  xml = ap (list_all is_xml_char) (text_of-append c.pieces d.pieces) ∙ all_append is_xml_char (text_of c.pieces) (text_of d.pieces) c.xml d.xml;
  cut = λ rest e. joins c.pieces d.pieces rest (c.cut (text_of d.pieces ++ rest) (follows rest e)) (d.cut rest e);
  tokens_are = spelled-append c.pieces d.pieces ∙ ap (λ l. l ++ spelled d.pieces) c.tokens_are ∙ ap (λ l. ts ++ l) d.tokens_are;
}

-- behind a text that anything may follow
pub joined_closed : {a : Bool} {x y : Text} {ts us : List Spelled} → Cut false x ts → Cut a y us → Cut a (x ++ y) (ts ++ us)
joined_closed c d = joined c d (λ rest e. refl)

-- what begins as it may where the text before it is open, whatever stands behind
behind : (b : Bool) (cs rest : List ℕ) → 0 < length cs → (b ≡ true → ends_token cs ≡ true) → may_follow b (cs ++ rest) ≡ true
behind false cs rest some h = refl
behind true [] rest some h = absurd (omega (arith, some))
behind true (c ∷ cs) rest some h = h refl

some_characters : {a : Bool} {y : Text} {ts : List Spelled} (d : Cut a y ts) → 0 < length y → 0 < length (text_of d.pieces)
some_characters {y = y} d some = go (text_of d.pieces) d.are
  where
    go : (cs : List ℕ) → y ≡ encode_utf8_all cs → 0 < length cs
    go [] e = absurd (omega (arith, ap length e, some))
    go (c ∷ cs) e = omega arith

-- behind any text, what begins with white space, a bracket, a comma or a sign of repetition
pub joined_apart : {a b : Bool} {x : Text} {ts us : List Spelled} → Cut b x ts → (cs : List ℕ) → Cut a cs us → IsPlain cs → ends_token cs ≡ true → 0 < length cs → Cut a (x ++ cs) (ts ++ us)
joined_apart {b = b} c cs d plain apart some =
    let same : text_of d.pieces ≡ cs = sym (characters d) ∙ plain_characters cs plain in
    joined c d (λ rest e. ap (λ l. may_follow b (l ++ rest)) same ∙ behind b cs rest some (λ is. apart))

-- a text that goes on
goes_on : {a b : Bool} {x y : Text} {ts us : List Spelled} → Cut b x ts → Cut a y us → (b ≡ true → ends_token (chars y) ≡ true) → 0 < length y → Cut a (x ++ y) (ts ++ us)
goes_on {b = b} {y = y} c d apart some =
    joined c d (λ rest e. behind b (text_of d.pieces) rest (some_characters d some) (λ is. sym (ap ends_token (characters d)) ∙ apart is))

pub parts_joined : {a b : Bool} {x y : Text} → HasParts b x → HasParts a y → (b ≡ true → ends_token (chars y) ≡ true) → 0 < length y → HasParts a (x ++ y)
parts_joined h k apart some = ∥∥₁_map₂ h k (λ c d. record { tokens = c.tokens ++ d.tokens; cut = goes_on c.cut d.cut apart some })

pub tokens_joined : {a b : Bool} {x y : Text} {ts us : List Spelled} → IsSpelledAs b x ts → IsSpelledAs a y us → (b ≡ true → ends_token (chars y) ≡ true) → 0 < length y
    → IsSpelledAs a (x ++ y) (ts ++ us)
tokens_joined h k apart some = ∥∥₁_map₂ h k (λ c d. goes_on c d apart some)

mark_of : (cs ds : List ℕ) → has_mark cs ≡ false → (has_mark ds ≡ true → 0 < length cs) → has_mark (cs ++ ds) ≡ false
mark_of [] ds h k = go (has_mark ds) k
  where
    go : (m : Bool) → (m ≡ true → 0 < 0) → m ≡ false
    go false f = refl
    go true f = absurd (omega (arith, f refl))
mark_of (c ∷ cs) ds h k = h

characters_of_some : (x : Text) → IsUtf8 x → 0 < length x → 0 < length (chars x)
characters_of_some x u some = go (chars x) (encodes-chars x u)
  where
    go : (cs : List ℕ) → encode_utf8_all cs ≡ x → 0 < length cs
    go [] e = absurd (omega (arith, ap length e, some))
    go (c ∷ cs) e = omega arith

-- a text that goes on begins with no byte order mark
pub mark_joined : (x y : Text) → IsUtf8 x → has_mark (chars x) ≡ false → (has_mark (chars y) ≡ true → 0 < length x) → has_mark (chars (x ++ y)) ≡ false
mark_joined x y u h k = ap has_mark (chars-append x y u) ∙ mark_of (chars x) (chars y) h (λ m. characters_of_some x u (k m))

-- a text without a byte order mark is what is cut
no_mark : (cs : List ℕ) → has_mark cs ≡ false → unmarked cs ≡ cs
no_mark cs h = cond-false _ _ _ h

may_end : (b : Bool) → may_follow b [] ≡ true
may_end false = refl
may_end true = refl

cut_tokens : {b : Bool} {x : Text} {ts : List Spelled} (c : Cut b x ts) → has_mark (chars x) ≡ false → HasTokens (chars x) (lexemes (unmarked_start (text_of c.pieces)) c.pieces)
cut_tokens {b = b} {x = x} c h =
    let cs = text_of c.pieces in
    let plain : unmarked cs ≡ cs = no_mark cs (sym (ap has_mark (characters c)) ∙ h) in
    let cut : IsCut (unmarked cs) c.pieces [] = subst (λ t. IsCut t c.pieces []) (append-nil cs ∙ sym plain) (c.cut [] (may_end b)) in
    let found : HasTokens cs (lexemes (unmarked_start cs) c.pieces) = record { xml = c.xml; pieces = c.pieces; cut = cut; are = refl } in
    subst (λ t. HasTokens t (lexemes (unmarked_start cs) c.pieces)) (sym (characters c)) found

-- a text of whole tokens has tokens
pub parts_have_tokens : (b : Bool) (x : Text) → HasParts b x → has_mark (chars x) ≡ false → (tokens : List Lexeme) × HasTokens (chars x) tokens
parts_have_tokens b x h m = ⊎_elim
    (λ some. some)
    (λ (at : (place : ℕ) × IsLexicalPlace (chars x) place). absurd (∥∥₁_elim h ⊥_prop (λ c. list_or_place (chars x) (lexemes (unmarked_start (text_of c.cut.pieces)) c.cut.pieces) at.0 (cut_tokens c.cut m) at.1)))
    (tokens_or_place (chars x))

spelled_first : (q : Part) (place : ℕ) (bytes : Text) (rest : List Lexeme) → map spelled_of (lexeme_at place q bytes ++ rest) ≡ spelled_at q bytes ++ map spelled_of rest
spelled_first Space place bytes rest = refl
spelled_first Comment place bytes rest = refl
spelled_first (Token k) place bytes rest = refl

spelled_lexemes : (place : ℕ) (ps : List Piece) → map spelled_of (lexemes place ps) ≡ spelled ps
spelled_lexemes place [] = refl
spelled_lexemes place (p ∷ ps) =
    let bytes = encode_utf8_all p.spelling in
    spelled_first p.part place bytes (lexemes (place + width p) ps) ∙ ap (λ l. spelled_at p.part bytes ++ l) (spelled_lexemes (place + width p) ps)

-- a text of these tokens has them as its token list
pub text_of_tokens : (b : Bool) (x : Text) (tokens : List Spelled) → IsSpelledAs b x tokens → has_mark (chars x) ≡ false → IsTextOf x tokens
text_of_tokens b x tokens h m = ∥∥₁_map h (λ c. record {
  lexemes = lexemes (unmarked_start (text_of c.pieces)) c.pieces;
  has = cut_tokens c m;
  are = spelled_lexemes (unmarked_start (text_of c.pieces)) c.pieces ∙ c.tokens_are;
})
