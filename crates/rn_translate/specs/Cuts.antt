-- Texts that are cut into tokens, whatever follows (RELAX NG Compact Syntax, 2 and appendix A).
use Rattle.std.specs.Prelude.{◌≡◌, ℕ, Bool, true, false, if◌then◌else◌, List, [], ◌∷◌, ◌++◌, map, codes}
use Rattle.std.specs.List.{list_all}
use Rattle.std.specs.Str.{chars, encode_utf8_all}
use Rattle.rn_text.specs.Characters.{is_xml_char}
use Rattle.rn_text.specs.declared.parts.Part.{Part}
use Rattle.rn_text.specs.declared.parts.Part.TheVariants.{Space, Comment, Token}
use Rattle.rn_text.specs.Parts.{Piece, IsCut, ends_token, text_of}
use Rattle.rn_text.specs.Texts.{Text}
use Rattle.rn_text.specs.Tokens.{HasTokens, Lexeme, has_mark}
use Rattle.rn_translate.specs.Spelled.{Spelled}
use Rattle.rn_translate.specs.TokenTexts.{spelled_of}

-- what may follow a text: behind a word, the end or a character before which each token ends; else anything
abbrev pub may_follow : (is_open : Bool) → List ℕ → Bool
may_follow is_open rest = if is_open then ends_token rest else true

-- the token that these bytes are, if they are one
abbrev pub spelled_at : Part → Text → List Spelled
spelled_at Space bytes = []
spelled_at Comment bytes = []
spelled_at (Token k) bytes = record { kind = k; text = bytes } ∷ []

-- the tokens among the pieces
abbrev pub spelled : List Piece → List Spelled
spelled [] = []
spelled (p ∷ ps) = spelled_at p.part (encode_utf8_all p.spelling) ++ spelled ps

-- the pieces are the parts of the text, wherever it goes on as it may, and these tokens are among them
pub record Cut (is_open : Bool) (text : Text) (tokens : List Spelled) : Type 0 where
  pub pieces : List Piece
  pub are : text ≡ encode_utf8_all (text_of pieces)
  pub xml : list_all is_xml_char (text_of pieces) ≡ true
  pub cut : (rest : List ℕ) → may_follow is_open rest ≡ true → IsCut (text_of pieces ++ rest) pieces rest
  pub tokens_are : spelled pieces ≡ tokens

-- the same, and some tokens
pub record AnyCut (is_open : Bool) (text : Text) : Type 0 where
  pub tokens : List Spelled
  pub cut : Cut is_open text tokens

-- the text is white space, comments and whole tokens; is_open: it may end with a word, which a further character would lengthen
abbrev pub HasParts : (is_open : Bool) → Text → Type 0
HasParts is_open text = ∥ AnyCut is_open text ∥₁

-- the same, and these are the tokens
abbrev pub IsSpelledAs : (is_open : Bool) → Text → List Spelled → Type 0
IsSpelledAs is_open text tokens = ∥ Cut is_open text tokens ∥₁

-- the text has this token list, and these are its tokens by their kinds and texts
pub record Lexed (text : Text) (tokens : List Spelled) : Type 0 where
  pub lexemes : List Lexeme
  pub has : HasTokens (chars text) lexemes
  pub are : map spelled_of lexemes ≡ tokens

-- the text is a text of these tokens, with white space and comments between them
abbrev pub IsTextOf : Text → List Spelled → Type 0
IsTextOf text tokens = ∥ Lexed text tokens ∥₁

-- the text of these tokens may stand behind a word, and before anything; it begins with no byte order mark
pub record IsSign (text : Text) (tokens : List Spelled) : Type 0 where
  pub spelled_as : IsSpelledAs false text tokens
  pub apart : ends_token (chars text) ≡ true
  pub unmarked : has_mark (chars text) ≡ false

-- a space stands before a token behind a word, and before what would be a byte order mark at the start of a text
abbrev pub needs_gap : (is_open : Bool) → (token : Text) → Bool
needs_gap is_open token = if is_open then true else has_mark (chars token)

abbrev pub gap : (is_open : Bool) → (token : Text) → Text
gap is_open token = if needs_gap is_open token then codes " " else []
