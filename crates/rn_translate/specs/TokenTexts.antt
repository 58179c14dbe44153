-- Tokens of names, keywords, literals and prefixes (RELAX NG Compact Syntax, 2 and appendix A).
use Rattle.std.specs.Prelude.{ℕ, if◌then◌else◌, List, [], ◌∷◌, ◌++◌, codes, decimal, encode_utf8}
use Rattle.std.specs.Str.{chars, encode_utf8_all}
use Rattle.rn_text.specs.declared.parts.Kind.{Kind}
use Rattle.rn_text.specs.declared.parts.Kind.TheVariants.{Keyword, Name, Quoted, Segment, Symbol}
use Rattle.rn_text.specs.Characters.{is_keyword}
use Rattle.rn_text.specs.Literals.{delimited, segments}
use Rattle.rn_text.specs.Texts.{Text}
use Rattle.rn_text.specs.Tokens.{Lexeme}
use Rattle.rn_translate.specs.Spelled.{Spelled}

-- a token of a source, wherever it stands
abbrev pub spelled_of : Lexeme → Spelled
spelled_of t = record { kind = t.kind; text = t.text }

-- one token
abbrev pub one_token : Kind → Text → List Spelled
one_token k x = record { kind = k; text = x } ∷ []

-- a name, or a keyword
abbrev pub word_kind : List ℕ → Kind
word_kind s = if is_keyword s then Keyword else Name

abbrev pub word_token : Text → List Spelled
word_token x = one_token (word_kind (chars x)) x

-- the name of a definition, which a backslash parts from keywords
abbrev pub identifier_token : Text → List Spelled
identifier_token x = if is_keyword (chars x) then one_token Quoted (92 ∷ x) else word_token x

-- the segments of a literal, and the signs between them
abbrev pub joined_tokens : List (List ℕ) → List Spelled
joined_tokens [] = one_token Segment (encode_utf8_all (delimited []))
joined_tokens (s ∷ []) = one_token Segment (encode_utf8_all (delimited s))
joined_tokens (s ∷ r ∷ rs) = one_token Segment (encode_utf8_all (delimited s)) ++ (one_token Symbol (codes "~") ++ joined_tokens (r ∷ rs))

abbrev pub literal_tokens : Text → List Spelled
literal_tokens x = joined_tokens (segments (chars x))

-- a prefix: a letter and a number
abbrev pub numbered_bytes : ℕ → ℕ → Text
numbered_bytes letter number = encode_utf8 letter ++ decimal number
