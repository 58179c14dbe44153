-- The tokens of signs.
use Rattle.std.specs.Prelude.{List, [], ◌∷◌, codes}
use Rattle.rn_text.specs.declared.parts.Kind.TheVariants.{Keyword, Symbol}
use Rattle.rn_text.specs.Texts.{Text}
use Rattle.rn_translate.specs.Spelled.{Spelled}
use Rattle.rn_translate.specs.declared.signs.Sign.{Sign}
use Rattle.rn_translate.specs.declared.signs.Sign.TheVariants as g

abbrev pub symbol_token : Text → List Spelled
symbol_token x = record { kind = Symbol; text = x } ∷ []

-- the tokens of a sign; white space has none
abbrev pub sign_tokens : Sign → List Spelled
sign_tokens g.Nothing = []
sign_tokens g.Space = []
sign_tokens g.LineEnd = []
sign_tokens g.Comma = symbol_token (codes ",")
sign_tokens g.Ampersand = symbol_token (codes "&")
sign_tokens g.Bar = symbol_token (codes "|")
sign_tokens g.Minus = symbol_token (codes "-")
sign_tokens g.Equals = symbol_token (codes "=")
sign_tokens g.ChoiceEquals = symbol_token (codes "|=")
sign_tokens g.InterleaveEquals = symbol_token (codes "&=")
sign_tokens g.CloseParenthesis = symbol_token (codes ")")
sign_tokens g.OpenBrace = symbol_token (codes "{")
sign_tokens g.OpenBraceLine = symbol_token (codes "{")
sign_tokens g.CloseBrace = symbol_token (codes "}")
sign_tokens g.CloseBraceAlone = symbol_token (codes "}")
sign_tokens g.CloseBraceLine = symbol_token (codes "}")
sign_tokens g.BracedText =
    record { kind = Symbol; text = codes "{" } ∷ record { kind = Keyword; text = codes "text" } ∷ record { kind = Symbol; text = codes "}" } ∷ []
sign_tokens g.Question = symbol_token (codes "?")
sign_tokens g.Star = symbol_token (codes "*")
sign_tokens g.Plus = symbol_token (codes "+")
