-- Signs: white space, brackets and operators, as texts that are cut whatever follows.
use Rattle.std.proofs.Common.{◌≡◌, ℕ, true, false, List, [], ◌∷◌, ◌++◌, refl, subst, ap, ◌∙◌, arith}
use Rattle.std.specs.Prelude.{codes}
use Rattle.std.specs.Str.{chars}
use Rattle.rn_text.specs.declared.parts.Kind.{Kind}
use Rattle.rn_text.specs.declared.parts.Kind.TheVariants.{Keyword, Symbol}
use Rattle.rn_text.specs.declared.parts.Part.TheVariants.{Space, Token}
use Rattle.rn_text.specs.Characters.{is_keyword, is_xml_char, keywords}
use Rattle.rn_text.specs.Parts.{ends_token, is_symbol, symbols}
use Rattle.rn_text.specs.Texts.{Text, is_white}
use Rattle.rn_text.specs.Tokens.{has_mark}
use Rattle.rn_text.proofs.Cutting.BeforeBreaks.{is_solo, solo_before}
use Rattle.rn_text.proofs.Cutting.FirstParts.{white_first}
use Rattle.rn_translate.specs.Spelled.{Spelled}
use Rattle.rn_translate.specs.Cuts.{Cut, IsSign, IsSpelledAs}
use Rattle.rn_translate.specs.declared.signs.Sign.TheVariants as g
use Rattle.rn_translate.specs.TokenTexts.{one_token}
use Rattle.rn_translate.specs.inside.SignTokens.{sign_tokens, symbol_token}
use Rattle.rn_translate.proofs.CutTexts.{IsPlain, ascii, plain_characters, joined_apart, joined_closed, nothing_cut}
use Rattle.rn_translate.proofs.CutTokens.{part_cut, token_cut}

white : (c : ℕ) → is_white c ≡ true → IsPlain (c ∷ []) → Cut false (c ∷ []) []
white c w (x, a) = subst (λ t. Cut false t []) (ascii (c ∷ []) a) (part_cut false Space (c ∷ []) x (λ rest e. white_first c rest w))

solo : (c : ℕ) → is_symbol (c ∷ []) ≡ true → is_solo c ≡ true → IsPlain (c ∷ []) → Cut false (c ∷ []) (symbol_token (c ∷ []))
solo c w s (x, a) = subst (λ t. Cut false t (symbol_token t)) (ascii (c ∷ []) a) (part_cut false (Token Symbol) (c ∷ []) x (λ rest e. solo_before c rest w s))

space : Cut false (codes " ") []
unfolding is_xml_char
space = white 32 refl (refl, refl)

line_end : Cut false (codes "\n") []
unfolding is_xml_char
line_end = white 10 refl (refl, refl)

opening_brace : Cut false (codes "{") (symbol_token (codes "{"))
unfolding is_xml_char symbols
opening_brace = solo 123 refl refl (refl, refl)

closing_brace : Cut false (codes "}") (symbol_token (codes "}"))
unfolding is_xml_char symbols
closing_brace = solo 125 refl refl (refl, refl)

-- behind a symbol or a keyword, a space
spaced : {x : Text} {k : Kind} → Cut true x (one_token k x) → Cut false (x ++ codes " ") (one_token k x)
unfolding is_xml_char
spaced c = joined_apart c (codes " ") space (refl, refl) refl (omega arith)

-- a symbol between spaces
pub between_spaces : (s : List ℕ) → is_symbol s ≡ true → IsPlain s → Cut false (codes " " ++ (s ++ codes " ")) (symbol_token s)
between_spaces s is (x, a) = joined_closed space (spaced (subst (λ t. Cut true t (symbol_token t)) (ascii s a) (token_cut Symbol s x is)))

text_word : Cut true (codes "text") (one_token Keyword (codes "text"))
unfolding is_xml_char is_keyword keywords
text_word = subst (λ t. Cut true t (one_token Keyword t)) (ascii (codes "text") refl) (token_cut Keyword (codes "text") refl refl)

-- a sign of these characters
sign : {ts : List Spelled} (cs : List ℕ) → Cut false cs ts → IsPlain cs → ends_token cs ≡ true → has_mark cs ≡ false → IsSign cs ts
sign cs c plain e m =
    let same : chars cs ≡ cs = plain_characters cs plain in
    record { spelled_as = ∣ c ∣₁; apart = ap ends_token same ∙ e; unmarked = ap has_mark same ∙ m }

pub nothing_sign : IsSign [] (sign_tokens g.Nothing)
nothing_sign = sign [] nothing_cut (refl, refl) refl refl

pub space_sign : IsSign (codes " ") (sign_tokens g.Space)
unfolding is_xml_char
space_sign = sign (codes " ") space (refl, refl) refl refl

pub line_end_sign : IsSign (codes "\n") (sign_tokens g.LineEnd)
unfolding is_xml_char
line_end_sign = sign (codes "\n") line_end (refl, refl) refl refl

pub comma_sign : IsSign (codes ", ") (sign_tokens g.Comma)
unfolding is_xml_char symbols
comma_sign = sign (codes ", ") (joined_closed (solo 44 refl refl (refl, refl)) space) (refl, refl) refl refl

pub ampersand_sign : IsSign (codes " & ") (sign_tokens g.Ampersand)
unfolding is_xml_char symbols
ampersand_sign = sign (codes " & ") (between_spaces (codes "&") refl (refl, refl)) (refl, refl) refl refl

pub bar_sign : IsSign (codes " | ") (sign_tokens g.Bar)
unfolding is_xml_char symbols
bar_sign = sign (codes " | ") (between_spaces (codes "|") refl (refl, refl)) (refl, refl) refl refl

pub minus_sign : IsSign (codes " - ") (sign_tokens g.Minus)
unfolding is_xml_char symbols
minus_sign = sign (codes " - ") (between_spaces (codes "-") refl (refl, refl)) (refl, refl) refl refl

pub equals_sign : IsSign (codes " = ") (sign_tokens g.Equals)
unfolding is_xml_char symbols
equals_sign = sign (codes " = ") (between_spaces (codes "=") refl (refl, refl)) (refl, refl) refl refl

pub choice_sign : IsSign (codes " |= ") (sign_tokens g.ChoiceEquals)
unfolding is_xml_char symbols
choice_sign = sign (codes " |= ") (between_spaces (codes "|=") refl (refl, refl)) (refl, refl) refl refl

pub interleave_sign : IsSign (codes " &= ") (sign_tokens g.InterleaveEquals)
unfolding is_xml_char symbols
interleave_sign = sign (codes " &= ") (between_spaces (codes "&=") refl (refl, refl)) (refl, refl) refl refl

pub parenthesis_cut : IsSpelledAs false (codes "(") (symbol_token (codes "("))
unfolding is_xml_char symbols
parenthesis_cut = ∣ solo 40 refl refl (refl, refl) ∣₁

pub closing_sign : IsSign (codes ")") (sign_tokens g.CloseParenthesis)
unfolding is_xml_char symbols
closing_sign = sign (codes ")") (solo 41 refl refl (refl, refl)) (refl, refl) refl refl

pub open_brace_sign : IsSign (codes " { ") (sign_tokens g.OpenBrace)
unfolding is_xml_char
open_brace_sign = sign (codes " { ") (joined_closed space (joined_closed opening_brace space)) (refl, refl) refl refl

pub open_brace_line_sign : IsSign (codes " {\n") (sign_tokens g.OpenBraceLine)
unfolding is_xml_char
open_brace_line_sign = sign (codes " {\n") (joined_closed space (joined_closed opening_brace line_end)) (refl, refl) refl refl

pub close_brace_sign : IsSign (codes " }") (sign_tokens g.CloseBrace)
unfolding is_xml_char
close_brace_sign = sign (codes " }") (joined_closed space closing_brace) (refl, refl) refl refl

pub lone_brace_sign : IsSign (codes "}") (sign_tokens g.CloseBraceAlone)
unfolding is_xml_char
lone_brace_sign = sign (codes "}") closing_brace (refl, refl) refl refl

pub brace_line_sign : IsSign (codes "}\n") (sign_tokens g.CloseBraceLine)
unfolding is_xml_char
brace_line_sign = sign (codes "}\n") (joined_closed closing_brace line_end) (refl, refl) refl refl

pub braced_text_sign : IsSign (codes " { text }") (sign_tokens g.BracedText)
unfolding is_xml_char
braced_text_sign = sign (codes " { text }") (joined_closed space (joined_closed opening_brace (joined_closed space (joined_closed (spaced text_word) closing_brace)))) (refl, refl) refl refl

pub question_sign : IsSign (codes "?") (sign_tokens g.Question)
unfolding is_xml_char symbols
question_sign = sign (codes "?") (solo 63 refl refl (refl, refl)) (refl, refl) refl refl

pub star_sign : IsSign (codes "*") (sign_tokens g.Star)
unfolding is_xml_char symbols
star_sign = sign (codes "*") (solo 42 refl refl (refl, refl)) (refl, refl) refl refl

pub star_cut : IsSpelledAs false (codes "*") (symbol_token (codes "*"))
star_cut = star_sign.spelled_as

pub plus_sign : IsSign (codes "+") (sign_tokens g.Plus)
unfolding is_xml_char symbols
plus_sign = sign (codes "+") (solo 43 refl refl (refl, refl)) (refl, refl) refl refl
