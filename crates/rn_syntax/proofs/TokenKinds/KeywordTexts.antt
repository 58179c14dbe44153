-- A token that is seen as a keyword is the word that spells it.
use Rattle.std.proofs.Common.{◌≡◌, ℕ, ◌<◌, inl, inr, Bool, true, false, cond, List, [], ◌∷◌, get_or, length, refl, sym, ap, ◌∙◌}
use Rattle.std.specs.Str.{bytes_eq, chars, encode_utf8_all, IsUtf8}
use Rattle.std.specs.List.{AllByRecursion}
use Rattle.std.proofs.lemmas.Bool.{cases_Bool}
use Rattle.std.proofs.lemmas.Str.{encodes-chars}
use Rattle.std.proofs.lemmas.Slice.Eq.{bytes_eq-Decides}
use Rattle.rn_text.specs.declared.parts.Kind.{Kind}
use Rattle.rn_text.specs.declared.parts.Kind.TheVariants.{Name, Keyword, Quoted, Prefixed, AnyOf, Segment, Symbol}
use Rattle.rn_text.specs.declared.source.Token.{Token}
use Rattle.rn_text.specs.declared.keywords.Keyword as code
use Rattle.rn_text.specs.Keywords.{spelling}
use Rattle.rn_syntax.specs.Terminal.{Terminal, keyword}
use Rattle.rn_syntax.specs.TokenTerminals.{terminal_of, spelled_in, keyword_rows, symbol_rows}
use Rattle.rn_syntax.specs.inside.Readers.{rest}
use Rattle.rn_syntax.specs.inside.Follow.{first_terminal}
use Rattle.rn_syntax.proofs.ProductionsRead.Next.{rest_cons}
use Rattle.rn_syntax.proofs.FaultPlaces.OpenBrackets.{keywords_plain}
use Rattle.rn_syntax.proofs.TokenKinds.KeywordsAndSymbols.{IsPlain}

-- the spelling that a terminal has, if it is a keyword
abbrev keyword_text : Terminal → List ℕ
keyword_text (keyword w) = spelling w
keyword_text _ = []

abbrev is_keyword : Terminal → Bool
is_keyword (keyword w) = true
is_keyword _ = false

-- rows of keywords with their spellings, which are their own bytes: what they see as a keyword has its spelling's bytes
spelled_row : (rows : List (List ℕ × Terminal)) (cs : List ℕ) (w : code.Keyword) → AllByRecursion (λ (row : List ℕ × Terminal). keyword_text row.1 ≡ row.0) rows → AllByRecursion IsPlain rows
    → spelled_in rows cs ≡ keyword w → encode_utf8_all cs ≡ spelling w
spelled_row [] cs w all plain e = cc
spelled_row (row ∷ rows) cs w all plain e = elim (cases_Bool (bytes_eq row.0 cs)) [
  | inl h ↦ let k : row.1 ≡ keyword w = sym (ap (λ b. cond b row.1 (spelled_in rows cs)) h) ∙ e in
      ap encode_utf8_all (sym ((bytes_eq-Decides row.0 cs).0 h)) ∙ plain.0.0 ∙ sym all.0 ∙ ap keyword_text k
  | inr h ↦ spelled_row rows cs w all.1 plain.1 (sym (ap (λ b. cond b row.1 (spelled_in rows cs)) h) ∙ e)
]

no_row : (rows : List (List ℕ × Terminal)) (cs : List ℕ) (w : code.Keyword) → AllByRecursion (λ (row : List ℕ × Terminal). is_keyword row.1 ≡ false) rows → spelled_in rows cs ≡ keyword w → ⊥
no_row [] cs w all e = cc
no_row (row ∷ rows) cs w all e = elim (cases_Bool (bytes_eq row.0 cs)) [
  | inl h ↦ let k : row.1 ≡ keyword w = sym (ap (λ b. cond b row.1 (spelled_in rows cs)) h) ∙ e in let f : false ≡ true = sym all.0 ∙ ap is_keyword k in cc
  | inr h ↦ no_row rows cs w all.1 (sym (ap (λ b. cond b row.1 (spelled_in rows cs)) h) ∙ e)
]

keywords_spelled : AllByRecursion (λ (row : List ℕ × Terminal). keyword_text row.1 ≡ row.0) keyword_rows
unfolding keyword_rows
keywords_spelled = (refl, (refl, (refl, (refl, (refl, (refl, (refl, (refl, (refl, (refl, (refl, (refl, (refl, (refl, (refl, (refl, (refl, (refl, (refl, tt)))))))))))))))))))

symbols_are_none : AllByRecursion (λ (row : List ℕ × Terminal). is_keyword row.1 ≡ false) symbol_rows
unfolding symbol_rows
symbols_are_none = (refl, (refl, (refl, (refl, (refl, (refl, (refl, (refl, (refl, (refl, (refl, (refl, (refl, (refl, (refl, (refl, (refl, (refl, tt))))))))))))))))))

keyword_bytes : (k : Kind) (cs : List ℕ) (w : code.Keyword) → terminal_of k cs ≡ keyword w → encode_utf8_all cs ≡ spelling w
keyword_bytes Name cs w e = cc
keyword_bytes Keyword cs w e = spelled_row keyword_rows cs w keywords_spelled keywords_plain e
keyword_bytes Quoted cs w e = cc
keyword_bytes Prefixed cs w e = cc
keyword_bytes AnyOf cs w e = cc
keyword_bytes Segment cs w e = cc
keyword_bytes Symbol cs w e = absurd (no_row symbol_rows cs w symbols_are_none e)

pub text_is : (xs : List Token) (at : ℕ) (d : Token) (w : code.Keyword) → at < length xs → IsUtf8 (get_or xs at d).text.now → first_terminal (rest xs at) ≡ keyword w → (get_or xs at d).text.now ≡ spelling w
text_is xs at d w inside utf8 e =
    let token = get_or xs at d in
    let seen : terminal_of token.kind (chars token.text.now) ≡ keyword w = sym (ap first_terminal (rest_cons xs at d inside)) ∙ e in
    sym (encodes-chars token.text.now utf8) ∙ keyword_bytes token.kind (chars token.text.now) w seen
