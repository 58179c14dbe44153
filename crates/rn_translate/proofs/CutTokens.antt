-- Tokens, each a text that is cut.
use Rattle.std.proofs.Common.{◌≡◌, ℕ, Bool, true, false, List, [], ◌∷◌, ◌++◌, ltb, refl, sym, ap, ◌∙◌, subst, append-nil, ⊎_elim, arith}
use Rattle.std.specs.Prelude.{codes}
use Rattle.std.specs.List.{list_all}
use Rattle.std.specs.Str.{IsUtf8, chars, encode_utf8_all}
use Rattle.std.proofs.lemmas.Bool.{and_from, cases_Bool, cond-true, cond-false}
use mathlib.Core.Logic.{∥∥₁_map}
use Rattle.std.proofs.lemmas.Bool.Decides.{nat_tests}
use Rattle.std.proofs.lemmas.Str.{encode_ascii, encodes-append, encodes-chars}
use Rattle.rn_text.specs.declared.keywords.Keyword.{Keyword}
use Rattle.rn_text.specs.declared.parts.Kind.{Kind}
use Rattle.rn_text.specs.declared.parts.Kind.TheVariants.{Name, Keyword as KeywordToken, Quoted, Prefixed, AnyOf}
use Rattle.rn_text.specs.declared.parts.Part.{Part}
use Rattle.rn_text.specs.declared.parts.Part.TheVariants.{Token}
use Rattle.rn_text.specs.Characters.{is_keyword, is_ncname, is_xml_char, keywords}
use Rattle.rn_text.specs.Keywords.{spelling}
use Rattle.rn_text.specs.Parts.{IsCut, IsFirstPart, IsSpelled, text_of}
use Rattle.rn_text.specs.Texts.{Text}
use Rattle.rn_text.proofs.Cutting.BeforeBreaks.{any_before, before_end, is_spelled}
use Rattle.rn_text.proofs.Cutting.FirstParts.{keyword_is_name}
use Rattle.rn_text.proofs.Words.AppendedLists.{all_append}
use Rattle.rn_text.proofs.Words.XmlNames.{ncname_xml}
use Rattle.rn_translate.specs.Spelled.{Spelled}
use Rattle.rn_translate.specs.Cuts.{Cut, HasParts, IsSpelledAs, may_follow, spelled_at}
use Rattle.rn_translate.specs.TokenTexts.{one_token, word_kind, word_token}
use Rattle.rn_translate.proofs.CutTexts.{ascii, plain_characters}

one_cut : (p : Part) (s rest : List ℕ) → IsFirstPart (s ++ rest) p s rest → IsCut (text_of (record { part = p; spelling = s } ∷ []) ++ rest) (record { part = p; spelling = s } ∷ []) rest
one_cut p s rest h = (rest, subst (λ t. IsFirstPart (t ++ rest) p s rest) (sym (append-nil s)) h, refl)

-- a part before whatever may follow
pub part_cut : (b : Bool) (p : Part) (s : List ℕ) → list_all is_xml_char s ≡ true → ((rest : List ℕ) → may_follow b rest ≡ true → IsFirstPart (s ++ rest) p s rest)
    → Cut b (encode_utf8_all s) (spelled_at p (encode_utf8_all s))
part_cut b p s x h = record {
  pieces = record { part = p; spelling = s } ∷ [];
  are = ap encode_utf8_all (sym (append-nil s));
  xml = ap (list_all is_xml_char) (append-nil s) ∙ x;
  cut = λ rest e. one_cut p s rest (h rest e);
  tokens_are = append-nil (spelled_at p (encode_utf8_all s));
}

-- a token
pub token_cut : (k : Kind) (s : List ℕ) → list_all is_xml_char s ≡ true → IsSpelled k s → Cut true (encode_utf8_all s) (one_token k (encode_utf8_all s))
token_cut k s x h = part_cut true (Token k) s x (λ rest e. before_end k s rest (is_spelled k s h) e)

name_cut : (s : List ℕ) → is_ncname s ≡ true → Cut true (encode_utf8_all s) (one_token (word_kind s) (encode_utf8_all s))
name_cut s n = ⊎_elim
    (λ e. subst (λ k. Cut true (encode_utf8_all s) (one_token k (encode_utf8_all s))) (sym (cond-true (is_keyword s) KeywordToken Name e)) (token_cut KeywordToken s (ncname_xml s n) e))
    (λ e. subst (λ k. Cut true (encode_utf8_all s) (one_token k (encode_utf8_all s))) (sym (cond-false (is_keyword s) KeywordToken Name e)) (token_cut Name s (ncname_xml s n) (n, e)))
    (cases_Bool (is_keyword s))

-- a text of one token has parts
pub one_part : {b : Bool} {x : Text} {ts : List Spelled} → IsSpelledAs b x ts → HasParts b x
one_part {ts = ts} h = ∥∥₁_map h (λ c. record { tokens = ts; cut = c })

-- a name, or a keyword
pub word_cut : (x : Text) → IsUtf8 x → is_ncname (chars x) ≡ true → IsSpelledAs true x (word_token x)
word_cut x u n = ∣ subst (λ t. Cut true t (one_token (word_kind (chars x)) t)) (encodes-chars x u) (name_cut (chars x) n) ∣₁

-- a name behind a backslash
pub quoted_cut : (x : Text) → IsUtf8 x → is_ncname (chars x) ≡ true → IsSpelledAs true (92 ∷ x) (one_token Quoted (92 ∷ x))
unfolding is_xml_char
quoted_cut x u n =
    let bytes : encode_utf8_all (92 ∷ chars x) ≡ 92 ∷ x = (λ i. encode_ascii 92 (omega arith) i ++ encodes-chars x u i) in
    ∣ subst (λ t. Cut true t (one_token Quoted t)) bytes (token_cut Quoted (92 ∷ chars x) (and_from (is_xml_char 92) (list_all is_xml_char (chars x)) refl (ncname_xml (chars x) n)) (chars x, refl, n)) ∣₁

-- two names with a colon between them
pub prefixed_cut : (x y : Text) → IsUtf8 x → IsUtf8 y → is_ncname (chars x) ≡ true → is_ncname (chars y) ≡ true → IsSpelledAs true (x ++ 58 ∷ y) (one_token Prefixed (x ++ 58 ∷ y))
unfolding is_xml_char
prefixed_cut x y u v n m =
    let p = chars x in
    let l = chars y in
    let bytes : encode_utf8_all (p ++ 58 ∷ l) ≡ x ++ 58 ∷ y = encodes-append p (58 ∷ l) ∙ (λ i. encodes-chars x u i ++ (encode_ascii 58 (omega arith) i ++ encodes-chars y v i)) in
    let xml = all_append is_xml_char p (58 ∷ l) (ncname_xml p n) (and_from (is_xml_char 58) (list_all is_xml_char l) refl (ncname_xml l m)) in
    ∣ subst (λ t. Cut true t (one_token Prefixed t)) bytes (token_cut Prefixed (p ++ 58 ∷ l) xml (p, l, refl, n, m)) ∣₁

-- a name, a colon and `*`, before anything
any_cut : (p : List ℕ) → is_ncname p ≡ true → Cut false (encode_utf8_all (p ++ codes ":*")) (one_token AnyOf (encode_utf8_all (p ++ codes ":*")))
unfolding is_xml_char
any_cut p n = part_cut false (Token AnyOf) (p ++ codes ":*") (all_append is_xml_char p (codes ":*") (ncname_xml p n) refl) (λ rest e. any_before p rest n)

pub any_of_cut : (x : Text) → IsUtf8 x → is_ncname (chars x) ≡ true → IsSpelledAs false (x ++ codes ":*") (one_token AnyOf (x ++ codes ":*"))
any_of_cut x u n =
    let bytes : encode_utf8_all (chars x ++ codes ":*") ≡ x ++ codes ":*" = encodes-append (chars x) (codes ":*") ∙ (λ i. encodes-chars x u i ++ ascii (codes ":*") refl i) in
    ∣ subst (λ t. Cut false t (one_token AnyOf t)) bytes (any_cut (chars x) n) ∣₁

-- ---- keywords

known : (k : Keyword) → (is_keyword (spelling k) ≡ true) × (list_all (λ c. ltb c 128) (spelling k) ≡ true)
unfolding is_keyword keywords
known k = grind (arith, nat_tests)

pub keyword_name : (k : Keyword) → is_ncname (chars (spelling k)) ≡ true
keyword_name k =
    let name = keyword_is_name (spelling k) (known k).0 in
    ap is_ncname (plain_characters (spelling k) (ncname_xml (spelling k) name, (known k).1)) ∙ name

-- a keyword is a word of its kind
pub keyword_token_is : (k : Keyword) → word_token (spelling k) ≡ one_token KeywordToken (spelling k)
keyword_token_is k =
    let same = plain_characters (spelling k) (ncname_xml (spelling k) (keyword_is_name (spelling k) (known k).0), (known k).1) in
    ap (λ b. one_token b (spelling k)) (cond-true (is_keyword (chars (spelling k))) KeywordToken Name (ap is_keyword same ∙ (known k).0))
