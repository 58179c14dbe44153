-- What the tables of keywords and symbols make of bytes and of the characters that they spell.
use Rattle.std.proofs.Common.{◌≡◌, ℕ, cond, List, [], ◌∷◌, refl, sym, ap, ◌∙◌, map, ◌≢◌}
use Rattle.std.specs.List.{AllByRecursion}
use Rattle.std.specs.Str.{bytes_eq, chars, encode_utf8_all, IsUtf8}
use Rattle.std.proofs.lemmas.Bool.{cond-false, false_from_ne_true}
use Rattle.std.proofs.lemmas.Str.{encodes-chars}
use Rattle.std.proofs.lemmas.Slice.Eq.{bytes_eq-Decides}
use Rattle.rn_text.specs.declared.keywords.Keyword.{Keyword}
use Rattle.rn_text.specs.declared.keywords.Keyword.TheVariants as k
use Rattle.rn_text.specs.Keywords.{spelling, every_keyword}
use Rattle.rn_text.proofs.Words.TruthValues.{same_test}
use Rattle.rn_syntax.specs.Terminal as t
use Rattle.rn_syntax.specs.Terminal.{Terminal}
use Rattle.rn_syntax.specs.TokenTerminals.{spelled_in, keyword_row, keyword_rows}

-- what spells a keyword is seen as it
pub keyword_seen : (w : Keyword) → spelled_in keyword_rows (spelling w) ≡ t.keyword w
unfolding keyword_rows
keyword_seen k.Attribute = refl
keyword_seen k.Default = refl
keyword_seen k.Datatypes = refl
keyword_seen k.Div = refl
keyword_seen k.Element = refl
keyword_seen k.Empty = refl
keyword_seen k.External = refl
keyword_seen k.Grammar = refl
keyword_seen k.Include = refl
keyword_seen k.Inherit = refl
keyword_seen k.List = refl
keyword_seen k.Mixed = refl
keyword_seen k.Namespace = refl
keyword_seen k.NotAllowed = refl
keyword_seen k.Parent = refl
keyword_seen k.Start = refl
keyword_seen k.String = refl
keyword_seen k.Text = refl
keyword_seen k.Token = refl

-- what spells no keyword is seen as none
no_row : (ws : List Keyword) (cs : List ℕ) → ((w : Keyword) → cs ≢ spelling w) → spelled_in (map keyword_row ws) cs ≡ t.other
no_row [] cs none = refl
no_row (w ∷ ws) cs none = cond-false _ _ _ (false_from_ne_true (bytes_eq (spelling w) cs) (λ e. none w (sym ((bytes_eq-Decides (spelling w) cs).0 e)))) ∙ no_row ws cs none

pub none_seen : (cs : List ℕ) → ((w : Keyword) → cs ≢ spelling w) → spelled_in keyword_rows cs ≡ t.other
unfolding keyword_rows
none_seen cs none = no_row every_keyword cs none

-- a row is of characters that are their own bytes
abbrev pub IsPlain : List ℕ × Terminal → Type 0
IsPlain row = (encode_utf8_all row.0 ≡ row.0) × (chars row.0 ≡ row.0)

pub spelled_chars : (rows : List (List ℕ × Terminal)) (bs : List ℕ) → IsUtf8 bs → AllByRecursion IsPlain rows → spelled_in rows (chars bs) ≡ spelled_in rows bs
spelled_chars [] bs u h = refl
spelled_chars (row ∷ rows) bs u h =
    let same : bytes_eq row.0 (chars bs) ≡ bytes_eq row.0 bs = same_test _ _
    (λ e. (bytes_eq-Decides row.0 bs).1 (sym h.0.0 ∙ ap encode_utf8_all ((bytes_eq-Decides row.0 (chars bs)).0 e) ∙ encodes-chars bs u))
    (λ e. (bytes_eq-Decides row.0 (chars bs)).1 (sym h.0.1 ∙ ap chars ((bytes_eq-Decides row.0 bs).0 e))) in
    ap (λ b. cond b row.1 (spelled_in rows (chars bs))) same ∙ ap (λ x. cond (bytes_eq row.0 bs) row.1 x) (spelled_chars rows bs u h.1)
