-- What is appended to a compact text, as tokens.
use Rattle.std.proofs.Common.{◌≡◌, ℕ, ◌<◌, true, List, [], ◌∷◌, ◌++◌, length, sym, ap, ◌∙◌, subst, append_assoc, append-nil, arith}
use Rattle.std.specs.Prelude.{codes, string_bytes}
use Rattle.std.specs.List.{flat_map}
use Rattle.std.specs.Str.{chars, encode_utf8_all}
use Rattle.std.proofs.lemmas.Str.{encode_ascii}
use Rattle.rn_text.specs.Characters.{is_ncname}
use Rattle.rn_text.specs.Literals.{delimiter_for, joined, literal_bytes, literal_of, segments, written}
use Rattle.rn_text.specs.Texts.{Text}
use Rattle.rn_translate.specs.Spelled.{Spelled}
use Rattle.rn_translate.specs.Cuts.{IsSpelledAs}
use Rattle.rn_translate.specs.declared.draft.Draft.{Draft}
use Rattle.rn_translate.specs.inside.DraftTokens.{Writes}

-- tokens, and others behind them
pub writes_more : (a b c : Draft) (ts us : List Spelled) → Writes a b ts → Writes b c us → Writes a c (ts ++ us)
writes_more a b c ts us h k = λ before is.
    subst (IsSpelledAs c.is_open (string_bytes c.text)) (append_assoc before ts us) (k (before ++ ts) (h before is))

-- a name has a character
pub name_some : (x : Text) → is_ncname (chars x) ≡ true → 0 < length x
unfolding chars
name_some [] n = absurd cc
name_some (c ∷ cs) n = omega arith

first_byte : (d : ℕ) (cs : List ℕ) → d < 128 → 0 < length (encode_utf8_all (d ∷ cs))
first_byte d cs small = subst (λ l. 0 < length (l ++ encode_utf8_all cs)) (sym (encode_ascii d small)) (omega arith)

delimiter_small : (c : ℕ) → delimiter_for c < 128
delimiter_small c = grind arith

-- a literal has a byte
joined_some : (ss : List (List ℕ)) → 0 < length (encode_utf8_all (joined ss))
joined_some [] = first_byte 34 (34 ∷ []) (omega arith)
joined_some ([] ∷ []) = first_byte 34 (34 ∷ []) (omega arith)
joined_some ((c ∷ s) ∷ []) = first_byte (delimiter_for c) (flat_map written (c ∷ s) ++ delimiter_for c ∷ []) (delimiter_small c)
joined_some ([] ∷ r ∷ rs) = first_byte 34 (34 ∷ (codes " ~ " ++ joined (r ∷ rs))) (omega arith)
joined_some ((c ∷ s) ∷ r ∷ rs) = first_byte (delimiter_for c) ((flat_map written (c ∷ s) ++ delimiter_for c ∷ []) ++ (codes " ~ " ++ joined (r ∷ rs))) (delimiter_small c)

pub literal_some : (x : Text) → 0 < length (literal_bytes x)
unfolding literal_of
literal_some x = joined_some (segments (chars x))

-- no tokens
pub writes_nothing : (a : Draft) (ts : List Spelled) → ts ≡ [] → Writes a a ts
writes_nothing a ts none = λ before is. subst (IsSpelledAs a.is_open (string_bytes a.text)) (sym (append-nil before) ∙ ap (λ l. before ++ l) (sym none)) is

pub writes_then_none : (a b c : Draft) (ts : List Spelled) → Writes a b ts → Writes b c [] → Writes a c ts
writes_then_none a b c ts h k = subst (Writes a c) (append-nil ts) (writes_more a b c ts [] h k)
