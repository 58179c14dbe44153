-- End tags that are none, or that of another element.
use Rattle.std.proofs.Common.{◌≡◌, ℕ, true, false, List, [], ◌∷◌, refl, sym, ap, ◌∙◌, subst}
use Rattle.std.specs.Prelude.{◌==◌, encode_utf8_all}
use Rattle.std.specs.Str.{chars, IsUtf8}
use Rattle.std.proofs.lemmas.Bool.{true≢false}
use Rattle.std.proofs.lemmas.Str.{encodes-chars}
use Rattle.rn_text.specs.Segments.{begins_with, after_run}
use Rattle.rn_text.specs.Texts.{Text, is_white}
use Rattle.rn_text.proofs.Words.EqualLists.{cons_rest}
use Rattle.rn_xml.specs.XmlCharacters.{lines_of, MaySpace}
use Rattle.rn_xml.specs.XmlTags.{IsQName, IsEndTag}
use Rattle.rn_xml.specs.XmlTags as t
use Rattle.rn_xml.specs.declared.characters.QName.{QName}
use Rattle.rn_xml.specs.inside.Fronts.{BeginsName, ends_name}
use Rattle.rn_xml.specs.inside.Pieces.{SplitsName}
use Rattle.rn_xml.proofs.Decoding.DeclarationFields.{space_there}
use Rattle.rn_xml.proofs.Refusals.OneReading.Names.{SameName, qname_once, space_ends, end_ends}
use Rattle.rn_xml.proofs.Sources.{inner_front}

pub end_lines : (cs inside : List ℕ) → cs ≡ 60 ∷ 47 ∷ inside → lines_of cs ≡ 60 ∷ 47 ∷ lines_of inside
end_lines cs inside e = ap lines_of e ∙ inner_front (60 ∷ 47 ∷ []) inside refl

module _ (qname prefix local tag inside : List ℕ) (whole : tag ≡ 60 ∷ 47 ∷ inside) (is_name : IsQName qname prefix local) where
  pub no_end_name : ((written prefix local behind : List ℕ) → ¬ BeginsName inside written prefix local behind) → (rest : List ℕ) → ¬ IsEndTag qname tag rest
  no_end_name none rest h = at tag h whole
    where
      at : (ds : List ℕ) → IsEndTag qname ds rest → ds ≡ 60 ∷ 47 ∷ inside → ⊥
      at ds (t.IsEndTag.closes {cs = f} space) e = none qname prefix local f (record { is_name = is_name; splits = sym (cons_rest (cons_rest e)); ends = space_ends f (62 ∷ rest) space (end_ends 62 rest refl) })

  module _ (behind : List ℕ) (name : QName) (splits : SplitsName inside name behind) (ends : ends_name behind ≡ true) where
    -- what follows its name
    record EndParts (rest : List ℕ) : Type 0 where
      left : List ℕ
      space : MaySpace behind (62 ∷ rest)
      same : SameName qname prefix local left splits.written (chars name.prefix.now) (chars name.local.now) behind

    end_parts : (rest : List ℕ) → IsEndTag qname tag rest → EndParts rest
    end_parts rest h = at tag h whole
      where
        at : (ds : List ℕ) → IsEndTag qname ds rest → ds ≡ 60 ∷ 47 ∷ inside → EndParts rest
        at ds (t.IsEndTag.closes {cs = f} space) e =
            let same = qname_once qname prefix local f splits.written (chars name.prefix.now) (chars name.local.now) behind is_name splits.is_name (space_ends f (62 ∷ rest) space (end_ends 62 rest refl)) ends (cons_rest (cons_rest e) ∙ splits.splits) in
            record { left = f; space = subst (λ l. MaySpace l (62 ∷ rest)) same.behind space; same = same }

same_text : (a b : Text) → IsUtf8 a → IsUtf8 b → chars a ≡ chars b → a ≡ b
same_text a b u v e = sym (encodes-chars a u) ∙ ap encode_utf8_all e ∙ encodes-chars b v

-- it has the name that is read
pub other_end_name : (qname : List ℕ) (prefix local : Text) (tag inside behind : List ℕ) (name : QName) → tag ≡ 60 ∷ 47 ∷ inside → IsQName qname (chars prefix) (chars local) → IsUtf8 prefix → IsUtf8 local → IsUtf8 name.prefix.now → IsUtf8 name.local.now
    → SplitsName inside name behind → ends_name behind ≡ true → (rest : List ℕ) → IsEndTag qname tag rest → (prefix ≡ name.prefix.now) × (local ≡ name.local.now)
other_end_name qname prefix local tag inside behind name whole is_name u v nu nv splits ends rest h =
    let parts = end_parts qname (chars prefix) (chars local) tag inside whole is_name behind name splits ends rest h in
    (same_text prefix name.prefix.now u nu parts.same.prefix, same_text local name.local.now v nv parts.same.local)

-- `>` doesn't follow
pub no_end_close : (qname prefix local tag inside behind : List ℕ) (name : QName) → tag ≡ 60 ∷ 47 ∷ inside → IsQName qname prefix local → SplitsName inside name (lines_of behind) → ends_name (lines_of behind) ≡ true
    → begins_with (λ d. d == 62) (after_run is_white behind) ≡ false → (rest : List ℕ) → ¬ IsEndTag qname tag rest
no_end_close qname prefix local tag inside behind name whole is_name splits ends none rest h =
    let parts = end_parts qname prefix local tag inside whole is_name (lines_of behind) name splits ends rest h in
    let there = space_there behind rest 62 refl parts.space in
    true≢false (sym (ap (begins_with (λ d. d == 62)) there.1) ∙ none)
