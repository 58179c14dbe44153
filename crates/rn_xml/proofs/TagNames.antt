-- Names of attributes, and those that declare namespaces.
use Rattle.std.proofs.Common.{◌≡◌, ℕ, List, [], ◌∷◌, ◌++◌, refl, sym, ap, ◌∙◌, subst, arith, ⊎_elim, true, false, Some, None}
use Rattle.std.specs.Prelude.{◌≢◌, ◌⊎◌, ◌&&◌, ◌==◌, length, bytes_eq, codes, if◌then◌else◌, encode_utf8_all}
use Rattle.std.specs.Char.{is_ascii}
use Rattle.std.specs.List.{list_all}
use Rattle.std.specs.Str.{chars, IsUtf8}
use Rattle.std.proofs.lemmas.Bool.{cond-true, cond-false, and_parts, false_from_ne_true}
use Rattle.std.proofs.lemmas.Bool.Decides.{nat_tests}
use Rattle.std.proofs.lemmas.List.{nil_from_length}
use Rattle.std.proofs.lemmas.Str.{encodes-chars, chars-nil, IsUtf8-from_ascii}
use Rattle.rn_text.specs.Segments.{is_delimiter}
use Rattle.rn_xml.specs.XmlCharacters.{IsSpace, IsValue, IsAttValue}
use Rattle.rn_xml.specs.XmlTags.{IsEq, IsAttribute, AreAttributes, WrittenAttribute, declared_prefix}
use Rattle.rn_xml.specs.declared.characters.QName.{QName}
use Rattle.rn_xml.specs.inside.Pieces.{SplitsName}
use Rattle.rn_xml.specs.inside.WrittenAttributes.{written_as}
use Rattle.rn_xml.proofs.AsciiFronts.{ascii_bytes, ascii_chars}
use Rattle.rn_xml.proofs.ScopeMeans.{equal_bytes, other_bytes}
use Rattle.rn_xml.proofs.ScopeSteps.{same_bytes}

pub empty_text : (bs : List ℕ) → (length bs == 0) ≡ true → bs ≡ []
empty_text bs e = nil_from_length bs (grind (arith, nat_tests))

pub some_text : (bs : List ℕ) → (length bs == 0) ≡ false → bs ≢ []
some_text bs e = λ none. let zero_is : length bs ≡ 0 = ap (length {A = ℕ}) none in let never : ⊥ = grind (arith, nat_tests) in never

pub chars_is : (bs t : List ℕ) → list_all is_ascii t ≡ true → bs ≡ t → chars bs ≡ t
chars_is bs t ascii e = ap chars e ∙ ascii_chars t ascii

pub chars_other : (bs t : List ℕ) → IsUtf8 bs → list_all is_ascii t ≡ true → bs ≢ t → chars bs ≢ t
chars_other bs t utf8 ascii other e = other (sym (encodes-chars bs utf8) ∙ ap encode_utf8_all (e ∙ sym (ascii_chars t ascii)) ∙ encoded t ascii)
  where
    encoded : (t : List ℕ) → list_all is_ascii t ≡ true → encode_utf8_all (chars t) ≡ t
    encoded t ascii = encodes-chars t (IsUtf8-from_ascii t (ascii_bytes t ascii))

module _ (name : QName) (value : List ℕ) where
  pub declares_prefix : name.prefix.now ≡ codes "xmlns" → declared_prefix (written_as name value) ≡ Some (chars name.local.now)
  declares_prefix e =
      cond-true (bytes_eq (chars name.prefix.now) (codes "xmlns")) (Some (chars name.local.now)) (if bytes_eq (chars name.prefix.now) [] && bytes_eq (chars name.local.now) (codes "xmlns") then Some [] else None)
      (equal_bytes (chars name.prefix.now) (codes "xmlns") (chars_is name.prefix.now (codes "xmlns") refl e))

  unprefixed : chars name.prefix.now ≢ codes "xmlns" → declared_prefix (written_as name value) ≡ (if bytes_eq (chars name.prefix.now) [] && bytes_eq (chars name.local.now) (codes "xmlns") then Some [] else None)
  unprefixed other =
      cond-false (bytes_eq (chars name.prefix.now) (codes "xmlns")) (Some (chars name.local.now)) (if bytes_eq (chars name.prefix.now) [] && bytes_eq (chars name.local.now) (codes "xmlns") then Some [] else None)
      (other_bytes (chars name.prefix.now) (codes "xmlns") other)

  pub declares_default : name.prefix.now ≡ [] → name.local.now ≡ codes "xmlns" → declared_prefix (written_as name value) ≡ Some (chars [])
  declares_default empty local =
      let none : chars name.prefix.now ≡ [] = ap chars empty ∙ chars-nil in
      let is_local : chars name.local.now ≡ codes "xmlns" = chars_is name.local.now (codes "xmlns") refl local in
      let both : bytes_eq (chars name.prefix.now) [] && bytes_eq (chars name.local.now) (codes "xmlns") ≡ true =
      ap (λ b. b && bytes_eq (chars name.local.now) (codes "xmlns")) (equal_bytes (chars name.prefix.now) [] none) ∙ ap (λ b. true && b) (equal_bytes (chars name.local.now) (codes "xmlns") is_local) in
      unprefixed (λ e. let no_prefix : [] ≡ codes "xmlns" = sym none ∙ e in cc)
      ∙ cond-true (bytes_eq (chars name.prefix.now) [] && bytes_eq (chars name.local.now) (codes "xmlns")) (Some []) None both ∙ ap (λ l. Some l) (sym chars-nil)

  pub declares_none : IsUtf8 name.prefix.now → IsUtf8 name.local.now → name.prefix.now ≢ codes "xmlns" → (name.prefix.now ≡ [] → name.local.now ≢ codes "xmlns") → declared_prefix (written_as name value) ≡ None
  declares_none u v other local =
      unprefixed (chars_other name.prefix.now (codes "xmlns") u refl other)
      ∙ cond-false (bytes_eq (chars name.prefix.now) [] && bytes_eq (chars name.local.now) (codes "xmlns")) (Some []) None
      (false_from_ne_true (bytes_eq (chars name.prefix.now) [] && bytes_eq (chars name.local.now) (codes "xmlns")) (λ both.
      let parts = and_parts (bytes_eq (chars name.prefix.now) []) (bytes_eq (chars name.local.now) (codes "xmlns")) both in
      let empty : name.prefix.now ≡ [] = sym (encodes-chars name.prefix.now u) ∙ ap encode_utf8_all (same_bytes (chars name.prefix.now) [] parts.0) in
      chars_other name.local.now (codes "xmlns") v refl (local empty) (same_bytes (chars name.local.now) (codes "xmlns") parts.1)))

-- an attribute is its name, `=` and its value
pub attribute_is : (name : QName) (cs rest inside after value : List ℕ) (quote : ℕ) → SplitsName cs name rest → IsEq rest (quote ∷ inside) → is_delimiter quote ≡ true → IsValue quote inside value after
    → IsAttribute cs (written_as name value) after
attribute_is name cs rest inside after value quote splits eq_sign delimits is =
    let between : (quote ≡ 34) ⊎ (quote ≡ 39) = grind (arith, nat_tests) in
    let is_value : IsAttValue (quote ∷ inside) value after = ⊎_elim
    (λ double. subst (λ q. IsAttValue (q ∷ inside) value after) (sym double) (IsAttValue.double (subst (λ q. IsValue q inside value after) double is)))
    (λ single. subst (λ q. IsAttValue (q ∷ inside) value after) (sym single) (IsAttValue.single (subst (λ q. IsValue q inside value after) single is)))
    between in
    subst (λ l. IsAttribute l (written_as name value) after) (sym splits.splits) (IsAttribute.attribute splits.is_name eq_sign is_value)

-- an attribute behind others
pub attributes_push : {cs mid m rest : List ℕ} {written : List WrittenAttribute} {a : WrittenAttribute} → AreAttributes cs written mid → IsSpace mid m → IsAttribute m a rest → AreAttributes cs (written ++ a ∷ []) rest
attributes_push AreAttributes.none space is = AreAttributes.more space is AreAttributes.none
attributes_push (AreAttributes.more first one behind) space is = AreAttributes.more first one (attributes_push behind space is)
