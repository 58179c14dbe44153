-- A reference is read in one way.
use Rattle.std.proofs.Common.{◌≡◌, ◌≢◌, ℕ, true, false, cond, List, [], ◌∷◌, ◌++◌, refl, sym, ap, ◌∙◌, arith}
use Rattle.std.specs.Prelude.{◌==◌, not, codes, bytes_eq, if◌then◌else◌}
use Rattle.std.specs.Char.{is_ascii_digit, is_ascii_hexdigit}
use Rattle.std.specs.List.{list_all}
use Rattle.std.specs.Str.Parse.{digits_value}
use Rattle.std.proofs.lemmas.Bool.{and_parts}
use Rattle.std.proofs.lemmas.Bool.Decides.{nat_tests}
use Rattle.rn_xml.specs.XmlCharacters.{IsEntity, IsReference}
use Rattle.rn_xml.specs.XmlCharacters as x
use Rattle.rn_xml.proofs.Decoding.DeclarationFields.{cut_once}
use Rattle.rn_xml.proofs.Numbers.{all_pass_too}

-- ---- the character that stands between `&` and `;`

abbrev pub entity_value : List ℕ → ℕ
entity_value name = if bytes_eq name (codes "amp") then 38 else (if bytes_eq name (codes "lt") then 60
    else (if bytes_eq name (codes "gt") then 62 else (if bytes_eq name (codes "apos") then 39 else 34)))

abbrev pub number_value : List ℕ → ℕ
number_value [] = 0
number_value (c ∷ cs) = if c == 120 then digits_value 16 cs else digits_value 10 (c ∷ cs)

abbrev pub body_value : List ℕ → ℕ
body_value [] = 0
body_value (c ∷ cs) = if c == 35 then number_value cs else entity_value (c ∷ cs)

-- a reference by what stands between its signs
pub record HasBody (cs : List ℕ) (c : ℕ) (rest : List ℕ) : Type 0 where
  pub body : List ℕ
  pub is : cs ≡ 38 ∷ (body ++ 59 ∷ rest)
  pub plain : list_all (λ d. not (d == 59)) body ≡ true
  pub value : c ≡ body_value body

entity_plain : (name : List ℕ) (c : ℕ) → IsEntity name c → list_all (λ d. not (d == 59)) name ≡ true
entity_plain name c x.IsEntity.amp = refl
entity_plain name c x.IsEntity.lt = refl
entity_plain name c x.IsEntity.gt = refl
entity_plain name c x.IsEntity.apos = refl
entity_plain name c x.IsEntity.quot = refl

entity_is : (name : List ℕ) (c : ℕ) → IsEntity name c → c ≡ body_value name
entity_is name c x.IsEntity.amp = refl
entity_is name c x.IsEntity.lt = refl
entity_is name c x.IsEntity.gt = refl
entity_is name c x.IsEntity.apos = refl
entity_is name c x.IsEntity.quot = refl

digit_plain : (d : ℕ) → is_ascii_digit d ≡ true → not (d == 59) ≡ true
digit_plain d h = grind (arith, nat_tests)

hexdigit_plain : (d : ℕ) → is_ascii_hexdigit d ≡ true → not (d == 59) ≡ true
hexdigit_plain d h = grind (arith, nat_tests)

decimal_is : (digits : List ℕ) → digits ≢ [] → list_all is_ascii_digit digits ≡ true → digits_value 10 digits ≡ number_value digits
decimal_is [] some each = absurd (some refl)
decimal_is (d ∷ ds) some each = ap (λ b. cond b (digits_value 16 ds) (digits_value 10 (d ∷ ds))) (sym (other d (and_parts _ _ each).0))
  where
    other : (d : ℕ) → is_ascii_digit d ≡ true → (d == 120) ≡ false
    other d h = grind (arith, nat_tests)

pub body_of : (cs : List ℕ) (c : ℕ) (rest : List ℕ) → IsReference cs c rest → HasBody cs c rest
body_of cs c rest (x.IsReference.entity {name = n} e) = record { body = n; is = refl; plain = entity_plain n c e; value = entity_is n c e }
body_of cs c rest (x.IsReference.decimal {digits = ds} some each legal) = record {
  body = 35 ∷ ds;
  is = refl;
  plain = all_pass_too is_ascii_digit (λ d. not (d == 59)) digit_plain ds each;
  value = decimal_is ds some each;
}
body_of cs c rest (x.IsReference.hexadecimal {digits = ds} some each legal) = record {
  body = 35 ∷ 120 ∷ ds;
  is = refl;
  plain = all_pass_too is_ascii_hexdigit (λ d. not (d == 59)) hexdigit_plain ds each;
  value = refl;
}

pub reference_once : (cs ds : List ℕ) (c d : ℕ) (r s : List ℕ) → IsReference cs c r → IsReference ds d s → cs ≡ ds → (c ≡ d) × (r ≡ s)
reference_once cs ds c d r s h k e =
    let a = body_of cs c r h in
    let b = body_of ds d s k in
    let wholes : 38 ∷ (a.body ++ 59 ∷ r) ≡ 38 ∷ (b.body ++ 59 ∷ s) = sym a.is ∙ e ∙ b.is in
    let both : a.body ++ 59 ∷ r ≡ b.body ++ 59 ∷ s = cc in
    let cut = cut_once 59 a.body r b.body s a.plain b.plain both in
    (a.value ∙ ap body_value cut.0 ∙ sym b.value, cut.1)
