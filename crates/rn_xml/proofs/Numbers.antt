-- Numbers of characters, and the digits that they are written with.
use Rattle.std.proofs.Common.{◌≡◌, ◌≢◌, ◌≤◌, ◌<◌, ℕ, ◌+◌, ◌*◌, Bool, true, List, [], ◌∷◌, ◌++◌, length, refl, sym, ap, ◌∙◌, subst, arith, ⊎_elim, append_assoc, Bor}
use Rattle.std.specs.Prelude.{min, codes, Result, Ok, Err, IfOk}
use Rattle.std.specs.Char.{digit_value, is_ascii, is_ascii_digit, is_ascii_hexdigit}
use Rattle.std.specs.List.{list_all}
use Rattle.std.specs.Str.{IsUtf8, chars, encode_utf8_all}
use Rattle.std.specs.Str.Parse.{AllDigits, digits_value}
use Rattle.std.proofs.Math.Nat.{le-mul_of_pos_right}
use Rattle.std.proofs.lemmas.Bool.{and_from, and_parts, cases_lt}
use Rattle.std.proofs.lemmas.Bool.Decides.{nat_tests}
use Rattle.std.proofs.lemmas.Int.Digits.{digits_value_push, digits_push}
use Rattle.std.proofs.lemmas.Str.{encodes-chars, IsUtf8-from_ascii}
use Rattle.rn_text.specs.Characters.{is_xml_char}
use Rattle.rn_xml.specs.XmlCharacters.{lines_of, IsEntity, IsReference}
use Rattle.rn_xml.specs.XmlCharacters as x
use Rattle.rn_xml.specs.inside.Pieces.{IsNumber, is_inner}
use Rattle.rn_xml.proofs.AsciiFronts.{ascii_bytes, ascii_chars}
use Rattle.rn_xml.proofs.Sources.{inner_front, inner_itself}

-- the largest number of 32 bits
abbrev pub most : ℕ
most = 0xFFFF_FFFF

-- digits were read, and their number is this, or it is too large
pub record HasDigits (radix : ℕ) (cs : List ℕ) (number : ℕ) (rest : List ℕ) : Type 0 where
  pub digits : List ℕ
  pub splits : cs ≡ digits ++ rest
  pub each : AllDigits radix digits
  pub value : number ≡ min (digits_value radix digits) most

saturated : (v radix d m : ℕ) → 0 < radix → min (min (min v m * radix) m + d) m ≡ min (v * radix + d) m
saturated v radix d m some = ⊎_elim (λ less. fits (omega arith)) (λ more. full more) (cases_lt v m)
  where
    grows : (n : ℕ) → n ≤ n * radix
    grows n = le-mul_of_pos_right n some

    fits : v ≤ m → min (min (min v m * radix) m + d) m ≡ min (v * radix + d) m
    fits h = let e : min v m ≡ v = omega arith in rw e (omega arith)

    full : m ≤ v → min (min (min v m * radix) m + d) m ≡ min (v * radix + d) m
    full h = let e : min v m ≡ m = omega arith in rw e (let a = grows v in let b = grows m in omega arith)

pub next_digit : (radix : ℕ) (cs rest after : List ℕ) (number c : ℕ) → 0 < radix → HasDigits radix cs number rest → rest ≡ c ∷ after → digit_value c < radix
    → HasDigits radix cs (min (min (number * radix) most + digit_value c) most) after
next_digit radix cs rest after number c some h first digit = record {
  digits = h.digits ++ c ∷ [];
  splits = h.splits ∙ ap (λ l. h.digits ++ l) first ∙ sym (append_assoc h.digits (c ∷ []) after);
  each = digits_push radix h.digits c h.each digit;
  value =
      ap (λ n. min (min (n * radix) most + digit_value c) most) h.value
      ∙ saturated (digits_value radix h.digits) radix (digit_value c) most some
      ∙ ap (λ n. min n most) (sym (digits_value_push radix h.digits c));
}

-- the number of a character isn't too large
legal_small : (v : ℕ) → is_xml_char (min v most) ≡ true → min v most ≡ v
unfolding is_xml_char
legal_small v e = grind (arith, nat_tests)

pub whole_number : (radix number c : ℕ) (text rest after : List ℕ) → IsUtf8 text → IsUtf8 rest → HasDigits radix (chars text) number (chars rest) → chars rest ≡ 59 ∷ chars after
    → length rest < length text → c ≡ number → is_xml_char c ≡ true → IsNumber radix (chars text) c (chars after)
whole_number radix number c text rest after t r h first shorter is legal = record {
  digits = h.digits;
  splits = h.splits ∙ ap (λ l. h.digits ++ l) first;
  some = λ none. omega (arith, ap length (sym (encodes-chars text t) ∙ ap encode_utf8_all (h.splits ∙ ap (λ l. l ++ chars rest) none) ∙ encodes-chars rest r));
  each = h.each;
  value = let small : min (digits_value radix h.digits) most ≡ digits_value radix h.digits = legal_small (digits_value radix h.digits) (ap is_xml_char (sym (is ∙ h.value)) ∙ legal) in is ∙ h.value ∙ small;
  is_legal = legal;
}

-- ---- references

decimal_digit : (c : ℕ) → digit_value c < 10 → (is_ascii_digit c ≡ true) × (is_inner c ≡ true)
decimal_digit c h = (grind (arith, nat_tests), grind (arith, nat_tests))

hexadecimal_digit : (c : ℕ) → digit_value c < 16 → (is_ascii_hexdigit c ≡ true) × (is_inner c ≡ true)
hexadecimal_digit c h = (grind (arith, nat_tests), grind (arith, nat_tests))

decimal_digits : (ds : List ℕ) → AllDigits 10 ds → (list_all is_ascii_digit ds ≡ true) × (list_all is_inner ds ≡ true)
decimal_digits [] h = (refl, refl)
decimal_digits (c ∷ ds) h = let a = decimal_digit c h.0 in let b = decimal_digits ds h.1 in (and_from _ _ a.0 b.0, and_from _ _ a.1 b.1)

hexadecimal_digits : (ds : List ℕ) → AllDigits 16 ds → (list_all is_ascii_hexdigit ds ≡ true) × (list_all is_inner ds ≡ true)
hexadecimal_digits [] h = (refl, refl)
hexadecimal_digits (c ∷ ds) h = let a = hexadecimal_digit c h.0 in let b = hexadecimal_digits ds h.1 in (and_from _ _ a.0 b.0, and_from _ _ a.1 b.1)

decimal_reference : (cs text rest : List ℕ) (c : ℕ) → text ≡ 35 ∷ cs → IsNumber 10 cs c rest → IsReference (38 ∷ text) c rest
decimal_reference cs text rest c e n =
    subst (λ l. IsReference (38 ∷ l) c rest) (sym (e ∙ ap (λ l. 35 ∷ l) n.splits))
    (subst (λ d. IsReference (38 ∷ 35 ∷ (n.digits ++ 59 ∷ rest)) d rest) (sym n.value)
    (x.IsReference.decimal n.some (decimal_digits n.digits n.each).0 (ap is_xml_char (sym n.value) ∙ n.is_legal)))

hexadecimal_reference : (cs text rest : List ℕ) (c : ℕ) → text ≡ codes "#x" ++ cs → IsNumber 16 cs c rest → IsReference (38 ∷ text) c rest
hexadecimal_reference cs text rest c e n =
    subst (λ l. IsReference (38 ∷ l) c rest) (sym (e ∙ ap (λ l. codes "#x" ++ l) n.splits))
    (subst (λ d. IsReference (38 ∷ 35 ∷ 120 ∷ (n.digits ++ 59 ∷ rest)) d rest) (sym n.value)
    (x.IsReference.hexadecimal n.some (hexadecimal_digits n.digits n.each).0 (ap is_xml_char (sym n.value) ∙ n.is_legal)))

pub decimal_answer : {E : Type 0} (text cs : List ℕ) (r : Result (ℕ × Bor (List ℕ)) E) → text ≡ 35 ∷ cs → IfOk r (λ p. IsNumber 10 cs p.0 (chars p.1.now)) → IfOk r (λ p. IsReference (38 ∷ text) p.0 (chars p.1.now))
decimal_answer text cs (Ok p) e n = decimal_reference cs text (chars p.1.now) p.0 e n
decimal_answer text cs (Err k) e n = tt

pub hexadecimal_answer : {E : Type 0} (text cs : List ℕ) (r : Result (ℕ × Bor (List ℕ)) E) → text ≡ codes "#x" ++ cs → IfOk r (λ p. IsNumber 16 cs p.0 (chars p.1.now)) → IfOk r (λ p. IsReference (38 ∷ text) p.0 (chars p.1.now))
hexadecimal_answer text cs (Ok p) e n = hexadecimal_reference cs text (chars p.1.now) p.0 e n
hexadecimal_answer text cs (Err k) e n = tt

pub entity_reference : (name text behind rest : List ℕ) (c : ℕ) → text ≡ name ++ behind → behind ≡ 59 ∷ rest → IsEntity name c → IsReference (38 ∷ text) c rest
entity_reference name text behind rest c e f n = subst (λ l. IsReference (38 ∷ l) c rest) (sym (e ∙ ap (λ l. name ++ l) f)) (x.IsReference.entity n)

pub entity_of : (name text : List ℕ) (c : ℕ) → list_all is_ascii name ≡ true → text ≡ name → IsEntity name c → IsEntity (chars text) c
entity_of name text c ascii e n = subst (λ l. IsEntity l c) (sym (ap chars e ∙ ascii_chars name ascii)) n

pub named_by : (name text : List ℕ) → IsUtf8 text → list_all is_ascii name ≡ true → chars text ≡ name → text ≡ name
named_by name text t ascii e = sym (encodes-chars text t) ∙ ap encode_utf8_all (e ∙ sym (ascii_chars name ascii)) ∙ encodes-chars name (IsUtf8-from_ascii name (ascii_bytes name ascii))

pub no_entity : (text : List ℕ) → IsUtf8 text → text ≢ codes "amp" → text ≢ codes "lt" → text ≢ codes "gt" → text ≢ codes "apos" → text ≢ codes "quot" → (c : ℕ) → ¬ IsEntity (chars text) c
no_entity text t amp lt gt apos quot c h = of (chars text) c h refl
  where
    of : (name : List ℕ) (c : ℕ) → IsEntity name c → chars text ≡ name → ⊥
    of name c x.IsEntity.amp e = amp (named_by (codes "amp") text t refl e)
    of name c x.IsEntity.lt e = lt (named_by (codes "lt") text t refl e)
    of name c x.IsEntity.gt e = gt (named_by (codes "gt") text t refl e)
    of name c x.IsEntity.apos e = apos (named_by (codes "apos") text t refl e)
    of name c x.IsEntity.quot e = quot (named_by (codes "quot") text t refl e)

-- a reference has no line end
pub entity_inner : (name : List ℕ) (c : ℕ) → IsEntity name c → list_all is_inner name ≡ true
entity_inner name c x.IsEntity.amp = refl
entity_inner name c x.IsEntity.lt = refl
entity_inner name c x.IsEntity.gt = refl
entity_inner name c x.IsEntity.apos = refl
entity_inner name c x.IsEntity.quot = refl

pub all_pass_too : (p q : ℕ → Bool) → ((c : ℕ) → p c ≡ true → q c ≡ true) → (cs : List ℕ) → list_all p cs ≡ true → list_all q cs ≡ true
all_pass_too p q f [] a = refl
all_pass_too p q f (c ∷ cs) a = let both = and_parts (p c) (list_all p cs) a in and_from (q c) (list_all q cs) (f c both.0) (all_pass_too p q f cs both.1)

pub digit_inner : (c : ℕ) → is_ascii_digit c ≡ true → is_inner c ≡ true
digit_inner c h = grind (arith, nat_tests)

pub hexdigit_inner : (c : ℕ) → is_ascii_hexdigit c ≡ true → is_inner c ≡ true
hexdigit_inner c h = grind (arith, nat_tests)

referred_lines : (front inside rest : List ℕ) → list_all is_inner front ≡ true → list_all is_inner inside ≡ true → lines_of (front ++ (inside ++ 59 ∷ rest)) ≡ front ++ (inside ++ 59 ∷ lines_of rest)
referred_lines front inside rest f i = inner_front front (inside ++ 59 ∷ rest) f ∙ ap (λ l. front ++ l) (inner_front inside (59 ∷ rest) i ∙ ap (λ l. inside ++ l) (inner_itself 59 rest refl))

pub reference_lines : (cs rest : List ℕ) (c : ℕ) → IsReference cs c rest → IsReference (lines_of cs) c (lines_of rest)
reference_lines cs rest c (x.IsReference.entity {name = n} {rest = r} e) =
    subst (λ l. IsReference l c (lines_of r)) (sym (referred_lines (codes "&") n r refl (entity_inner n c e))) (x.IsReference.entity e)
reference_lines cs rest c (x.IsReference.decimal {digits = ds} {rest = r} some each legal) =
    subst (λ l. IsReference l (digits_value 10 ds) (lines_of r)) (sym (referred_lines (codes "&#") ds r refl (all_pass_too is_ascii_digit is_inner digit_inner ds each))) (x.IsReference.decimal some each legal)
reference_lines cs rest c (x.IsReference.hexadecimal {digits = ds} {rest = r} some each legal) =
    subst (λ l. IsReference l (digits_value 16 ds) (lines_of r)) (sym (referred_lines (codes "&#x") ds r refl (all_pass_too is_ascii_hexdigit is_inner hexdigit_inner ds each))) (x.IsReference.hexadecimal some each legal)
