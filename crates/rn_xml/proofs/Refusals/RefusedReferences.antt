-- References that are none.
use Rattle.std.proofs.Common.{◌≡◌, ◌≢◌, ◌≤◌, ◌<◌, ℕ, true, false, List, [], ◌∷◌, ◌++◌, length, refl, sym, ap, ◌∙◌, subst, arith, length-append, append_assoc, append-nil}
use Rattle.std.specs.Prelude.{◌==◌, min, codes, Result, Ok, Err, IfErr}
use Rattle.std.specs.Char.{digit_value, is_ascii_digit, is_ascii_hexdigit, OutOfScalarRange}
use Rattle.std.specs.List.{list_all}
use Rattle.std.specs.Str.{IsUtf8, chars, encode_utf8_all}
use Rattle.std.specs.Str.Parse.{AllDigits, digits_value}
use Rattle.std.proofs.lemmas.Bool.{and_parts, both_ways, true≢false, false≢true}
use Rattle.std.proofs.lemmas.Bool.Decides.{nat_tests}
use Rattle.std.proofs.lemmas.Str.{length-le-encodes}
use Rattle.rn_text.specs.Characters.{is_xml_char, is_name_char, is_name_start, is_ncname}
use Rattle.rn_text.specs.Segments.{begins_with, run_of, after_run}
use Rattle.rn_text.proofs.Cutting.NameTokens.{name_chars}
use Rattle.rn_text.proofs.Words.CharacterRuns.{bytes_split}
use Rattle.rn_text.proofs.Words.EqualLists.{cons_first, cons_rest}
use Rattle.rn_xml.specs.XmlCharacters.{lines_of, IsEntity, IsReference}
use Rattle.rn_xml.specs.XmlCharacters as x
use Rattle.rn_xml.specs.inside.Pieces.{IsNumber, is_inner}
use Rattle.rn_xml.proofs.Numbers.{HasDigits, most, all_pass_too, entity_inner, digit_inner, hexdigit_inner}
use Rattle.rn_text.proofs.Words.AppendedLists.{all_append}
use Rattle.rn_xml.proofs.Refusals.OneReading.Markup.{run_of_name}
use Rattle.rn_xml.proofs.Refusals.OneReading.References.{body_of}
use Rattle.rn_xml.proofs.Sources.{front_there}

-- ---- numbers

pub out_illegal : (n : ℕ) → OutOfScalarRange n → is_xml_char n ≡ false
unfolding is_xml_char
out_illegal n out = grind (arith, nat_tests)

semicolon_none : (radix : ℕ) → radix ≤ 36 → digit_value 59 < radix → ⊥
semicolon_none radix low h = omega arith

pub record DigitsLead (first digits rest whole : List ℕ) (radix : ℕ) (behind : List ℕ) : Type 0 where
  pub tail : List ℕ
  pub is : digits ≡ first ++ tail
  pub left : whole ≡ tail ++ 59 ∷ behind
  pub each : AllDigits radix tail

pub digits_lead : (radix : ℕ) (first digits behind rest : List ℕ) → radix ≤ 36 → AllDigits radix first → AllDigits radix digits → digits ++ 59 ∷ behind ≡ first ++ rest → DigitsLead first digits rest rest radix behind
digits_lead radix [] digits behind rest low all each e = record { tail = digits; is = refl; left = sym e; each = each }
digits_lead radix (d ∷ first) [] behind rest low all each e = absurd (semicolon_none radix low (subst (λ c. digit_value c < radix) (sym (cons_first e)) all.0))
digits_lead radix (d ∷ first) (c ∷ digits) behind rest low all each e =
    let on = digits_lead radix first digits behind rest low all.1 each.1 (cons_rest e) in
    record { tail = on.tail; is = ap (λ a. a ∷ digits) (cons_first e) ∙ ap (λ l. d ∷ l) on.is; left = on.left; each = on.each }

lead : (radix number c : ℕ) (cs rest behind : List ℕ) → radix ≤ 36 → (h : HasDigits radix cs number rest) → (n : IsNumber radix cs c behind) → DigitsLead h.digits n.digits rest rest radix behind
lead radix number c cs rest behind low h n = digits_lead radix h.digits n.digits behind rest low h.each n.each (sym n.splits ∙ h.splits)

-- the text ends behind the digits
pub no_end : (radix number : ℕ) (cs rest : List ℕ) → radix ≤ 36 → HasDigits radix cs number rest → rest ≡ [] → (c : ℕ) (behind : List ℕ) → ¬ IsNumber radix cs c behind
no_end radix number cs rest low h none c behind n = let on = lead radix number c cs rest behind low h n in some on.tail (sym on.left ∙ none)
  where
    some : (tail : List ℕ) → tail ++ 59 ∷ behind ≢ []
    some [] e = cc
    some (t ∷ ts) e = cc

-- something else than a digit follows them, or a semicolon without digits before it
pub no_digit : (radix number d : ℕ) (cs rest after : List ℕ) → radix ≤ 36 → (h : HasDigits radix cs number rest) → rest ≡ d ∷ after → ¬ (digit_value d < radix) → (d ≡ 59 → h.digits ≡ []) → (c : ℕ) (behind : List ℕ)
    → ¬ IsNumber radix cs c behind
no_digit radix number d cs rest after low h first other none c behind n = at on.tail on.is on.left on.each
  where
    on : DigitsLead h.digits n.digits rest rest radix behind
    on = lead radix number c cs rest behind low h n

    at : (tail : List ℕ) → n.digits ≡ h.digits ++ tail → rest ≡ tail ++ 59 ∷ behind → AllDigits radix tail → ⊥
    at [] is left each = n.some (is ∙ ap (λ l. l ++ []) (none (sym (cons_first (sym left ∙ first)))))
    at (t ∷ ts) is left each = other (subst (λ a. digit_value a < radix) (cons_first (sym left ∙ first)) each.0)

-- the digits number no character
legal_most : (v : ℕ) → is_xml_char v ≡ true → min v most ≡ v
unfolding is_xml_char
legal_most v e = grind (arith, nat_tests)

pub no_character : (radix number : ℕ) (cs rest after : List ℕ) → radix ≤ 36 → HasDigits radix cs number rest → rest ≡ 59 ∷ after → is_xml_char number ≡ false → (c : ℕ) (behind : List ℕ) → ¬ IsNumber radix cs c behind
no_character radix number cs rest after low h first none c behind n = at on.tail on.is on.left on.each
  where
    on : DigitsLead h.digits n.digits rest rest radix behind
    on = lead radix number c cs rest behind low h n

    at : (tail : List ℕ) → n.digits ≡ h.digits ++ tail → rest ≡ tail ++ 59 ∷ behind → AllDigits radix tail → ⊥
    at [] is left each =
        let same : n.digits ≡ h.digits = is ∙ append-nil h.digits in
        let legal : is_xml_char (digits_value radix n.digits) ≡ true = ap is_xml_char (sym n.value) ∙ n.is_legal in
        let value : number ≡ digits_value radix n.digits = h.value ∙ ap (λ l. min (digits_value radix l) most) (sym same) ∙ legal_most (digits_value radix n.digits) legal in
        both_ways (is_xml_char number) none (ap is_xml_char value ∙ legal)
    at (t ∷ ts) is left each = semicolon_none radix low (subst (λ a. digit_value a < radix) (cons_first (sym left ∙ first)) each.0)

-- nothing was read where nothing shorter is left
pub none_read : (radix number : ℕ) (text rest : List ℕ) → IsUtf8 text → IsUtf8 rest → (h : HasDigits radix (chars text) number (chars rest)) → length text ≤ length rest → h.digits ≡ []
none_read radix number text rest t r h low = empty h.digits (
    let split = bytes_split text rest h.digits t r h.splits in omega (arith, ap length split, length-append (encode_utf8_all h.digits) rest, length-le-encodes h.digits))
  where
    empty : (ds : List ℕ) → length ds ≤ 0 → ds ≡ []
    empty [] l = refl
    empty (d ∷ ds) l = absurd (omega arith)

-- ---- references by their numbers

digit_below : (d : ℕ) → is_ascii_digit d ≡ true → digit_value d < 10
digit_below d e = grind (arith, nat_tests)

hexdigit_below : (d : ℕ) → is_ascii_hexdigit d ≡ true → digit_value d < 16
hexdigit_below d e = grind (arith, nat_tests)

all_digits : (ds : List ℕ) → list_all is_ascii_digit ds ≡ true → AllDigits 10 ds
all_digits [] e = tt
all_digits (d ∷ ds) e = let both = and_parts (is_ascii_digit d) (list_all is_ascii_digit ds) e in (digit_below d both.0, all_digits ds both.1)

all_hexdigits : (ds : List ℕ) → list_all is_ascii_hexdigit ds ≡ true → AllDigits 16 ds
all_hexdigits [] e = tt
all_hexdigits (d ∷ ds) e = let both = and_parts (is_ascii_hexdigit d) (list_all is_ascii_hexdigit ds) e in (hexdigit_below d both.0, all_hexdigits ds both.1)

-- the name of an entity begins with a letter, and is one
entity_name : (name : List ℕ) (c : ℕ) → IsEntity name c → (is_ncname name ≡ true) × (begins_with is_name_char name ≡ true)
unfolding is_name_char is_name_start
entity_name name c x.IsEntity.amp = (refl, refl)
entity_name name c x.IsEntity.lt = (refl, refl)
entity_name name c x.IsEntity.gt = (refl, refl)
entity_name name c x.IsEntity.apos = (refl, refl)
entity_name name c x.IsEntity.quot = (refl, refl)

hash_none : is_name_char 35 ≡ false
unfolding is_name_char is_name_start
hash_none = refl

semicolon_ends : is_name_char 59 ≡ false
unfolding is_name_char is_name_start
semicolon_ends = refl

no_hash : (name cs rest : List ℕ) (c : ℕ) → IsEntity name c → name ++ rest ≡ 35 ∷ cs → ⊥
no_hash name cs rest c h e = at name (entity_name name c h).1 e
  where
    at : (name : List ℕ) → begins_with is_name_char name ≡ true → name ++ rest ≡ 35 ∷ cs → ⊥
    at [] b e = false≢true b
    at (d ∷ ds) b e = true≢false (sym b ∙ ap is_name_char (cons_first e) ∙ hash_none)

-- behind `&#x` there is such a number
pub hexadecimal_number : (cs : List ℕ) (c : ℕ) (rest body : List ℕ) → IsReference cs c rest → cs ≡ 38 ∷ 35 ∷ 120 ∷ body → IsNumber 16 body c rest
hexadecimal_number cs c rest body (x.IsReference.entity {name = n} {rest = r} e) is = absurd (no_hash n (120 ∷ body) (59 ∷ r) c e (cons_rest is))
hexadecimal_number cs c rest body (x.IsReference.decimal {digits = ds} some each legal) is = absurd (at ds some each (cons_rest (cons_rest is)))
  where
    letter : (d : ℕ) → is_ascii_digit d ≡ true → d ≢ 120
    letter d e f = grind (arith, nat_tests)

    at : (ds : List ℕ) → ds ≢ [] → list_all is_ascii_digit ds ≡ true → ds ++ 59 ∷ rest ≡ 120 ∷ body → ⊥
    at [] some each e = some refl
    at (d ∷ ds) some each e = letter d (and_parts (is_ascii_digit d) (list_all is_ascii_digit ds) each).0 (cons_first e)
hexadecimal_number cs c rest body (x.IsReference.hexadecimal {digits = ds} some each legal) is = record {
  digits = ds;
  splits = sym (cons_rest (cons_rest (cons_rest is)));
  some = some;
  each = all_hexdigits ds each;
  value = refl;
  is_legal = legal;
}

-- behind `&#`, where no `x` follows
pub decimal_number : (cs : List ℕ) (c : ℕ) (rest body : List ℕ) → IsReference cs c rest → cs ≡ 38 ∷ 35 ∷ body → ((behind : List ℕ) → body ≢ 120 ∷ behind) → IsNumber 10 body c rest
decimal_number cs c rest body (x.IsReference.entity {name = n} {rest = r} e) is apart = absurd (no_hash n body (59 ∷ r) c e (cons_rest is))
decimal_number cs c rest body (x.IsReference.decimal {digits = ds} some each legal) is apart = record { digits = ds; splits = sym (cons_rest (cons_rest is)); some = some; each = all_digits ds each; value = refl; is_legal = legal }
decimal_number cs c rest body (x.IsReference.hexadecimal {digits = ds} some each legal) is apart = absurd (apart (ds ++ 59 ∷ rest) (sym (cons_rest (cons_rest is))))

-- behind `&` alone, the name of an entity
pub record NamesEntity (body : List ℕ) (c : ℕ) (rest : List ℕ) : Type 0 where
  pub name : List ℕ
  pub is_entity : IsEntity name c
  pub splits : body ≡ name ++ 59 ∷ rest

pub entity_named : (cs : List ℕ) (c : ℕ) (rest body : List ℕ) → IsReference cs c rest → cs ≡ 38 ∷ body → begins_with (λ d. d == 35) body ≡ false → NamesEntity body c rest
entity_named cs c rest body (x.IsReference.entity {name = n} e) is apart = record { name = n; is_entity = e; splits = sym (cons_rest is) }
entity_named cs c rest body (x.IsReference.decimal {digits = ds} some each legal) is apart = absurd (true≢false (ap (begins_with (λ d. d == 35)) (cons_rest is) ∙ apart))
entity_named cs c rest body (x.IsReference.hexadecimal {digits = ds} some each legal) is apart = absurd (true≢false (ap (begins_with (λ d. d == 35)) (cons_rest is) ∙ apart))

pub entity_run : (body : List ℕ) (c : ℕ) (rest : List ℕ) → (h : NamesEntity body c rest) → (run_of is_name_char body ≡ h.name) × (after_run is_name_char body ≡ 59 ∷ rest) × (is_ncname (run_of is_name_char body) ≡ true)
entity_run body c rest h =
    let is = (entity_name h.name c h.is_entity).0 in
    let run = run_of_name is_name_char h.name (59 ∷ rest) (name_chars h.name is) semicolon_ends in
    (ap (run_of is_name_char) h.splits ∙ run.0, ap (after_run is_name_char) h.splits ∙ run.1, ap is_ncname (ap (run_of is_name_char) h.splits ∙ run.0) ∙ is)

module _ (body : List ℕ) (plain : begins_with (λ d. d == 35) body ≡ false) where
  pub no_entity_name : is_ncname (run_of is_name_char body) ≡ false → (c : ℕ) (rest : List ℕ) → ¬ IsReference (38 ∷ body) c rest
  no_entity_name none c rest h = both_ways (is_ncname (run_of is_name_char body)) none (entity_run body c rest (entity_named (38 ∷ body) c rest body h refl plain)).2

  pub no_entity_end : (behind : List ℕ) → behind ≡ after_run is_name_char body → begins_with (λ d. d == 59) behind ≡ false → (c : ℕ) (rest : List ℕ) → ¬ IsReference (38 ∷ body) c rest
  no_entity_end behind is none c rest h = both_ways (begins_with (λ d. d == 59) behind) none (ap (begins_with (λ d. d == 59)) (is ∙ (entity_run body c rest (entity_named (38 ∷ body) c rest body h refl plain)).1))

  pub no_entity_known : (name : List ℕ) → name ≡ run_of is_name_char body → ((c : ℕ) → ¬ IsEntity name c) → (c : ℕ) (rest : List ℕ) → ¬ IsReference (38 ∷ body) c rest
  no_entity_known name is none c rest h =
      let named = entity_named (38 ∷ body) c rest body h refl plain in
      none c (subst (λ l. IsEntity l c) (sym (is ∙ (entity_run body c rest named).0)) named.is_entity)

-- ---- before their line ends are line feeds

signs_inner : (body : List ℕ) → list_all is_inner body ≡ true → list_all is_inner (body ++ 59 ∷ []) ≡ true
signs_inner body e = all_append is_inner body (59 ∷ []) e refl

pub reference_there : (whole cs : List ℕ) (c : ℕ) (rest : List ℕ) → IsReference whole c rest → whole ≡ lines_of cs → (r : List ℕ) × IsReference cs c r
reference_there whole cs c rest (x.IsReference.entity {name = n} {rest = r} e) is =
    let there = front_there (38 ∷ (n ++ 59 ∷ [])) cs r (signs_inner n (entity_inner n c e)) (sym is ∙ ap (λ l. 38 ∷ l) (sym (append_assoc n (59 ∷ []) r))) in
    (there.0, subst (λ l. IsReference l c there.0) (sym (there.1 ∙ ap (λ l. 38 ∷ l) (append_assoc n (59 ∷ []) there.0))) (x.IsReference.entity e))
reference_there whole cs c rest (x.IsReference.decimal {digits = ds} {rest = r} some each legal) is =
    let there = front_there (38 ∷ 35 ∷ (ds ++ 59 ∷ [])) cs r (signs_inner ds (all_pass_too is_ascii_digit is_inner digit_inner ds each)) (sym is ∙ ap (λ l. 38 ∷ 35 ∷ l) (sym (append_assoc ds (59 ∷ []) r))) in
    (there.0, subst (λ l. IsReference l (digits_value 10 ds) there.0) (sym (there.1 ∙ ap (λ l. 38 ∷ 35 ∷ l) (append_assoc ds (59 ∷ []) there.0))) (x.IsReference.decimal some each legal))
reference_there whole cs c rest (x.IsReference.hexadecimal {digits = ds} {rest = r} some each legal) is =
    let there = front_there (38 ∷ 35 ∷ 120 ∷ (ds ++ 59 ∷ [])) cs r (signs_inner ds (all_pass_too is_ascii_hexdigit is_inner hexdigit_inner ds each)) (sym is ∙ ap (λ l. 38 ∷ 35 ∷ 120 ∷ l) (sym (append_assoc ds (59 ∷ []) r))) in
    (there.0, subst (λ l. IsReference l (digits_value 16 ds) there.0) (sym (there.1 ∙ ap (λ l. 38 ∷ 35 ∷ 120 ∷ l) (append_assoc ds (59 ∷ []) there.0))) (x.IsReference.hexadecimal some each legal))

pub no_reference : (cs : List ℕ) → ((c : ℕ) (r : List ℕ) → ¬ IsReference cs c r) → (c : ℕ) (rest : List ℕ) → ¬ IsReference (lines_of cs) c rest
no_reference cs none c rest h = let there = reference_there (lines_of cs) cs c rest h refl in none c there.0 there.1

pub no_ampersand : (cs : List ℕ) → begins_with (λ d. d == 38) cs ≡ false → (c : ℕ) (rest : List ℕ) → ¬ IsReference cs c rest
no_ampersand cs none c rest h = both_ways (begins_with (λ d. d == 38) cs) none (ap (begins_with (λ d. d == 38)) (body_of cs c rest h).is)

-- ---- answers

pub hexadecimal_refused : {A E : Type 0} (r : Result A E) (text body : List ℕ) → text ≡ codes "#x" ++ body → IfErr r (λ e. (c : ℕ) (rest : List ℕ) → ¬ IsNumber 16 body c rest) → IfErr r (λ e. (c : ℕ) (rest : List ℕ) → ¬ IsReference (38 ∷ text) c rest)
hexadecimal_refused (Ok a) text body e none = tt
hexadecimal_refused (Err k) text body e none = λ c rest h. none c rest (hexadecimal_number (38 ∷ text) c rest body h (ap (λ l. 38 ∷ l) e))

pub decimal_refused : {A E : Type 0} (r : Result A E) (text body : List ℕ) → text ≡ 35 ∷ body → ((behind : List ℕ) → text ≢ codes "#x" ++ behind) → IfErr r (λ e. (c : ℕ) (rest : List ℕ) → ¬ IsNumber 10 body c rest)
    → IfErr r (λ e. (c : ℕ) (rest : List ℕ) → ¬ IsReference (38 ∷ text) c rest)
decimal_refused (Ok a) text body e apart none = tt
decimal_refused (Err k) text body e apart none = λ c rest h.
    none c rest (decimal_number (38 ∷ text) c rest body h (ap (λ l. 38 ∷ l) e) (λ behind f. apart behind (e ∙ ap (λ l. 35 ∷ l) f)))
