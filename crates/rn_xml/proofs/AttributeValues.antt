-- Values of attributes: what stands before them, and their characters.
use Rattle.std.proofs.Common.{◌≡◌, ◌≢◌, ℕ, true, false, List, [], ◌∷◌, ◌++◌, refl, sym, ap, ◌∙◌, subst, arith, append_assoc, append-nil, Some, None}
use Rattle.std.specs.Prelude.{◌==◌, ◌||◌, not, Option, option_to_list, MatchOption}
use Rattle.std.specs.Str.{chars}
use Rattle.std.proofs.lemmas.Str.{chars-nil}
use Rattle.std.proofs.lemmas.Bool.{and_from, both_ways}
use Rattle.std.proofs.lemmas.Bool.Decides.{nat_tests}
use Rattle.rn_text.specs.Characters.{is_xml_char}
use Rattle.rn_text.specs.Segments.{begins_with, is_delimiter}
use Rattle.rn_text.specs.Texts.{is_white}
use Rattle.rn_xml.specs.XmlCharacters.{lines_of, MaySpace, IsReference, IsValue}
use Rattle.rn_xml.specs.XmlCharacters as x
use Rattle.rn_xml.specs.XmlTags.{IsEq, equals}
use Rattle.rn_xml.specs.inside.Pieces.{ContinuesValue, normal, is_inner}
use Rattle.rn_xml.proofs.Sources.{inner_black, lines_step, inner_itself, normal_cases}

-- what the value of the rest is, behind what was read, is the value of the text
abbrev pub Continued : ℕ → List ℕ → List ℕ → List ℕ → Type 0
Continued quote cs so_far rest = (value after : List ℕ) → IsValue quote rest value after → IsValue quote cs (so_far ++ value) after

pub begun : (quote : ℕ) (cs bytes : List ℕ) → bytes ≡ [] → Continued quote cs (chars bytes) cs
begun quote cs bytes e value after h = subst (λ l. IsValue quote cs (l ++ value) after) (sym (ap chars e ∙ chars-nil)) h

pub continued_more : (quote : ℕ) (cs so_far more rest behind : List ℕ) (found : Option ℕ) → more ≡ so_far ++ option_to_list found → Continued quote cs so_far rest → ContinuesValue quote rest found behind
    → Continued quote cs more behind
continued_more quote cs so_far more rest behind found e far step value after h =
    subst (λ l. IsValue quote cs l after) (sym (ap (λ l. l ++ value) e ∙ append_assoc so_far (option_to_list found) value)) (far (option_to_list found ++ value) after (step value after h))

pub delimiter_inner : (quote : ℕ) → is_delimiter quote ≡ true → is_inner quote ≡ true
delimiter_inner quote d = grind (arith, nat_tests)

-- the quote ends the value
pub closed : (quote c : ℕ) (cs so_far rest after : List ℕ) → is_delimiter quote ≡ true → rest ≡ c ∷ after → c ≡ quote → Continued quote cs so_far (lines_of rest) → IsValue quote cs so_far (lines_of after)
closed quote c cs so_far rest after d first is far =
    let here : lines_of rest ≡ quote ∷ lines_of after = ap lines_of (first ∙ ap (λ d. d ∷ after) is) ∙ inner_itself quote after (delimiter_inner quote d) in
    subst (λ l. IsValue quote cs l (lines_of after)) (append-nil so_far) (far [] (lines_of after) (subst (λ l. IsValue quote l [] (lines_of after)) (sym here) x.IsValue.close))

-- ---- one character

pub referred : (quote c : ℕ) (cs rest : List ℕ) → IsReference cs c rest → ContinuesValue quote cs (Some c) rest
referred quote c cs rest r value after h = x.IsValue.reference r h

pub kept : (quote c : ℕ) (cs after : List ℕ) → cs ≡ c ∷ after → c ≢ quote → c ≢ 38 → c ≢ 60 → is_white c ≡ false → is_xml_char c ≡ true → ContinuesValue quote (lines_of cs) (Some c) (lines_of after)
kept quote c cs after e q amp less white legal value behind h =
    subst (λ l. IsValue quote l (c ∷ value) behind) (sym (ap lines_of e ∙ inner_itself c after (inner_black c white))) (x.IsValue.itself (and_from (is_xml_char c) (not (c == 60 || c == 38 || c == quote || is_white c)) legal plain) h)
  where
    plain : not (c == 60 || c == 38 || c == quote || is_white c) ≡ true
    plain = grind (arith, nat_tests)

pub spaced : (quote c : ℕ) (cs after : List ℕ) (found : Option ℕ) → cs ≡ c ∷ after → is_white c ≡ true
    → MatchOption found ((c ≡ 13) × (begins_with (λ d. d == 10) after ≡ true)) (λ s. (s ≡ 32) × (c ≡ 13 → begins_with (λ d. d == 10) after ≡ false))
    → ContinuesValue quote (lines_of cs) found (lines_of after)
spaced quote c cs after None e white (is, feed) value behind h = subst (λ l. IsValue quote l value behind) (sym (ap lines_of e ∙ lines_step c after ∙ ap (λ n. n ++ lines_of after) gone)) h
  where
    gone : normal c after ≡ []
    gone = grind (arith, nat_tests)
spaced quote c cs after (Some s) e white (is, lone) value behind h =
    subst (λ l. IsValue quote l (s ∷ value) behind) (sym (ap lines_of e ∙ lines_step c after)) (subst (λ d. IsValue quote (normal c after ++ lines_of after) (d ∷ value) behind) (sym is) space)
  where
    space : IsValue quote (normal c after ++ lines_of after) (32 ∷ value) behind
    space = normal_cases (λ n. IsValue quote (n ++ lines_of after) (32 ∷ value) behind) c after (λ r f. absurd (both_ways (begins_with (λ d. d == 10) after) (lone r) f)) (x.IsValue.white refl h) (x.IsValue.white white h)

-- ---- before a value

pub equals_read : (cs spaced behind_equals behind inside : List ℕ) (quote : ℕ) → MaySpace (lines_of cs) (lines_of spaced) → spaced ≡ 61 ∷ behind_equals → MaySpace (lines_of behind_equals) (lines_of behind) → behind ≡ quote ∷ inside
    → is_inner quote ≡ true → IsEq (lines_of cs) (quote ∷ lines_of inside)
equals_read cs spaced behind_equals behind inside quote s e t f i = equals
    (subst (MaySpace (lines_of cs)) (ap lines_of e ∙ inner_itself 61 behind_equals refl) s)
    (subst (MaySpace (lines_of behind_equals)) (ap lines_of f ∙ inner_itself quote inside i) t)
