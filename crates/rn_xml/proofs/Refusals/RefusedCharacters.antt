-- Characters between tags behind which no tag comes.
use Rattle.std.proofs.Common.{◌≡◌, ◌≢◌, ℕ, Bool, true, false, List, ◌∷◌, ◌++◌, refl, sym, ap, ◌∙◌, arith, inl, inr, Bor, Some, None}
use Rattle.std.specs.Prelude.{◌==◌, ◌||◌, ◌⊎◌, not, codes, Option, is_some, MatchOption, IsNone, Result, Ok, Err, IfOk, IfErr}
use Rattle.std.specs.Str.{chars}
use Rattle.std.proofs.lemmas.Bool.{and_parts, and_from, true≢false, false≢true}
use Rattle.std.proofs.lemmas.Bool.Decides.{nat_tests}
use Rattle.rn_text.specs.Characters.{is_xml_char}
use Rattle.rn_text.specs.Segments.{begins_with}
use Rattle.rn_text.proofs.Words.EqualLists.{cons_first}
use Rattle.rn_xml.specs.XmlCharacters.{lines_of, IsReference, IsSection, IsCharacters, is_data_char}
use Rattle.rn_xml.specs.XmlCharacters as x
use Rattle.rn_xml.specs.DocumentFaults.{IsOfText}
use Rattle.rn_xml.specs.declared.stop.Stop.{Stop}
use Rattle.rn_xml.specs.inside.Fronts.{opens_tag, opens_markup, IsBare, IsBroken, ReachNoTag}
use Rattle.rn_xml.specs.inside.Pieces.{IsPiece}
use Rattle.rn_xml.proofs.Refusals.OneReading.Contents.{leads_on}
use Rattle.rn_xml.proofs.Refusals.OneReading.FirstCharacters.{kind_of, tag_kind, data_kind, other_kind, reference_kind, comment_kind, instruction_kind, section_kind}
use Rattle.rn_xml.proofs.Refusals.RefusedMarkup.{markup_no_tag, illegal_inner}
use Rattle.rn_xml.proofs.Sources.{inner_itself, inner_front}

-- no reference, though one begins
pub no_reference_reaches : (cs ds : List ℕ) → cs ≡ 38 ∷ ds → ((c : ℕ) (rest : List ℕ) → ¬ IsReference cs c rest) → ReachNoTag cs
no_reference_reaches cs ds e none text rest x.IsCharacters.none t = let five = tag_kind cs t in let one : kind_of cs ≡ 1 = ap kind_of e in absurd (omega arith)
no_reference_reaches cs ds e none text rest (x.IsCharacters.itself {c = c} {cs = f} d a h) t = let zero_is = data_kind c f d in let one : kind_of cs ≡ 1 = ap kind_of e in absurd (omega arith)
no_reference_reaches cs ds e none text rest (x.IsCharacters.reference {c = c} {mid = m} r h) t = none c m r
no_reference_reaches cs ds e none text rest (x.IsCharacters.section {mid = m} {inside = i} s h) t = let k = section_kind cs i m s in let one : kind_of cs ≡ 1 = ap kind_of e in absurd (omega arith)
no_reference_reaches cs ds e none text rest (x.IsCharacters.comment {mid = m} s h) t = let k = comment_kind cs m s in let one : kind_of cs ≡ 1 = ap kind_of e in absurd (omega arith)
no_reference_reaches cs ds e none text rest (x.IsCharacters.instruction {mid = m} s h) t = let k = instruction_kind cs m s in let one : kind_of cs ≡ 1 = ap kind_of e in absurd (omega arith)

less_no_data : (c : ℕ) → (c == 60) ≡ true → is_data_char c ≡ true → ⊥
less_no_data c e d = plain c e (and_parts (is_xml_char c) (not (c == 60 || c == 38)) d).1
  where
    plain : (c : ℕ) → (c == 60) ≡ true → not (c == 60 || c == 38) ≡ true → ⊥
    plain c e n = grind (arith, nat_tests)

-- broken markup
pub broken_reaches : (cs : List ℕ) → IsBroken cs → ReachNoTag cs
broken_reaches cs b text rest x.IsCharacters.none t = markup_no_tag cs b.opens t
broken_reaches cs b text rest (x.IsCharacters.itself {c = c} {cs = f} d a h) t = less_no_data c (and_parts (c == 60) (begins_with (λ d. d == 33 || d == 63) f) b.opens).0 d
broken_reaches cs b text rest (x.IsCharacters.reference {c = c} {mid = m} r h) t = less_no_reference cs c m b.opens r
  where
    less_no_reference : (cs : List ℕ) (c : ℕ) (m : List ℕ) → opens_markup cs ≡ true → IsReference cs c m → ⊥
    less_no_reference cs c m o (x.IsReference.entity e) = false≢true o
    less_no_reference cs c m o (x.IsReference.decimal some each legal) = false≢true o
    less_no_reference cs c m o (x.IsReference.hexadecimal some each legal) = false≢true o
broken_reaches cs b text rest (x.IsCharacters.section {mid = m} {inside = i} s h) t = b.no_section i m s
broken_reaches cs b text rest (x.IsCharacters.comment {mid = m} s h) t = b.no_piece m (inl s)
broken_reaches cs b text rest (x.IsCharacters.instruction {mid = m} s h) t = b.no_piece m (inr s)

-- a character that can't stand there
stuck : (cs text rest : List ℕ) → kind_of cs ≡ 0 → ((c : ℕ) (ds : List ℕ) → cs ≡ c ∷ ds → is_data_char c ≡ true → ((behind : List ℕ) → cs ≢ codes "]]>" ++ behind) → ⊥) → IsCharacters cs text rest → opens_tag rest ≡ true → ⊥
stuck cs text rest kind none x.IsCharacters.none t = let five = tag_kind cs t in absurd (omega arith)
stuck cs text rest kind none (x.IsCharacters.itself {c = c} {cs = f} d a h) t = none c f refl d a
stuck cs text rest kind none (x.IsCharacters.reference {c = c} {mid = m} r h) t = let k = reference_kind cs c m r in absurd (omega arith)
stuck cs text rest kind none (x.IsCharacters.section {mid = m} {inside = i} s h) t = let k = section_kind cs i m s in absurd (omega arith)
stuck cs text rest kind none (x.IsCharacters.comment {mid = m} s h) t = let k = comment_kind cs m s in absurd (omega arith)
stuck cs text rest kind none (x.IsCharacters.instruction {mid = m} s h) t = let k = instruction_kind cs m s in absurd (omega arith)

is_other : (c d : ℕ) → c ≢ d → (c == d) ≡ false
is_other c d e = grind (arith, nat_tests)

illegal_data : (c : ℕ) → c ≢ 38 → c ≢ 60 → is_data_char c ≡ false → is_xml_char c ≡ false
illegal_data c amp less d = cases (is_xml_char c) refl
  where
    plain : (c : ℕ) → c ≢ 38 → c ≢ 60 → not (c == 60 || c == 38) ≡ true
    plain c amp less = grind (arith, nat_tests)

    cases : (b : Bool) → is_xml_char c ≡ b → is_xml_char c ≡ false
    cases false e = e
    cases true e = absurd (false≢true (sym d ∙ and_from (is_xml_char c) (not (c == 60 || c == 38)) e (plain c amp less)))

pub wrong_reaches : (cs : List ℕ) (c : ℕ) (after : List ℕ) → cs ≡ c ∷ after → c ≢ 38 → c ≢ 60 → (is_data_char c ≡ false) ⊎ ((behind : List ℕ) × (c ∷ after ≡ codes "]]>" ++ behind)) → ReachNoTag (lines_of cs)
wrong_reaches cs c after first amp less (inl d) text rest h t = stuck (lines_of cs) text rest (ap kind_of whole ∙ other_kind c (lines_of after) (is_other c 38 amp) (is_other c 60 less)) none h t
  where
    whole : lines_of cs ≡ c ∷ lines_of after
    whole = ap lines_of first ∙ inner_itself c after (illegal_inner c (illegal_data c amp less d))

    none : (b : ℕ) (ds : List ℕ) → lines_of cs ≡ b ∷ ds → is_data_char b ≡ true → ((behind : List ℕ) → lines_of cs ≢ codes "]]>" ++ behind) → ⊥
    none b ds e legal apart = true≢false (sym legal ∙ ap is_data_char (cons_first (sym e ∙ whole)) ∙ d)
wrong_reaches cs c after first amp less (inr (behind, e)) text rest h t = stuck (lines_of cs) text rest (ap kind_of whole) (λ b ds is legal apart. apart (lines_of behind) whole) h t
  where
    whole : lines_of cs ≡ codes "]]>" ++ lines_of behind
    whole = ap lines_of (first ∙ e) ∙ inner_front (codes "]]>") behind refl

-- `]]>` begins where `]>` follows `]`
pub end_found : (c : ℕ) (after : List ℕ) (r : Option (Bor (List ℕ))) → c ≡ 93 → is_some r ≡ true → MatchOption r ((behind : List ℕ) → after ≢ codes "]>" ++ behind) (λ x. after ≡ codes "]>" ++ chars x.now)
    → (behind : List ℕ) × (c ∷ after ≡ codes "]]>" ++ behind)
end_found c after None is some h = absurd (false≢true some)
end_found c after (Some r) is some h = (chars r.now, ap (λ d. d ∷ after) is ∙ ap (λ l. 93 ∷ l) h)

-- what is read leads on to where none may follow
pub text_reaches : (cs text mid : List ℕ) → IsCharacters cs text mid → ReachNoTag mid → ReachNoTag cs
text_reaches cs text mid h none more rest k t = let on = leads_on cs text more mid rest h k (tag_kind rest t) in none on.0 rest on.1 t

-- ---- a tag, which isn't read

pub bare_less : (cs after : List ℕ) → cs ≡ 60 ∷ after → ((i rest : List ℕ) → ¬ IsSection cs i rest) → ((rest : List ℕ) → ¬ IsPiece cs rest) → IsBare cs
bare_less cs after e sections pieces text rest x.IsCharacters.none = refl
bare_less cs after e sections pieces text rest (x.IsCharacters.itself {c = c} {cs = f} d a h) = absurd (less_no_data c (ap (λ n. n == 60) (cons_first e)) d)
bare_less cs after e sections pieces text rest (x.IsCharacters.reference {c = c} {mid = m} r h) = absurd (none cs c m r e)
  where
    none : (cs : List ℕ) (c : ℕ) (m : List ℕ) → IsReference cs c m → cs ≡ 60 ∷ after → ⊥
    none cs c m (x.IsReference.entity i) e = true≢false (ap (begins_with (λ d. d == 38)) e)
    none cs c m (x.IsReference.decimal some each legal) e = true≢false (ap (begins_with (λ d. d == 38)) e)
    none cs c m (x.IsReference.hexadecimal some each legal) e = true≢false (ap (begins_with (λ d. d == 38)) e)
bare_less cs after e sections pieces text rest (x.IsCharacters.section {mid = m} {inside = i} s h) = absurd (sections i m s)
bare_less cs after e sections pieces text rest (x.IsCharacters.comment {mid = m} s h) = absurd (pieces m (inl s))
bare_less cs after e sections pieces text rest (x.IsCharacters.instruction {mid = m} s h) = absurd (pieces m (inr s))

pub piece_bare : {E : Type 0} (cs after : List ℕ) (r : Result (Option (Bor (List ℕ))) E) → cs ≡ 60 ∷ after → ((i rest : List ℕ) → ¬ IsSection (lines_of cs) i rest)
    → IfOk r (λ found. MatchOption found ((rest : List ℕ) → ¬ IsPiece (lines_of cs) rest) (λ rest. IsPiece (lines_of cs) (lines_of (chars rest.now)))) → IfOk r (λ found. IsNone found → IsBare (lines_of cs))
piece_bare cs after (Ok None) e sections h = λ none. bare_less (lines_of cs) (lines_of after) (ap lines_of e ∙ inner_itself 60 after refl) sections h
piece_bare cs after (Ok (Some rest)) e sections h = λ none. absurd (false≢true (sym none))
piece_bare cs after (Err k) e sections h = tt

pub piece_reaches : {A : Type 0} (r : Result A Stop) (cs : List ℕ) → IfErr r (λ e. IsBroken cs) → IfErr r (λ stop. IsOfText stop.kind → ReachNoTag cs)
piece_reaches (Ok a) cs h = tt
piece_reaches (Err e) cs h = λ own. broken_reaches cs h
