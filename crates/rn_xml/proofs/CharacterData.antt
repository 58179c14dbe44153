-- Characters between tags, piece by piece.
use Rattle.std.proofs.Common.{◌≡◌, ◌≢◌, ℕ, true, false, List, [], ◌∷◌, ◌++◌, inl, inr, refl, sym, ap, ◌∙◌, subst, arith, append_assoc, append-nil, Bor, Some, None}
use Rattle.std.specs.Prelude.{◌==◌, ◌||◌, not, codes, Option, is_some, MatchOption, Result, Ok, Err, IfOk}
use Rattle.std.specs.Str.{chars}
use Rattle.std.proofs.lemmas.Str.{chars-nil}
use Rattle.std.proofs.lemmas.Bool.{and_from, false≢true}
use Rattle.std.proofs.lemmas.Bool.Decides.{nat_tests}
use Rattle.rn_text.specs.Characters.{is_xml_char}
use Rattle.rn_xml.specs.XmlCharacters.{lines_of, IsReference, IsSection, IsCharacters, is_data_char}
use Rattle.rn_xml.specs.XmlCharacters as x
use Rattle.rn_xml.specs.inside.Pieces.{IsPiece, Appends, normal}
use Rattle.rn_xml.proofs.Sources.{lines_step, front_absent, normal_cases}

pub characters_joined : (cs text mid more rest : List ℕ) → IsCharacters cs text mid → IsCharacters mid more rest → IsCharacters cs (text ++ more) rest
characters_joined cs text mid more rest x.IsCharacters.none k = k
characters_joined cs text mid more rest (x.IsCharacters.itself {cs = ds} {text = t} d a h) k = x.IsCharacters.itself d a (characters_joined ds t mid more rest h k)
characters_joined cs text mid more rest (x.IsCharacters.reference {mid = m} {text = t} r h) k = x.IsCharacters.reference r (characters_joined m t mid more rest h k)
characters_joined cs text mid more rest (x.IsCharacters.section {mid = m} {inside = i} {text = t} s h) k =
    subst (λ l. IsCharacters cs l rest) (sym (append_assoc i t more)) (x.IsCharacters.section s (characters_joined m t mid more rest h k))
characters_joined cs text mid more rest (x.IsCharacters.comment {mid = m} {text = t} s h) k = x.IsCharacters.comment s (characters_joined m t mid more rest h k)
characters_joined cs text mid more rest (x.IsCharacters.instruction {mid = m} {text = t} s h) k = x.IsCharacters.instruction s (characters_joined m t mid more rest h k)

-- characters that were read, and some more
pub characters_more : (old new cs mid rest : List ℕ) → IsCharacters cs (chars old) mid → Appends old new (λ added. IsCharacters mid added rest) → IsCharacters cs (chars new) rest
characters_more old new cs mid rest h (added, put, k) = subst (λ l. IsCharacters cs l rest) (sym put) (characters_joined cs (chars old) mid added rest h k)

-- ---- one piece

feed_data : is_data_char 10 ≡ true
unfolding is_xml_char
feed_data = refl

pub character_read : (old new cs after : List ℕ) (c : ℕ) → cs ≡ c ∷ after → is_data_char c ≡ true → ((behind : List ℕ) → c ∷ after ≢ codes "]]>" ++ behind) → chars new ≡ chars old ++ normal c after
    → Appends old new (λ added. IsCharacters (lines_of cs) added (lines_of after))
character_read old new cs after c e d absent put = (normal c after, put, subst (λ l. IsCharacters l (normal c after) (lines_of after)) (sym (ap lines_of e ∙ lines_step c after)) (step (λ behind f. front_absent (codes "]]>") (c ∷ after) refl absent behind (lines_step c after ∙ f))))
  where
    step : ((behind : List ℕ) → normal c after ++ lines_of after ≢ codes "]]>" ++ behind) → IsCharacters (normal c after ++ lines_of after) (normal c after) (lines_of after)
    step = normal_cases (λ n. ((behind : List ℕ) → n ++ lines_of after ≢ codes "]]>" ++ behind) → IsCharacters (n ++ lines_of after) n (lines_of after)) c after
        (λ r f none. x.IsCharacters.none) (λ none. x.IsCharacters.itself feed_data none x.IsCharacters.none) (λ none. x.IsCharacters.itself d none x.IsCharacters.none)

pub reference_read : (old new cs rest : List ℕ) (c : ℕ) → IsReference cs c rest → chars new ≡ chars old ++ c ∷ [] → Appends old new (λ added. IsCharacters cs added rest)
reference_read old new cs rest c r put = (c ∷ [], put, x.IsCharacters.reference r x.IsCharacters.none)

pub section_characters : (old new cs rest : List ℕ) → Appends old new (λ inside. IsSection cs inside rest) → Appends old new (λ added. IsCharacters cs added rest)
section_characters old new cs rest (inside, put, s) = (inside, put, subst (λ l. IsCharacters cs l rest) (append-nil inside) (x.IsCharacters.section s x.IsCharacters.none))

piece_characters : (cs rest : List ℕ) → IsPiece cs rest → IsCharacters cs [] rest
piece_characters cs rest (inl h) = x.IsCharacters.comment h x.IsCharacters.none
piece_characters cs rest (inr h) = x.IsCharacters.instruction h x.IsCharacters.none

piece_answer : (old new cs : List ℕ) (r : Option (Bor (List ℕ))) → new ≡ old → MatchOption r ((rest : List ℕ) → ¬ IsPiece cs rest) (λ rest. IsPiece cs (lines_of (chars rest.now))) → MatchOption r (new ≡ old) (λ rest. Appends old new (λ added. IsCharacters cs added (lines_of (chars rest.now))))
piece_answer old new cs None e h = e
piece_answer old new cs (Some rest) e h = ([], ap chars e ∙ sym (append-nil (chars old)), piece_characters cs (lines_of (chars rest.now)) h)

-- ---- a character that may stand there

pub data_char : (c : ℕ) → c ≢ 38 → c ≢ 60 → is_xml_char c ≡ true → is_data_char c ≡ true
data_char c amp less legal = and_from (is_xml_char c) (not (c == 60 || c == 38)) legal other
  where
    other : not (c == 60 || c == 38) ≡ true
    other = grind (arith, nat_tests)

-- `]]>` doesn't begin where `]>` doesn't follow, or another character is first
pub absent_behind : (c : ℕ) (after : List ℕ) (r : Option (Bor (List ℕ))) → is_some r ≡ false → MatchOption r ((behind : List ℕ) → after ≢ codes "]>" ++ behind) (λ x. after ≡ codes "]>" ++ chars x.now) → (behind : List ℕ) → c ∷ after ≢ codes "]]>" ++ behind
absent_behind c after None e h behind f = h behind (let rest : after ≡ codes "]>" ++ behind = cc in rest)
absent_behind c after (Some x) e h behind f = absurd (false≢true (sym e))

pub absent_other : (c : ℕ) (after : List ℕ) → c ≢ 93 → (behind : List ℕ) → c ∷ after ≢ codes "]]>" ++ behind
absent_other c after other behind f = other (let first : c ≡ 93 = cc in first)

-- ---- answers

pub piece_result : {E : Type 0} (old new cs : List ℕ) (r : Result (Option (Bor (List ℕ))) E) → new ≡ old → IfOk r (λ found. MatchOption found ((rest : List ℕ) → ¬ IsPiece cs rest) (λ rest. IsPiece cs (lines_of (chars rest.now))))
    → IfOk r (λ found. MatchOption found (new ≡ old) (λ rest. Appends old new (λ added. IsCharacters cs added (lines_of (chars rest.now)))))
piece_result old new cs (Ok found) e h = piece_answer old new cs found e h
piece_result old new cs (Err k) e h = tt

pub characters_none : (cs bytes : List ℕ) → bytes ≡ [] → IsCharacters cs (chars bytes) cs
characters_none cs bytes e = subst (λ l. IsCharacters cs l cs) (sym (ap chars e ∙ chars-nil)) x.IsCharacters.none
