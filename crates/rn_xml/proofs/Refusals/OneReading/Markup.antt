-- Comments, processing instructions and CDATA sections are read in one way.
use Rattle.std.proofs.Common.{◌≡◌, ◌≢◌, ℕ, Bool, true, false, cond, List, [], ◌∷◌, ◌++◌, refl, sym, ap, ◌∙◌, arith, inl, inr}
use Rattle.std.specs.Prelude.{◌⊎◌, codes}
use Rattle.std.specs.List.{list_all}
use Rattle.std.proofs.lemmas.Bool.{and_parts, false≢true}
use Rattle.std.proofs.lemmas.Bool.Decides.{nat_tests}
use Rattle.std.proofs.lemmas.List.{append_cancel_left}
use Rattle.rn_text.specs.Characters.{is_xml_char, is_name_char, is_name_start}
use Rattle.rn_text.specs.Segments.{begins_with, run_of, after_run}
use Rattle.rn_text.specs.Texts.{is_white}
use Rattle.rn_text.proofs.Cutting.NameTokens.{name_chars}
use Rattle.rn_text.proofs.Words.EqualLists.{cons_first, cons_rest}
use Rattle.rn_xml.specs.XmlCharacters.{IsComment, IsTarget, IsInstruction, IsSection}
use Rattle.rn_xml.specs.XmlCharacters as x
use Rattle.rn_xml.specs.inside.Pieces.{IsUpTo, further}
use Rattle.rn_xml.proofs.Decoding.NamedEncodings.{white_stops}
use Rattle.rn_xml.proofs.Refusals.OneReading.UpToOneEnd.{up_to_once, up_to_first, first_dashes, first_mark, first_brackets}

-- ---- comments

pub record CommentParts (cs rest : List ℕ) : Type 0 where
  pub body : List ℕ
  pub inside : List ℕ
  pub is : cs ≡ codes "<!--" ++ body
  pub up_to : IsUpTo (codes "--") body inside (62 ∷ rest)

pub comment_parts : (cs rest : List ℕ) → IsComment cs rest → CommentParts cs rest
comment_parts cs rest (x.IsComment.comment inside {rest = r} legal lacks) =
    let first = first_dashes inside lacks in
    record { body = inside ++ (codes "-->" ++ r); inside = inside; is = refl; up_to = up_to_first (codes "--") inside (62 ∷ r) legal first }

pub comment_once : (cs ds r s : List ℕ) → IsComment cs r → IsComment ds s → cs ≡ ds → r ≡ s
comment_once cs ds r s h k e =
    let a = comment_parts cs r h in
    let b = comment_parts ds s k in
    let bodies : a.body ≡ b.body = append_cancel_left (codes "<!--") a.body b.body (sym a.is ∙ e ∙ b.is) in
    let both = up_to_once (codes "--") a.body b.body a.inside b.inside (62 ∷ r) (62 ∷ s) a.up_to b.up_to bodies in
    cons_rest both.1

-- ---- CDATA sections

pub record SectionParts (cs inside rest : List ℕ) : Type 0 where
  pub body : List ℕ
  pub is : cs ≡ codes "<![CDATA[" ++ body
  pub up_to : IsUpTo (codes "]]>") body inside rest

pub section_parts : (cs inside rest : List ℕ) → IsSection cs inside rest → SectionParts cs inside rest
section_parts cs inside rest (x.IsSection.section {rest = r} legal lacks) =
    record { body = inside ++ (codes "]]>" ++ r); is = refl; up_to = up_to_first (codes "]]>") inside r legal (first_brackets inside lacks) }

pub section_once : (cs ds i j r s : List ℕ) → IsSection cs i r → IsSection ds j s → cs ≡ ds → r ≡ s
section_once cs ds i j r s h k e =
    let a = section_parts cs i r h in
    let b = section_parts ds j s k in
    let bodies : a.body ≡ b.body = append_cancel_left (codes "<![CDATA[") a.body b.body (sym a.is ∙ e ∙ b.is) in
    (up_to_once (codes "]]>") a.body b.body i j r s a.up_to b.up_to bodies).1

-- ---- runs of characters of a name

pub run_of_name : (p : ℕ → Bool) (name behind : List ℕ) → list_all p name ≡ true → begins_with p behind ≡ false → (run_of p (name ++ behind) ≡ name) × (after_run p (name ++ behind) ≡ behind)
run_of_name p [] [] all stops = (refl, refl)
run_of_name p [] (c ∷ cs) all stops = (ap (λ b. cond b (c ∷ run_of p cs) []) stops, ap (λ b. cond b (after_run p cs) (c ∷ cs)) stops)
run_of_name p (c ∷ name) behind all stops =
    let both = and_parts (p c) (list_all p name) all in
    let more = run_of_name p name behind both.1 stops in
    (ap (λ b. cond b (c ∷ run_of p (name ++ behind)) []) both.0 ∙ ap (λ l. c ∷ l) more.0, ap (λ b. cond b (after_run p (name ++ behind)) (c ∷ (name ++ behind))) both.0 ∙ more.1)

no_mark : is_name_char 63 ≡ false
unfolding is_name_char is_name_start
no_mark = refl

-- ---- processing instructions

pub record InstructionParts (cs rest : List ℕ) : Type 0 where
  pub name : List ℕ
  pub tail : List ℕ
  pub is : cs ≡ codes "<?" ++ (name ++ tail)
  pub is_target : IsTarget name
  pub stops : begins_with is_name_char tail ≡ false
  pub goes_on : (tail ≡ codes "?>" ++ rest) ⊎ ((inside : List ℕ) × (begins_with is_white tail ≡ true) × IsUpTo (codes "?>") tail inside rest)

legal_white : (c : ℕ) → is_white c ≡ true → is_xml_char c ≡ true
unfolding is_xml_char
legal_white c w = grind (arith, nat_tests)

pub instruction_parts : (cs rest : List ℕ) → IsInstruction cs rest → InstructionParts cs rest
instruction_parts cs rest (x.IsInstruction.bare name {rest = r} target) = record { name = name; tail = codes "?>" ++ r; is = refl; is_target = target; stops = no_mark; goes_on = inl refl }
instruction_parts cs rest (x.IsInstruction.full name c inside {rest = r} target white legal lacks) = record {
  name = name;
  tail = c ∷ (inside ++ (codes "?>" ++ r));
  is = refl;
  is_target = target;
  stops = white_stops c white;
  goes_on = inr (c ∷ inside, white, further (legal_white c white) (λ behind e. other c white (cons_first e)) (up_to_first (codes "?>") inside r legal (first_mark inside lacks)));
}
  where
    other : (c : ℕ) → is_white c ≡ true → c ≢ 63
    other c w e = grind (arith, nat_tests)

tails_once : (a b r s : List ℕ) → a ≡ b → (a ≡ codes "?>" ++ r) ⊎ ((inside : List ℕ) × (begins_with is_white a ≡ true) × IsUpTo (codes "?>") a inside r)
    → (b ≡ codes "?>" ++ s) ⊎ ((inside : List ℕ) × (begins_with is_white b ≡ true) × IsUpTo (codes "?>") b inside s) → r ≡ s
tails_once a b r s e (inl f) (inl g) = append_cancel_left (codes "?>") r s (sym f ∙ e ∙ g)
tails_once a b r s e (inl f) (inr (j, white, k)) = absurd (false≢true (ap (begins_with is_white) (sym (sym e ∙ f)) ∙ white))
tails_once a b r s e (inr (i, white, h)) (inl g) = absurd (false≢true (ap (begins_with is_white) (sym (e ∙ g)) ∙ white))
tails_once a b r s e (inr (i, white, h)) (inr (j, white2, k)) = (up_to_once (codes "?>") a b i j r s h k e).1

pub instruction_once : (cs ds r s : List ℕ) → IsInstruction cs r → IsInstruction ds s → cs ≡ ds → r ≡ s
instruction_once cs ds r s h k e =
    let a = instruction_parts cs r h in
    let b = instruction_parts ds s k in
    let both : a.name ++ a.tail ≡ b.name ++ b.tail = append_cancel_left (codes "<?") (a.name ++ a.tail) (b.name ++ b.tail) (sym a.is ∙ e ∙ b.is) in
    let one = run_of_name is_name_char a.name a.tail (name_chars a.name a.is_target.is_name) a.stops in
    let two = run_of_name is_name_char b.name b.tail (name_chars b.name b.is_target.is_name) b.stops in
    tails_once a.tail b.tail r s (sym one.1 ∙ ap (after_run is_name_char) both ∙ two.1) a.goes_on b.goes_on
