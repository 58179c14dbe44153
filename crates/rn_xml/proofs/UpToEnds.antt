-- Characters up to the first end.
use Rattle.std.proofs.Common.{◌≡◌, ◌≢◌, ◌<◌, ℕ, true, List, [], ◌∷◌, ◌++◌, length, refl, sym, ap, ◌∙◌, subst, arith, append_assoc, append-nil, length-append}
use Rattle.std.specs.List.{list_all}
use Rattle.std.specs.Str.{chars}
use Rattle.std.proofs.lemmas.Bool.{and_from}
use Rattle.rn_text.specs.Characters.{is_xml_char}
use Rattle.rn_xml.specs.XmlCharacters.{lines_of, Lacks}
use Rattle.rn_xml.specs.inside.Pieces.{IsUpTo, here, further, Appends, normal, is_inner}
use Rattle.rn_xml.proofs.Sources.{lines_step, inner_front, front_absent, normal_cases}

-- ---- what such characters are

pub up_to_splits : (end cs inside rest : List ℕ) → IsUpTo end cs inside rest → cs ≡ inside ++ (end ++ rest)
up_to_splits end cs inside rest here = refl
up_to_splits end cs inside rest (further {c = c} {cs = ds} {inside = i} legal absent h) = ap (λ l. c ∷ l) (up_to_splits end ds i rest h)

pub up_to_legal : (end cs inside rest : List ℕ) → IsUpTo end cs inside rest → list_all is_xml_char inside ≡ true
up_to_legal end cs inside rest here = refl
up_to_legal end cs inside rest (further {c = c} {cs = ds} {inside = i} legal absent h) = and_from (is_xml_char c) (list_all is_xml_char i) legal (up_to_legal end ds i rest h)

-- no end comes before, nor one whose front is the end of the characters
pub up_to_lacks : (end tail more cs inside rest : List ℕ) → end ≡ tail ++ more → length tail < length end → IsUpTo end cs inside rest → Lacks end (inside ++ tail)
up_to_lacks end tail more cs inside rest parts shorter here front behind e = omega (arith, ap length e, length-append front (end ++ behind), length-append end behind)
up_to_lacks end tail more cs inside rest parts shorter (further {c = c} {cs = ds} {inside = i} legal absent h) [] behind e =
    absent (behind ++ (more ++ rest))
    (ap (λ l. c ∷ l) (up_to_splits end ds i rest h ∙ ap (λ l. i ++ (l ++ rest)) parts ∙ ap (λ l. i ++ l) (append_assoc tail more rest) ∙ sym (append_assoc i tail (more ++ rest)))
    ∙ ap (λ l. l ++ (more ++ rest)) e ∙ append_assoc end behind (more ++ rest))
up_to_lacks end tail more cs inside rest parts shorter (further {c = c} {cs = ds} {inside = i} legal absent h) (d ∷ front) behind e =
    let others : i ++ tail ≡ front ++ (end ++ behind) = cc in up_to_lacks end tail more ds i rest parts shorter h front behind others

-- ---- one character more

legal_feed : is_xml_char 10 ≡ true
unfolding is_xml_char
legal_feed = refl

pub up_to_step : (end : List ℕ) (c : ℕ) (cs inside rest : List ℕ) → list_all is_inner end ≡ true → is_xml_char c ≡ true → ((behind : List ℕ) → c ∷ cs ≢ end ++ behind) → IsUpTo end (lines_of cs) inside rest
    → IsUpTo end (lines_of (c ∷ cs)) (normal c cs ++ inside) rest
up_to_step end c cs inside rest inner legal absent h =
    subst (λ l. IsUpTo end l (normal c cs ++ inside) rest) (sym (lines_step c cs))
    (normal_cases (λ n. ((behind : List ℕ) → n ++ lines_of cs ≢ end ++ behind) → IsUpTo end (n ++ lines_of cs) (n ++ inside) rest) c cs (λ r f none. h) (λ none. further legal_feed none h) (λ none. further legal none h)
    (λ behind e. front_absent end (c ∷ cs) inner absent behind (lines_step c cs ∙ e)))

pub up_to_here : (end cs rest : List ℕ) → list_all is_inner end ≡ true → cs ≡ end ++ rest → IsUpTo end (lines_of cs) [] (lines_of rest)
up_to_here end cs rest inner e = subst (λ l. IsUpTo end l [] (lines_of rest)) (sym (ap lines_of e ∙ inner_front end rest inner)) here

-- ---- what a loop keeps, that passes over characters up to an end

abbrev pub Reaches : List ℕ → List ℕ → List ℕ → Type 0
Reaches end cs rest = (inside after : List ℕ) → IsUpTo end rest inside after → (whole : List ℕ) × IsUpTo end cs whole after

pub reaches_more : (end cs : List ℕ) (c : ℕ) (rest after : List ℕ) → list_all is_inner end ≡ true → Reaches end cs (lines_of rest) → rest ≡ c ∷ after → is_xml_char c ≡ true → ((behind : List ℕ) → rest ≢ end ++ behind)
    → Reaches end cs (lines_of after)
reaches_more end cs c rest after inner far first legal absent inside behind h =
    far (normal c after ++ inside) behind (subst (λ l. IsUpTo end (lines_of l) (normal c after ++ inside) behind) (sym first) (up_to_step end c after inside behind inner legal (λ b e. absent b (first ∙ e)) h))

pub reaches_end : (end cs rest behind : List ℕ) → list_all is_inner end ≡ true → Reaches end cs (lines_of rest) → rest ≡ end ++ behind → (inside : List ℕ) × IsUpTo end cs inside (lines_of behind)
reaches_end end cs rest behind inner far e = far [] (lines_of behind) (up_to_here end rest behind inner e)

-- ---- what a loop keeps, that puts such characters behind those of a text

pub record PutsUpTo (end old new cs rest : List ℕ) : Type 0 where
  pub so_far : List ℕ
  pub appended : chars new ≡ chars old ++ so_far
  pub continues : (inside after : List ℕ) → IsUpTo end rest inside after → IsUpTo end cs (so_far ++ inside) after

pub puts_none : (end old cs : List ℕ) → PutsUpTo end old old cs cs
puts_none end old cs = record { so_far = []; appended = sym (append-nil (chars old)); continues = λ inside after h. h }

pub puts_more : (end old new newer cs : List ℕ) (c : ℕ) (rest after : List ℕ) → list_all is_inner end ≡ true → PutsUpTo end old new cs (lines_of rest) → rest ≡ c ∷ after → is_xml_char c ≡ true
    → ((behind : List ℕ) → rest ≢ end ++ behind) → chars newer ≡ chars new ++ normal c after → PutsUpTo end old newer cs (lines_of after)
puts_more end old new newer cs c rest after inner far first legal absent put = record {
  so_far = far.so_far ++ normal c after;
  appended = put ∙ ap (λ l. l ++ normal c after) far.appended ∙ append_assoc (chars old) far.so_far (normal c after);
  continues = λ inside behind h.
      subst (λ l. IsUpTo end cs l behind) (sym (append_assoc far.so_far (normal c after) inside))
      (far.continues (normal c after ++ inside) behind (subst (λ l. IsUpTo end (lines_of l) (normal c after ++ inside) behind) (sym first) (up_to_step end c after inside behind inner legal (λ b e. absent b (first ∙ e)) h)));
}

pub puts_end : (end old new cs rest behind : List ℕ) → list_all is_inner end ≡ true → PutsUpTo end old new cs (lines_of rest) → rest ≡ end ++ behind → Appends old new (λ inside. IsUpTo end cs inside (lines_of behind))
puts_end end old new cs rest behind inner far e =
    (far.so_far, far.appended, subst (λ l. IsUpTo end cs l (lines_of behind)) (append-nil far.so_far) (far.continues [] (lines_of behind) (up_to_here end rest behind inner e)))
