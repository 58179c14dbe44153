-- There is one first end behind some characters.
use Rattle.std.proofs.Common.{◌≡◌, ◌≢◌, ◌<◌, ℕ, true, List, [], ◌∷◌, ◌++◌, length, refl, sym, ap, ◌∙◌, arith, append_assoc}
use Rattle.std.specs.Prelude.{codes, ◌==◌}
use Rattle.std.specs.List.{list_all}
use Rattle.std.proofs.lemmas.Bool.{and_parts, true≢false}
use Rattle.std.proofs.lemmas.List.{append_cancel_left}
use Rattle.rn_text.specs.Characters.{is_xml_char}
use Rattle.rn_text.specs.Segments.{begins_with}
use Rattle.rn_text.proofs.Words.EqualLists.{cons_first, cons_rest}
use Rattle.rn_xml.specs.XmlCharacters.{Lacks}
use Rattle.rn_xml.specs.inside.Pieces.{IsUpTo, here, further}

pub up_to_once : (end cs ds i j r s : List ℕ) → IsUpTo end cs i r → IsUpTo end ds j s → cs ≡ ds → (i ≡ j) × (r ≡ s)
up_to_once end cs ds i j r s here here e = (refl, append_cancel_left end r s e)
up_to_once end cs ds i j r s here (further {c = c} {cs = f} legal absent k) e = absurd (absent r (sym e))
up_to_once end cs ds i j r s (further {c = c} {cs = a} legal absent h) here e = absurd (absent s e)
up_to_once end cs ds i j r s (further {c = c} {cs = a} {inside = p} legal absent h) (further {c = b} {cs = f} {inside = q} legal2 absent2 k) e =
    let first : c ≡ b = cc in
    let behind : a ≡ f = cc in
    let more = up_to_once end a f p q r s h k behind in
    (ap (λ n. n ∷ p) first ∙ ap (λ l. b ∷ l) more.0, more.1)

-- no end begins within these characters, where this end follows them
abbrev pub IsFirstEnd : List ℕ → List ℕ → Type 0
IsFirstEnd end inside = (front tail rest behind : List ℕ) → inside ≡ front ++ tail → 0 < length tail → tail ++ (end ++ rest) ≢ end ++ behind

pub up_to_first : (end inside rest : List ℕ) → list_all is_xml_char inside ≡ true → IsFirstEnd end inside → IsUpTo end (inside ++ (end ++ rest)) inside rest
up_to_first end [] rest legal first = here
up_to_first end (c ∷ inside) rest legal first =
    further (and_parts _ _ legal).0 (λ behind e. first [] (c ∷ inside) rest behind refl (omega arith) e)
    (up_to_first end inside rest (and_parts _ _ legal).1 (λ front tail more behind is some e. first (c ∷ front) tail more behind (ap (λ l. c ∷ l) is) some e))

pub first_dashes : (inside : List ℕ) → Lacks (codes "--") (inside ++ codes "-") → IsFirstEnd (codes "--") inside
first_dashes inside lacks front [] rest behind is some e = absurd (omega arith)
first_dashes inside lacks front (a ∷ []) rest behind is some e =
    lacks front [] (ap (λ l. l ++ codes "-") (is ∙ ap (λ d. front ++ d ∷ []) (cons_first e)) ∙ append_assoc front (codes "-") (codes "-"))
first_dashes inside lacks front (a ∷ b ∷ tail) rest behind is some e =
    lacks front (tail ++ codes "-")
    (ap (λ l. l ++ codes "-") (is ∙ ap (λ d. front ++ d ∷ b ∷ tail) (cons_first e) ∙ ap (λ d. front ++ 45 ∷ d ∷ tail) (cons_first (cons_rest e))) ∙ append_assoc front (45 ∷ 45 ∷ tail) (codes "-"))

pub first_mark : (inside : List ℕ) → Lacks (codes "?>") inside → IsFirstEnd (codes "?>") inside
first_mark inside lacks front [] rest behind is some e = absurd (omega arith)
first_mark inside lacks front (a ∷ []) rest behind is some e = true≢false (ap (begins_with (λ d. d == 63)) (cons_rest e))
first_mark inside lacks front (a ∷ b ∷ tail) rest behind is some e =
    lacks front tail (is ∙ ap (λ d. front ++ d ∷ b ∷ tail) (cons_first e) ∙ ap (λ d. front ++ 63 ∷ d ∷ tail) (cons_first (cons_rest e)))

pub first_brackets : (inside : List ℕ) → Lacks (codes "]]>") inside → IsFirstEnd (codes "]]>") inside
first_brackets inside lacks front [] rest behind is some e = absurd (omega arith)
first_brackets inside lacks front (a ∷ []) rest behind is some e = true≢false (ap (begins_with (λ d. d == 93)) (cons_rest (cons_rest e)))
first_brackets inside lacks front (a ∷ b ∷ []) rest behind is some e = true≢false (ap (begins_with (λ d. d == 93)) (cons_rest (cons_rest e)))
first_brackets inside lacks front (a ∷ b ∷ c ∷ tail) rest behind is some e =
    lacks front tail
    (is ∙ ap (λ d. front ++ d ∷ b ∷ c ∷ tail) (cons_first e) ∙ ap (λ d. front ++ 93 ∷ d ∷ c ∷ tail) (cons_first (cons_rest e)) ∙ ap (λ d. front ++ 93 ∷ 93 ∷ d ∷ tail) (cons_first (cons_rest (cons_rest e))))
