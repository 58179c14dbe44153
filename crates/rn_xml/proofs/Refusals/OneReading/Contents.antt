-- What is between tags, and what is around the root: of two readings of the same characters one goes on where the other ends.
use Rattle.std.proofs.Common.{◌≡◌, ℕ, List, [], refl, sym, ap, ◌∙◌, subst, arith, inl, inr, ⊎_elim}
use Rattle.std.specs.Prelude.{◌⊎◌}
use Rattle.rn_xml.specs.XmlCharacters.{IsCharacters, AreMisc}
use Rattle.rn_xml.specs.XmlCharacters as x
use Rattle.rn_xml.proofs.Refusals.OneReading.FirstCharacters.{kind_of, reference_kind, section_kind, comment_kind, instruction_kind, data_kind, white_kind}
use Rattle.rn_xml.proofs.Refusals.OneReading.References.{reference_once}
use Rattle.rn_xml.proofs.Refusals.OneReading.Markup.{comment_once, section_once, instruction_once}

-- ---- characters between tags

abbrev pub ContinuesCharacters : List ℕ → List ℕ → Type 0
ContinuesCharacters cs rest = (text : List ℕ) × IsCharacters cs text rest

abbrev pub first_of : {cs text rest : List ℕ} → IsCharacters cs text rest → ℕ
first_of x.IsCharacters.none = 5
first_of (x.IsCharacters.itself d a h) = 0
first_of (x.IsCharacters.reference r h) = 1
first_of (x.IsCharacters.section s h) = 2
first_of (x.IsCharacters.comment s h) = 3
first_of (x.IsCharacters.instruction s h) = 4

-- they begin as their first piece does, if they have one
pub first_is : (cs text rest : List ℕ) → (h : IsCharacters cs text rest) → (kind_of cs ≡ first_of h) ⊎ (cs ≡ rest)
first_is cs text rest x.IsCharacters.none = inr refl
first_is cs text rest (x.IsCharacters.itself {c = c} {cs = ds} d a h) = inl (data_kind c ds d)
first_is cs text rest (x.IsCharacters.reference {c = c} {mid = m} r h) = inl (reference_kind cs c m r)
first_is cs text rest (x.IsCharacters.section {mid = m} {inside = i} s h) = inl (section_kind cs i m s)
first_is cs text rest (x.IsCharacters.comment {mid = m} s h) = inl (comment_kind cs m s)
first_is cs text rest (x.IsCharacters.instruction {mid = m} s h) = inl (instruction_kind cs m s)

-- where no piece begins, none is read
pub no_characters : (cs text rest : List ℕ) → kind_of cs ≡ 5 → IsCharacters cs text rest → rest ≡ cs
no_characters cs text rest five x.IsCharacters.none = refl
no_characters cs text rest five (x.IsCharacters.itself {c = c} {cs = ds} d a h) = let e = data_kind c ds d in absurd (omega arith)
no_characters cs text rest five (x.IsCharacters.reference {c = c} {mid = m} r h) = let e = reference_kind cs c m r in absurd (omega arith)
no_characters cs text rest five (x.IsCharacters.section {mid = m} {inside = i} s h) = let e = section_kind cs i m s in absurd (omega arith)
no_characters cs text rest five (x.IsCharacters.comment {mid = m} s h) = let e = comment_kind cs m s in absurd (omega arith)
no_characters cs text rest five (x.IsCharacters.instruction {mid = m} s h) = let e = instruction_kind cs m s in absurd (omega arith)

pub characters_compare : (cs ds t u m n : List ℕ) → IsCharacters cs t m → IsCharacters ds u n → cs ≡ ds → ContinuesCharacters m n ⊎ ContinuesCharacters n m
characters_compare cs ds t u m n x.IsCharacters.none k e = inl (u, subst (λ l. IsCharacters l u n) (sym e) k)
characters_compare cs ds t u m n h x.IsCharacters.none e = inr (t, subst (λ l. IsCharacters l t m) e h)
characters_compare cs ds t u m n (x.IsCharacters.itself {c = c} {cs = a} {text = p} d apart h) (x.IsCharacters.itself {c = b} {cs = f} {text = q} d2 apart2 k) e =
    let behind : a ≡ f = cc in characters_compare a f p q m n h k behind
characters_compare cs ds t u m n (x.IsCharacters.reference {c = c} {mid = a} {text = p} r h) (x.IsCharacters.reference {c = b} {mid = f} {text = q} r2 k) e =
    characters_compare a f p q m n h k (reference_once cs ds c b a f r r2 e).1
characters_compare cs ds t u m n (x.IsCharacters.section {mid = a} {inside = i} {text = p} r h) (x.IsCharacters.section {mid = f} {inside = j} {text = q} r2 k) e =
    characters_compare a f p q m n h k (section_once cs ds i j a f r r2 e)
characters_compare cs ds t u m n (x.IsCharacters.comment {mid = a} {text = p} r h) (x.IsCharacters.comment {mid = f} {text = q} r2 k) e =
    characters_compare a f p q m n h k (comment_once cs ds a f r r2 e)
characters_compare cs ds t u m n (x.IsCharacters.instruction {mid = a} {text = p} r h) (x.IsCharacters.instruction {mid = f} {text = q} r2 k) e =
    characters_compare a f p q m n h k (instruction_once cs ds a f r r2 e)
characters_compare cs ds t u m n h k e = ⊎_elim
    (λ one. ⊎_elim
    (λ two. let same : first_of h ≡ first_of k = sym one ∙ ap kind_of e ∙ two in absurd (omega arith))
    (λ ends. inr (t, subst (λ l. IsCharacters l t m) (e ∙ ends) h))
    (first_is ds u n k))
    (λ ends. inl (u, subst (λ l. IsCharacters l u n) (sym e ∙ ends) k))
    (first_is cs t m h)

-- what is read first leads on to each place at which nothing more begins
pub leads_on : (cs t u m n : List ℕ) → IsCharacters cs t m → IsCharacters cs u n → kind_of n ≡ 5 → ContinuesCharacters m n
leads_on cs t u m n h k five = ⊎_elim
    (λ on. on)
    (λ back. let same : m ≡ n = no_characters n back.0 m five back.1 in ([], subst (λ l. IsCharacters m [] l) same x.IsCharacters.none))
    (characters_compare cs cs t u m n h k refl)

-- ---- comments, processing instructions and white space

abbrev pub misc_first_of : {cs rest : List ℕ} → AreMisc cs rest → ℕ
misc_first_of x.AreMisc.none = 5
misc_first_of (x.AreMisc.white w h) = 0
misc_first_of (x.AreMisc.comment s h) = 3
misc_first_of (x.AreMisc.instruction s h) = 4

misc_first_is : (cs rest : List ℕ) → (h : AreMisc cs rest) → (kind_of cs ≡ misc_first_of h) ⊎ (cs ≡ rest)
misc_first_is cs rest x.AreMisc.none = inr refl
misc_first_is cs rest (x.AreMisc.white {c = c} {cs = ds} w h) = inl (white_kind c ds w)
misc_first_is cs rest (x.AreMisc.comment {mid = m} s h) = inl (comment_kind cs m s)
misc_first_is cs rest (x.AreMisc.instruction {mid = m} s h) = inl (instruction_kind cs m s)

pub no_misc : (cs rest : List ℕ) → kind_of cs ≡ 5 → AreMisc cs rest → rest ≡ cs
no_misc cs rest five x.AreMisc.none = refl
no_misc cs rest five (x.AreMisc.white {c = c} {cs = ds} w h) = let e = white_kind c ds w in absurd (omega arith)
no_misc cs rest five (x.AreMisc.comment {mid = m} s h) = let e = comment_kind cs m s in absurd (omega arith)
no_misc cs rest five (x.AreMisc.instruction {mid = m} s h) = let e = instruction_kind cs m s in absurd (omega arith)

misc_compare : (cs ds m n : List ℕ) → AreMisc cs m → AreMisc ds n → cs ≡ ds → AreMisc m n ⊎ AreMisc n m
misc_compare cs ds m n x.AreMisc.none k e = inl (subst (λ l. AreMisc l n) (sym e) k)
misc_compare cs ds m n h x.AreMisc.none e = inr (subst (λ l. AreMisc l m) e h)
misc_compare cs ds m n (x.AreMisc.white {cs = a} w h) (x.AreMisc.white {cs = f} w2 k) e = let behind : a ≡ f = cc in misc_compare a f m n h k behind
misc_compare cs ds m n (x.AreMisc.comment {mid = a} r h) (x.AreMisc.comment {mid = f} r2 k) e = misc_compare a f m n h k (comment_once cs ds a f r r2 e)
misc_compare cs ds m n (x.AreMisc.instruction {mid = a} r h) (x.AreMisc.instruction {mid = f} r2 k) e = misc_compare a f m n h k (instruction_once cs ds a f r r2 e)
misc_compare cs ds m n h k e = ⊎_elim
    (λ one. ⊎_elim
    (λ two. let same : misc_first_of h ≡ misc_first_of k = sym one ∙ ap kind_of e ∙ two in absurd (omega arith))
    (λ ends. inr (subst (λ l. AreMisc l m) (e ∙ ends) h))
    (misc_first_is ds n k))
    (λ ends. inl (subst (λ l. AreMisc l n) (sym e ∙ ends) k))
    (misc_first_is cs m h)

pub misc_leads_on : (cs m n : List ℕ) → AreMisc cs m → AreMisc cs n → kind_of n ≡ 5 → AreMisc m n
misc_leads_on cs m n h k five = ⊎_elim
    (λ on. on)
    (λ back. let same : m ≡ n = no_misc n m five back in subst (λ l. AreMisc m l) same x.AreMisc.none)
    (misc_compare cs cs m n h k refl)
