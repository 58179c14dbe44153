-- Comments, processing instructions and CDATA sections, by the characters up to their ends.
use Rattle.std.proofs.Common.{◌≡◌, ◌<◌, ◌+◌, ℕ, Bool, true, false, cond, length, ⊎_elim, List, [], ◌∷◌, ◌++◌, inl, inr, refl, sym, ap, ◌∙◌, subst, arith, append-nil, lit<}
use Rattle.std.specs.Prelude.{◌⊎◌, ◌↔◌, codes, map, nat_lt, IsTrue, encode_utf8}
use Rattle.std.specs.Char.{to_ascii_lowercase}
use Rattle.std.specs.List.{list_all}
use Rattle.std.specs.Str.{IsUtf8, chars, encode_utf8_all}
use Rattle.std.proofs.lemmas.Bool.{iff_false, false≢true}
use Rattle.std.proofs.lemmas.Str.{encodes-chars, encodes_same, encode_ascii}
use Rattle.rn_text.specs.Characters.{is_xml_char, is_ncname}
use Rattle.rn_text.specs.Texts.{is_white}
use Rattle.rn_text.proofs.Words.EqualLists.{cons_first, cons_rest}
use Rattle.rn_xml.specs.XmlCharacters.{lines_of, MaySpace, IsSpace, IsComment, IsTarget, IsInstruction, AreMisc, IsSection, Lacks}
use Rattle.rn_xml.specs.XmlCharacters as x
use Rattle.rn_xml.specs.inside.Pieces.{IsPiece, IsUpTo, here, further, Appends}
use Rattle.rn_xml.proofs.QNames.{ncname_inner}
use Rattle.rn_xml.proofs.Sources.{inner_itself, inner_front}
use Rattle.rn_xml.proofs.UpToEnds.{up_to_splits, up_to_legal, up_to_lacks}

-- ---- comments

pub comment_read : (cs inside behind after : List ℕ) → cs ≡ codes "<!--" ++ inside → (i : List ℕ) × IsUpTo (codes "--") (lines_of inside) i (lines_of behind) → behind ≡ 62 ∷ after → IsComment (lines_of cs) (lines_of after)
comment_read cs inside behind after e (i, h) f = subst (λ l. IsComment l (lines_of after)) (sym whole)
    (x.IsComment.comment i (up_to_legal (codes "--") (lines_of inside) i (lines_of behind) h) (up_to_lacks (codes "--") (codes "-") (codes "-") (lines_of inside) i (lines_of behind) refl (lit< tt) h))
  where
    end : lines_of behind ≡ 62 ∷ lines_of after
    end = ap lines_of f ∙ inner_itself 62 after refl

    whole : lines_of cs ≡ codes "<!--" ++ (i ++ (codes "-->" ++ lines_of after))
    whole = ap lines_of e ∙ inner_front (codes "<!--") inside refl ∙ ap (λ l. codes "<!--" ++ l) (up_to_splits (codes "--") (lines_of inside) i (lines_of behind) h ∙ ap (λ l. i ++ (codes "--" ++ l)) end)

-- ---- processing instructions

upper_lower : (c l u : ℕ) → (c ≡ u) ⊎ (c ≡ l) → to_ascii_lowercase u ≡ l → to_ascii_lowercase l ≡ l → to_ascii_lowercase c ≡ l
upper_lower c l u (inl is) up low = ap to_ascii_lowercase is ∙ up
upper_lower c l u (inr is) up low = ap to_ascii_lowercase is ∙ low

letter_small : (c u l : ℕ) → (c ≡ u) ⊎ (c ≡ l) → u < 128 → l < 128 → c < 128
letter_small c u l (inl is) a b = omega arith
letter_small c u l (inr is) a b = omega arith

three_encoded : (a b c : ℕ) → a < 128 → b < 128 → c < 128 → encode_utf8_all (a ∷ b ∷ c ∷ []) ≡ a ∷ b ∷ c ∷ []
three_encoded a b c sa sb sc =
    ap (λ front. front ++ (encode_utf8 b ++ (encode_utf8 c ++ []))) (encode_ascii a sa) ∙ ap (λ front. a ∷ (front ++ (encode_utf8 c ++ []))) (encode_ascii b sb) ∙ ap (λ front. a ∷ b ∷ (front ++ [])) (encode_ascii c sc)

lower_case : (a b c : ℕ) → (a ≡ 88) ⊎ (a ≡ 120) → (b ≡ 77) ⊎ (b ≡ 109) → (c ≡ 76) ⊎ (c ≡ 108) → map to_ascii_lowercase (a ∷ b ∷ c ∷ []) ≡ codes "xml"
lower_case a b c ha hb hc =
    ap (λ d. d ∷ to_ascii_lowercase b ∷ to_ascii_lowercase c ∷ []) (upper_lower a 120 88 ha refl refl) ∙ ap (λ d. 120 ∷ d ∷ to_ascii_lowercase c ∷ []) (upper_lower b 109 77 hb refl refl) ∙ ap (λ d. 120 ∷ 109 ∷ d ∷ []) (upper_lower c 108 76 hc refl refl)

spelled : (name : List ℕ) (a b c : ℕ) → IsUtf8 name → chars name ≡ a ∷ b ∷ c ∷ [] → (a ≡ 88) ⊎ (a ≡ 120) → (b ≡ 77) ⊎ (b ≡ 109) → (c ≡ 76) ⊎ (c ≡ 108) → map to_ascii_lowercase name ≡ map to_ascii_lowercase (codes "xml")
spelled name a b c u e ha hb hc =
    ap (map to_ascii_lowercase) (sym (encodes-chars name u) ∙ ap encode_utf8_all e ∙ three_encoded a b c (letter_small a 88 120 ha (lit< tt) (lit< tt)) (letter_small b 77 109 hb (lit< tt) (lit< tt)) (letter_small c 76 108 hc (lit< tt) (lit< tt)))
    ∙ lower_case a b c ha hb hc

-- a name that isn't `xml` in any case
pub target : (name : List ℕ) (b : Bool) → IsUtf8 name → is_ncname (chars name) ≡ true → IsTrue b ↔ (map to_ascii_lowercase name ≡ map to_ascii_lowercase (codes "xml")) → b ≡ false → IsTarget (chars name)
target name b u n test other = record { is_name = n; not_reserved = λ x m l hx hm hl e. iff_false test other (spelled name x m l u e hx hm hl) }

-- `xml` in any case isn't allowed
lower_cases : (c : ℕ) → (to_ascii_lowercase c ≡ c) ⊎ (to_ascii_lowercase c ≡ c + 32)
lower_cases c = pick (nat_lt c 65) (nat_lt c 91)
  where
    pick : (a b : Bool) → (cond a c (cond b (c + 32) c) ≡ c) ⊎ (cond a c (cond b (c + 32) c) ≡ c + 32)
    pick true b = inl refl
    pick false true = inr refl
    pick false false = inl refl

either_case : (c low up : ℕ) → low ≡ up + 32 → to_ascii_lowercase c ≡ low → (c ≡ up) ⊎ (c ≡ low)
either_case c low up apart e = ⊎_elim (λ same. inr (sym same ∙ e)) (λ more. let sum : c + 32 ≡ up + 32 = sym more ∙ e ∙ apart in inl (omega arith)) (lower_cases c)

pub no_target : (name : List ℕ) (b : Bool) → IsUtf8 name → IsTrue b ↔ (map to_ascii_lowercase name ≡ map to_ascii_lowercase (codes "xml")) → b ≡ true → ¬ IsTarget (chars name)
no_target name b u test is t = at name (test.0 is) refl
  where
    at : (bs : List ℕ) → map to_ascii_lowercase bs ≡ codes "xml" → name ≡ bs → ⊥
    at [] e same = let l = ap (length {A = ℕ}) e in absurd (omega arith)
    at (a ∷ []) e same = let l = ap (length {A = ℕ}) e in absurd (omega arith)
    at (a ∷ b ∷ []) e same = let l = ap (length {A = ℕ}) e in absurd (omega arith)
    at (a ∷ b ∷ c ∷ []) e same =
        let one = either_case a 120 88 refl (cons_first e) in
        let two = either_case b 109 77 refl (cons_first (cons_rest e)) in
        let three = either_case c 108 76 refl (cons_first (cons_rest (cons_rest e))) in
        let bytes = three_encoded a b c (letter_small a 88 120 one (lit< tt) (lit< tt)) (letter_small b 77 109 two (lit< tt) (lit< tt)) (letter_small c 76 108 three (lit< tt) (lit< tt)) in
        t.not_reserved a b c one two three (encodes_same (chars name) (a ∷ b ∷ c ∷ []) (encodes-chars name u ∙ same ∙ sym bytes))
    at (a ∷ b ∷ c ∷ d ∷ ds) e same = let l = ap (length {A = ℕ}) e in absurd (omega arith)

pub bare_read : (cs inside name rest after : List ℕ) → cs ≡ codes "<?" ++ inside → inside ≡ name ++ rest → rest ≡ codes "?>" ++ after → IsTarget name → IsInstruction (lines_of cs) (lines_of after)
bare_read cs inside name rest after e f g t = subst (λ l. IsInstruction l (lines_of after)) (sym whole) (x.IsInstruction.bare name t)
  where
    whole : lines_of cs ≡ codes "<?" ++ (name ++ (codes "?>" ++ lines_of after))
    whole = ap lines_of (e ∙ ap (λ l. codes "<?" ++ l) (f ∙ ap (λ l. name ++ l) g)) ∙ inner_front (codes "<?") (name ++ (codes "?>" ++ after)) refl
        ∙ ap (λ l. codes "<?" ++ l) (inner_front name (codes "?>" ++ after) (ncname_inner name t.is_name) ∙ ap (λ l. name ++ l) (inner_front (codes "?>") after refl))

first_white : (c : ℕ) (cs space : List ℕ) → IsSpace (c ∷ cs) space → is_white c ≡ true
first_white c cs space (x.IsSpace.white w more) = w

-- white space begins it, and no end
past_white : (cs space i after : List ℕ) → IsSpace cs space → IsUpTo (codes "?>") cs i after → (c : ℕ) × (inside : List ℕ) × (is_white c ≡ true) × (list_all is_xml_char inside ≡ true) × Lacks (codes "?>") inside × (cs ≡ c ∷ (inside ++ (codes "?>" ++ after)))
past_white cs space i after s here = absurd (false≢true (first_white 63 (62 ∷ after) space s))
past_white cs space i after s (further {c = c} {cs = ds} {inside = inside} legal absent h) = (
  c,
  inside,
  first_white c ds space s,
  up_to_legal (codes "?>") ds inside after h,
  subst (Lacks (codes "?>")) (append-nil inside) (up_to_lacks (codes "?>") [] (codes "?>") ds inside after refl (lit< tt) h),
  ap (λ l. c ∷ l) (up_to_splits (codes "?>") ds inside after h),
)

pub full_read : (cs inside name rest space after : List ℕ) → cs ≡ codes "<?" ++ inside → inside ≡ name ++ rest → IsSpace (lines_of rest) space → (i : List ℕ) × IsUpTo (codes "?>") (lines_of rest) i (lines_of after) → IsTarget name
    → IsInstruction (lines_of cs) (lines_of after)
full_read cs inside name rest space after e f s (i, h) t = instruction (past_white (lines_of rest) space i (lines_of after) s h)
  where
    whole : lines_of cs ≡ codes "<?" ++ (name ++ lines_of rest)
    whole = ap lines_of (e ∙ ap (λ l. codes "<?" ++ l) f) ∙ inner_front (codes "<?") (name ++ rest) refl ∙ ap (λ l. codes "<?" ++ l) (inner_front name rest (ncname_inner name t.is_name))

    instruction : (c : ℕ) × (inside : List ℕ) × (is_white c ≡ true) × (list_all is_xml_char inside ≡ true) × Lacks (codes "?>") inside × (lines_of rest ≡ c ∷ (inside ++ (codes "?>" ++ lines_of after)))
        → IsInstruction (lines_of cs) (lines_of after)
    instruction (c, inside, white, legal, lacks, is) = subst (λ l. IsInstruction l (lines_of after)) (sym (whole ∙ ap (λ l. codes "<?" ++ (name ++ l)) is)) (x.IsInstruction.full name c inside t white legal lacks)

-- ---- what stands around the root

pub misc_joined : (cs mid rest : List ℕ) → AreMisc cs mid → AreMisc mid rest → AreMisc cs rest
misc_joined cs mid rest x.AreMisc.none k = k
misc_joined cs mid rest (x.AreMisc.white {cs = ds} w h) k = x.AreMisc.white w (misc_joined ds mid rest h k)
misc_joined cs mid rest (x.AreMisc.comment {mid = m} w h) k = x.AreMisc.comment w (misc_joined m mid rest h k)
misc_joined cs mid rest (x.AreMisc.instruction {mid = m} w h) k = x.AreMisc.instruction w (misc_joined m mid rest h k)

pub misc_space : (cs rest : List ℕ) → MaySpace cs rest → AreMisc cs rest
misc_space cs rest x.MaySpace.none = x.AreMisc.none
misc_space cs rest (x.MaySpace.white {cs = ds} w h) = x.AreMisc.white w (misc_space ds rest h)

misc_piece : (cs rest : List ℕ) → IsPiece cs rest → AreMisc cs rest
misc_piece cs rest (inl h) = x.AreMisc.comment h x.AreMisc.none
misc_piece cs rest (inr h) = x.AreMisc.instruction h x.AreMisc.none

pub misc_more : (cs mid after rest : List ℕ) → AreMisc cs mid → IsPiece mid after → MaySpace after rest → AreMisc cs rest
misc_more cs mid after rest h p s = misc_joined cs mid rest h (misc_joined mid after rest (misc_piece mid after p) (misc_space after rest s))

-- ---- CDATA sections

pub section_read : (old new cs inside after : List ℕ) → cs ≡ codes "<![CDATA[" ++ inside → Appends old new (λ i. IsUpTo (codes "]]>") (lines_of inside) i (lines_of after))
    → Appends old new (λ i. IsSection (lines_of cs) i (lines_of after))
section_read old new cs inside after e (i, put, h) = (i, put, subst (λ l. IsSection l i (lines_of after)) (sym whole) (x.IsSection.section (up_to_legal (codes "]]>") (lines_of inside) i (lines_of after) h) lacks))
  where
    whole : lines_of cs ≡ codes "<![CDATA[" ++ (i ++ (codes "]]>" ++ lines_of after))
    whole = ap lines_of e ∙ inner_front (codes "<![CDATA[") inside refl ∙ ap (λ l. codes "<![CDATA[" ++ l) (up_to_splits (codes "]]>") (lines_of inside) i (lines_of after) h)

    lacks : Lacks (codes "]]>") i
    lacks = subst (Lacks (codes "]]>")) (append-nil i) (up_to_lacks (codes "]]>") [] (codes "]]>") (lines_of inside) i (lines_of after) refl (lit< tt) h)
