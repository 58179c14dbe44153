-- A source has tokens or a fault: each can be looked for.
use Rattle.std.proofs.lemmas.Bool.Decides.{nat_tests}
use Rattle.std.proofs.Common.{◌≡◌, ◌≢◌, ℕ, zero, suc, ◌<◌, ◌≤◌, ◌⊎◌, inl, inr, Bool, true, false, List, [], ◌∷◌, length, take, drop, refl, sym, ap, ◌∙◌, subst, arith, length-append, length-take-le}
use Rattle.std.specs.Prelude.{not, ◌&&◌, ◌||◌}
use Rattle.std.specs.List.{list_all, list_any}
use Rattle.std.specs.Str.{IsUtf8, IsValidUpTo, is_utf8, chars}
use Rattle.std.proofs.Math.Seq.{take-append_seam}
use Rattle.std.proofs.lemmas.Bool.{not-true, and_parts, and_from, cases_Bool, cases_lt, or_cases}
use Rattle.std.proofs.lemmas.List.{take_all, take-append-drop}
use Rattle.std.proofs.lemmas.Str.{IsUtf8-from_is_utf8, is_utf8-from_IsUtf8, utf8_valid_len-IsValidUpTo}
use Rattle.rn_text.specs.declared.parts.Part.{Part}
use Rattle.rn_text.specs.declared.parts.Part.TheVariants.{Space, Comment, Token}
use Rattle.rn_text.specs.declared.parts.Kind.TheVariants.{Name, Keyword, Quoted, Prefixed, AnyOf, Segment, Symbol}
use Rattle.rn_text.specs.declared.source.TextFault.{TextFault}
use Rattle.rn_text.specs.declared.source.TextFault.TheVariants.{Encoding, Lexical, Memory}
use Rattle.rn_text.specs.Characters.{is_xml_char}
use Rattle.rn_text.specs.Segments.{is_empty, after_run, opens_threefold, escape_front}
use Rattle.rn_text.specs.Parts.{spells, BeginsWith, IsFirstPart, Piece, IsCut}
use Rattle.rn_text.specs.Tokens.{Lexeme, HasTokens, BeginsNoPart, IsLexicalPlace, HasFault, lexemes, unmarked, unmarked_start}
use Rattle.rn_text.proofs.Words.CharacterRuns.{all_pass}
use Rattle.rn_text.proofs.Cutting.Cuts.{part_shortens, leaves_at}
use Rattle.rn_text.proofs.TokenLists.OneFaultPlace.{list_or_place, one_place}
use Rattle.rn_text.proofs.Words.TruthValues.{true_is_false}

-- the greatest number up to n that passes
record Greatest (p : ℕ → Bool) (n : ℕ) : Type 0 where
  at : ℕ
  within : at ≤ n
  passes : p at ≡ true
  last : (m : ℕ) → at < m → m ≤ n → p m ≡ false

same_or_above : (p : ℕ → Bool) (m k : ℕ) → p m ≡ false → m ≤ k → (m < k → p k ≡ false) → p k ≡ false
same_or_above p m k e le above = elim (cases_lt m k) [ inl over ↦ above over | inr under ↦ let same : k ≡ m = omega (arith, le, under) in ap p same ∙ e ]

-- looked for from m down, above which none passes
greatest : (p : ℕ → Bool) (n m : ℕ) → m ≤ n → ((k : ℕ) → m < k → k ≤ n → p k ≡ false) → Greatest p n ⊎ ((k : ℕ) → k ≤ n → p k ≡ false)
greatest p n zero le above = elim (cases_Bool (p 0)) [
  | inl e ↦ inl (record { at = 0; within = le; passes = e; last = above })
  | inr e ↦ inr (λ k within. same_or_above p 0 k e (omega arith) (λ over. above k over within))
]
greatest p n (suc m) le above = elim (cases_Bool (p (suc m))) [
  | inl e ↦ inl (record { at = suc m; within = le; passes = e; last = above })
  | inr e ↦ greatest p n m (omega (arith, le)) (λ k over within. same_or_above p (suc m) k e (omega (arith, over)) (λ more. above k more within))
]

greatest_of : (p : ℕ → Bool) (n : ℕ) → Greatest p n ⊎ ((k : ℕ) → k ≤ n → p k ≡ false)
greatest_of p n = greatest p n n (omega arith) (λ k over within. absurd (omega (arith, over, within)))

-- ---- parts

abbrev parts : List Part
parts = Space ∷ Comment ∷ Token Name ∷ Token Keyword ∷ Token Quoted ∷ Token Prefixed ∷ Token AnyOf ∷ Token Segment ∷ Token Symbol ∷ []

found : (q : Part → Bool) (ps : List Part) → list_any q ps ≡ true → (p : Part) × (q p ≡ true)
found q [] e = cc
found q (p ∷ ps) e = elim (or_cases (q p) (list_any q ps) e) [ inl h ↦ (p, h) | inr h ↦ found q ps h ]

-- each part is one of those
listed : (q : Part → Bool) (p : Part) → q p ≡ true → list_any q parts ≡ true
listed q p h1 = grind (arith, nat_tests)

-- the front of that length spells a part where it may stand
abbrev starts : List ℕ → ℕ → Bool
starts text n = list_any (λ p. spells p (take n text)) parts && ((not (opens_threefold text) || opens_threefold (take n text)) && not (escape_front text))

implied : (a b : Bool) → (not a || b) ≡ true → a ≡ true → b ≡ true
implied a b h1 h2 = grind (arith, nat_tests)

implies : (a b : Bool) → (a ≡ true → b ≡ true) → (not a || b) ≡ true
implies a b h1 = grind (arith, nat_tests)

begins_by : (text : List ℕ) (n : ℕ) → starts text n ≡ true → (p : Part) × BeginsWith text p (take n text) (drop n text)
begins_by text n e =
    let outer = and_parts (list_any (λ p. spells p (take n text)) parts) _ e in
    let inner = and_parts (not (opens_threefold text) || opens_threefold (take n text)) _ outer.1 in
    let part = found (λ p. spells p (take n text)) parts outer.0 in
    (part.0, record { split = take-append-drop n text; spelled = part.1; threefold = implied _ _ inner.0; no_escape = not-true (escape_front text) inner.1 })

starts_by : (text : List ℕ) (p : Part) (front after : List ℕ) → BeginsWith text p front after → starts text (length front) ≡ true
starts_by text p front after b =
    let same : take (length front) text ≡ front = ap (take (length front)) (sym b.split) ∙ take-append_seam front after in
    and_from _ _ (ap (λ f. list_any (λ q. spells q f) parts) same ∙ listed (λ q. spells q front) p b.spelled)
    (and_from _ _ (ap (λ f. not (opens_threefold text) || opens_threefold f) same ∙ implies _ _ b.threefold) (ap not b.no_escape))

front_within : (text : List ℕ) (p : Part) (front after : List ℕ) → BeginsWith text p front after → length front ≤ length text
front_within text p front after b = omega (arith, ap length b.split, length-append front after)

abbrev FirstOf : List ℕ → Type 0
FirstOf text = (part : Part) × (front : List ℕ) × (after : List ℕ) × IsFirstPart text part front after

first_or_none : (text : List ℕ) → FirstOf text ⊎ BeginsNoPart text
first_or_none text = elim (greatest_of (starts text) (length text)) [
  | inl g ↦ inl (first g)
  | inr none ↦ inr (λ p front after b. true_is_false _ (starts_by text p front after b) (none (length front) (front_within text p front after b)))
]
  where
    first : Greatest (starts text) (length text) → FirstOf text
    first g =
        let b = begins_by text g.at g.passes in
        let wide : length (take g.at text) ≡ g.at = length-take-le g.at text g.within in
        let no_longer : (p : Part) (f a : List ℕ) → BeginsWith text p f a → length f ≤ length (take g.at text) = λ p f a c. elim (cases_lt g.at (length f)) [
          | inl above ↦ absurd (true_is_false _ (starts_by text p f a c) (g.last (length f) above (front_within text p f a c)))
          | inr under ↦ omega (arith, under, wide)
        ] in
        (b.0, take g.at text, drop g.at text, record { begins = b.1; longest = no_longer })

-- the text is cut to its end, or to where no part begins
abbrev CutTold : List ℕ → Type 0
CutTold text = (pieces : List Piece) × (rest : List ℕ) × IsCut text pieces rest × ((rest ≡ []) ⊎ ((0 < length rest) × BeginsNoPart rest))

cut_told : (n : ℕ) (text : List ℕ) → length text ≤ n → CutTold text
cut_told n [] h = ([], [], refl, inl refl)
cut_told zero (c ∷ cs) h = absurd (omega (arith, h))
cut_told (suc n) (c ∷ cs) h = elim (first_or_none (c ∷ cs)) [
  | inl f ↦ let more = cut_told n f.2 (omega (arith, h, part_shortens (c ∷ cs) f.0 f.1 f.2 f.3.begins)) in (record { part = f.0; spelling = f.1 } ∷ more.0, more.1, (f.2, f.3, more.2), more.3)
  | inr none ↦ ([], c ∷ cs, refl, inr (omega arith, none))
]

abbrev pub TokensTold : List ℕ → Type 0
TokensTold cs = ((tokens : List Lexeme) × HasTokens cs tokens) ⊎ ((place : ℕ) × IsLexicalPlace cs place)

tokens_by : (cs : List ℕ) → list_all is_xml_char cs ≡ true → CutTold (unmarked cs) → TokensTold cs
tokens_by cs xml (ps, rest, cut, inl end) = inl (lexemes (unmarked_start cs) ps, record { xml = xml; pieces = ps; cut = subst (IsCut (unmarked cs) ps) end cut; are = refl })
tokens_by cs xml (ps, rest, cut, inr h) = inr (_, inr (record { xml = xml; pieces = ps; rest = rest; cut = cut; more = h.0; stuck = h.1; is = refl }))

pub tokens_or_place : (cs : List ℕ) → TokensTold cs
tokens_or_place cs = by (after_run is_xml_char cs) refl
  where
    by : (wrong : List ℕ) → after_run is_xml_char cs ≡ wrong → TokensTold cs
    by [] e = tokens_by cs (sym (all_pass is_xml_char cs) ∙ ap is_empty e) (cut_told (length (unmarked cs)) (unmarked cs) (omega arith))
    by (c ∷ ds) e = inr (_, inl (leaves_at cs c ds e))

-- ---- bytes

not_whole : (src : List ℕ) (m : ℕ) → is_utf8 src ≡ false → is_utf8 (take m src) ≡ true → m < length src
not_whole src m e passes = elim (cases_lt m (length src)) [ inl short ↦ short | inr over ↦ absurd (true_is_false _ passes (ap is_utf8 (take_all m src over) ∙ e)) ]

pub utf8_or_front : (src : List ℕ) → IsUtf8 src ⊎ ((¬ IsUtf8 src) × ((place : ℕ) × IsValidUpTo src place))
utf8_or_front src = elim (cases_Bool (is_utf8 src)) [
  | inl e ↦ inl (IsUtf8-from_is_utf8 src e)
  | inr e ↦ inr (λ u. true_is_false _ (is_utf8-from_IsUtf8 src u) e, front e (greatest_of (λ n. is_utf8 (take n src)) (length src)))
]
  where
    front : is_utf8 src ≡ false → Greatest (λ n. is_utf8 (take n src)) (length src) ⊎ ((n : ℕ) → n ≤ length src → is_utf8 (take n src) ≡ false) → (place : ℕ) × IsValidUpTo src place
    front e (inl g) =
        let longest : (m : ℕ) → g.at < m → IsUtf8 (take m src) → ⊥ = λ m above u. let passes = is_utf8-from_IsUtf8 (take m src) u in true_is_false _ passes (g.last m above (omega (arith, not_whole src m e passes))) in
        (g.at, record { short = not_whole src g.at e g.passes; front = IsUtf8-from_is_utf8 (take g.at src) g.passes; longest = longest })
    front e (inr none) = absurd (true_is_false _ (is_utf8-from_IsUtf8 [] ([], (refl, refl))) (none 0 (omega arith)))

pub source_told : (src : List ℕ) → ((tokens : List Lexeme) × IsUtf8 src × HasTokens (chars src) tokens) ⊎ ((fault : TextFault) × HasFault src fault × (fault ≢ Memory))
source_told src = elim (utf8_or_front src) [
  | inl u ↦ elim (tokens_or_place (chars src)) [
    | inl t ↦ inl (t.0, u, t.1)
    | inr p ↦ inr (Lexical p.0, (u, p.1), λ e. cc)
  ]
  | inr f ↦ inr (Encoding f.1.0, (f.0, f.1.1), λ e. cc)
]

-- ---- not both, and one

pub no_fault : (src : List ℕ) (tokens : List Lexeme) (fault : TextFault) → IsUtf8 src → HasTokens (chars src) tokens → HasFault src fault → fault ≡ Memory
no_fault src tokens (Encoding at) u t f = absurd (f.0 u)
no_fault src tokens (Lexical at) u t f = absurd (list_or_place (chars src) tokens at t f.1)
no_fault src tokens Memory u t f = refl

pub same_valid_front : (src : List ℕ) (m n : ℕ) → IsValidUpTo src m → IsValidUpTo src n → m ≡ n
same_valid_front src m n x y = sym (utf8_valid_len-IsValidUpTo src m x) ∙ utf8_valid_len-IsValidUpTo src n y

pub one_fault : (src : List ℕ) (f g : TextFault) → HasFault src f → HasFault src g → f ≢ Memory → g ≢ Memory → f ≡ g
one_fault src (Encoding m) (Encoding n) x y p q = ap Encoding (same_valid_front src m n x.1 y.1)
one_fault src (Encoding m) (Lexical n) x y p q = absurd (x.0 y.0)
one_fault src (Encoding m) Memory x y p q = absurd (q refl)
one_fault src (Lexical m) (Encoding n) x y p q = absurd (y.0 x.0)
one_fault src (Lexical m) (Lexical n) x y p q = ap Lexical (one_place (chars src) m n x.1 y.1)
one_fault src (Lexical m) Memory x y p q = absurd (q refl)
one_fault src Memory g x y p q = absurd (p refl)
