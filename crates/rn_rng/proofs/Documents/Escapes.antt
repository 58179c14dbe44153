-- What is read where a text is written with references.
use Rattle.std.proofs.Common.{◌≡◌, ◌≢◌, ℕ, Bool, true, false, List, [], ◌∷◌, ◌++◌, refl, sym, ap, ◌∙◌, subst, ⊎_elim, append_assoc, arith, lit<}
use Rattle.std.proofs.lemmas.Bool.Decides.{nat_tests}
use Rattle.std.specs.Prelude.{◌⊎◌, not, ◌&&◌, ◌||◌, ◌==◌, nat_eq, nat_lt, ◌<◌, codes}
use Rattle.std.specs.List.{list_all}
use Rattle.std.proofs.lemmas.Bool.{cases_Bool, and_from, and_parts, false≢true}
use Rattle.rn_text.proofs.Words.AppendedLists.{all_append, all_parts}
use Rattle.rn_text.specs.Texts.{is_white}
use Rattle.rn_text.specs.Characters.{is_xml_char}
use Rattle.rn_rng.specs.Layout.{Holder, in_element, in_attribute, reference as spelled, escaped}
use Rattle.rn_xml.specs.XmlCharacters.{IsReference, entity, hexadecimal, amp, lt, gt, quot}
use Rattle.rn_rng.specs.XmlCharacters.{IsCharData, IsCharacters, IsValue, is_data_char, is_value_char}
use Rattle.rn_rng.specs.XmlCharacters as x

-- ---- tests of all of a list

pub all_mono : (p q : ℕ → Bool) → ((c : ℕ) → p c ≡ true → q c ≡ true) → (cs : List ℕ) → list_all p cs ≡ true → list_all q cs ≡ true
all_mono p q f [] a = refl
all_mono p q f (c ∷ cs) a = let both = and_parts (p c) (list_all p cs) a in and_from (q c) (list_all q cs) (f c both.0) (all_mono p q f cs both.1)

-- ---- references

-- a character of the text that changes no line end
abbrev pub is_kept : ℕ → Bool
is_kept c = is_xml_char c && not (c == 13)

abbrev pub is_ascii : ℕ → Bool
is_ascii c = nat_lt c 128

-- what is written for a character is read as the character: a reference, or itself where it needs none
pub data Reading (h : Holder) (c : ℕ) : Type 0 where
  referred : (c < 128) → list_all is_ascii (spelled h c) ≡ true → list_all is_kept (spelled h c) ≡ true → ((rest : List ℕ) → IsReference (spelled h c ++ rest) c rest) → Reading h c
  itself : spelled h c ≡ c ∷ [] → (c == 38) ≡ false → (c == 60) ≡ false → (c == 62) ≡ false → (c == 9) ≡ false → (c == 10) ≡ false → (c == 13) ≡ false
      → (h ≡ in_attribute → (c == 34) ≡ false) → Reading h c

read_amp : (h : Holder) → Reading h 38
unfolding is_xml_char
read_amp h = referred (lit< tt) refl refl (λ rest. entity {name = codes "amp"} amp)

read_lt : (h : Holder) → Reading h 60
unfolding is_xml_char
read_lt h = referred (lit< tt) refl refl (λ rest. entity {name = codes "lt"} lt)

read_gt : (h : Holder) → Reading h 62
unfolding is_xml_char
read_gt h = referred (lit< tt) refl refl (λ rest. entity {name = codes "gt"} gt)

holder_apart : in_element ≡ in_attribute → ⊥
holder_apart e = cc

absent : {A : Type 0} (h : Holder) → in_element ≡ in_attribute → A
absent h e = absurd (holder_apart e)

read_quote : (h : Holder) → Reading h 34
unfolding is_xml_char
read_quote in_element = itself refl refl refl refl refl refl refl (λ e. absent in_element e)
read_quote in_attribute = referred (lit< tt) refl refl (λ rest. entity {name = codes "quot"} quot)

some_digit : {c : ℕ} {cs : List ℕ} → c ∷ cs ≢ []
some_digit {c} {cs} e = cc

read_tab : (h : Holder) → Reading h 9
unfolding is_xml_char
read_tab h = referred (lit< tt) refl refl (λ rest. hexadecimal {digits = codes "9"} some_digit refl refl)

read_line_feed : (h : Holder) → Reading h 10
unfolding is_xml_char
read_line_feed h = referred (lit< tt) refl refl (λ rest. hexadecimal {digits = codes "A"} some_digit refl refl)

read_return : (h : Holder) → Reading h 13
unfolding is_xml_char
read_return h = referred (lit< tt) refl refl (λ rest. hexadecimal {digits = codes "D"} some_digit refl refl)

same_number : (a b : ℕ) → nat_eq a b ≡ true → a ≡ b
same_number a b h1 = grind (arith, nat_tests)

-- the character is this one, or another
which : (h : Holder) (c k : ℕ) → Reading h k → ((c == k) ≡ false → Reading h c) → Reading h c
which h c k here other = ⊎_elim (λ e. subst (Reading h) (sym (same_number c k e)) here) other (cases_Bool (c == k))

unreferred : (h : Holder) (c : ℕ) → (c == 38) ≡ false → (c == 60) ≡ false → (c == 62) ≡ false → (c == 34) ≡ false → (c == 9) ≡ false → (c == 10) ≡ false → (c == 13) ≡ false
    → spelled h c ≡ c ∷ []
unreferred h c h1 h2 h3 h4 h5 h6 h7 = grind (arith, nat_tests)

pub reading : (h : Holder) (c : ℕ) → Reading h c
reading h c =
    which h c 38 (read_amp h) (λ a. which h c 60 (read_lt h) (λ b. which h c 62 (read_gt h) (λ d. which h c 34 (read_quote h) (λ e. which h c 9 (read_tab h) (λ f.
    which h c 10 (read_line_feed h) (λ g. which h c 13 (read_return h) (λ i. itself (unreferred h c a b d e f g i) a b d f g i (λ s. e))))))))

-- ---- values of attributes

-- a character that is itself in a value is one there, or it is a space
value_char : (c : ℕ) → (c == 38) ≡ false → (c == 60) ≡ false → (c == 9) ≡ false → (c == 10) ≡ false → (c == 13) ≡ false → (c == 34) ≡ false → (c == 32) ≡ false → is_value_char 34 c ≡ true
value_char c h1 h2 h3 h4 h5 h6 h7 = grind (arith, nat_tests)

pub escaped_value : (cs rest : List ℕ) → IsValue 34 (escaped in_attribute cs ++ 34 ∷ rest) cs rest
escaped_value [] rest = x.close
escaped_value (c ∷ cs) rest = subst (λ all. IsValue 34 all (c ∷ cs) rest) (sym (append_assoc (spelled in_attribute c) (escaped in_attribute cs) (34 ∷ rest)))
    (one (reading in_attribute c) (escaped_value cs rest))
  where
    alone : {all : List ℕ} → (c == 38) ≡ false → (c == 60) ≡ false → (c == 9) ≡ false → (c == 10) ≡ false → (c == 13) ≡ false → (c == 34) ≡ false
        → IsValue 34 all cs rest → IsValue 34 (c ∷ all) (c ∷ cs) rest
    alone {all} a b f g i e more = ⊎_elim
        (λ space. subst (λ k. IsValue 34 (k ∷ all) (k ∷ cs) rest) (sym (same_number c 32 space)) (x.white refl more))
        (λ other. x.itself (value_char c a b f g i e other) more)
        (cases_Bool (c == 32))

    one : {all : List ℕ} → Reading in_attribute c → IsValue 34 all cs rest → IsValue 34 (spelled in_attribute c ++ all) (c ∷ cs) rest
    one {all} (referred small ascii kept r) more = x.reference (r all) more
    one {all} (itself e a b d f g i q) more = subst (λ front. IsValue 34 (front ++ all) (c ∷ cs) rest) (sym e) (alone a b f g i (q refl) more)

-- ---- characters between tags

-- neither `<`, `&` nor `>`
abbrev pub is_quiet : ℕ → Bool
is_quiet c = not (c == 60 || c == 38 || c == 62)

-- characters between tags of which none is `>` by itself
pub data Runs : List ℕ → List ℕ → List ℕ → Type 0 where
  plain : (text : List ℕ) {rest : List ℕ} → list_all is_quiet text ≡ true → Runs (text ++ rest) text rest
  reference : (text : List ℕ) {cs mid rest more : List ℕ} {c : ℕ} → list_all is_quiet text ≡ true → IsReference cs c mid → Runs mid more rest
      → Runs (text ++ cs) (text ++ c ∷ more) rest

quiet_is_data : (c : ℕ) → is_quiet c ≡ true → is_data_char c ≡ true
quiet_is_data c h1 = grind (arith, nat_tests)

no_end : (text front behind : List ℕ) → list_all is_quiet text ≡ true → text ≢ front ++ 93 ∷ 93 ∷ 62 ∷ behind
no_end text front behind quiet e =
    false≢true (all_parts is_quiet front (93 ∷ 93 ∷ 62 ∷ behind) (ap (list_all is_quiet) (sym e) ∙ quiet)).1

data_of : (text : List ℕ) → list_all is_quiet text ≡ true → IsCharData text
data_of text quiet = record { plain = all_mono is_quiet is_data_char quiet_is_data text quiet; ends_no_section = λ front behind. no_end text front behind quiet }

pub characters : {cs v rest : List ℕ} → Runs cs v rest → IsCharacters cs v rest
characters (plain text q) = x.plain (data_of text q)
characters (reference text q r more) = x.reference (data_of text q) r (characters more)

quiet_before : {cs v rest : List ℕ} (c : ℕ) → is_quiet c ≡ true → Runs cs v rest → Runs (c ∷ cs) (c ∷ v) rest
quiet_before c q (plain text all) = plain (c ∷ text) (and_from (is_quiet c) (list_all is_quiet text) q all)
quiet_before c q (reference text all r more) = reference (c ∷ text) (and_from (is_quiet c) (list_all is_quiet text) q all) r more

quiet_char : (c : ℕ) → (c == 38) ≡ false → (c == 60) ≡ false → (c == 62) ≡ false → is_quiet c ≡ true
quiet_char c h1 h2 h3 = grind (arith, nat_tests)

escaped_runs : (cs rest : List ℕ) → Runs (escaped in_element cs ++ rest) cs rest
escaped_runs [] rest = plain [] refl
escaped_runs (c ∷ cs) rest = subst (λ all. Runs all (c ∷ cs) rest) (sym (append_assoc (spelled in_element c) (escaped in_element cs) rest)) (one (reading in_element c) (escaped_runs cs rest))
  where
    one : {all : List ℕ} → Reading in_element c → Runs all cs rest → Runs (spelled in_element c ++ all) (c ∷ cs) rest
    one {all} (referred small ascii kept r) more = reference [] refl (r all) more
    one {all} (itself e a b d f g i q) more = subst (λ front. Runs (front ++ all) (c ∷ cs) rest) (sym e) (quiet_before c (quiet_char c a b d) more)

pub escaped_characters : (cs rest : List ℕ) → IsCharacters (escaped in_element cs ++ rest) cs rest
escaped_characters cs rest = characters (escaped_runs cs rest)

white_is_quiet : (c : ℕ) → is_white c ≡ true → is_quiet c ≡ true
white_is_quiet c h1 = grind (arith, nat_tests)

pub white_characters : (cs rest : List ℕ) → list_all is_white cs ≡ true → IsCharacters (cs ++ rest) cs rest
white_characters cs rest w = characters (plain cs (all_mono is_white is_quiet white_is_quiet cs w))

-- ---- what is written has legal characters and no carriage return

kept_itself : (c : ℕ) → (c == 13) ≡ false → is_xml_char c ≡ true → is_kept c ≡ true
kept_itself c h1 h2 = grind (arith, nat_tests)

pub kept_escaped : (h : Holder) (cs : List ℕ) → list_all is_xml_char cs ≡ true → list_all is_kept (escaped h cs) ≡ true
kept_escaped h [] a = refl
kept_escaped h (c ∷ cs) a = let both = and_parts (is_xml_char c) (list_all is_xml_char cs) a in
    all_append is_kept (spelled h c) (escaped h cs) (one (reading h c) both.0) (kept_escaped h cs both.1)
  where
    one : Reading h c → is_xml_char c ≡ true → list_all is_kept (spelled h c) ≡ true
    one (referred small ascii kept r) legal = kept
    one (itself e a b d f g i q) legal = ap (list_all is_kept) e ∙ and_from (is_kept c) true (kept_itself c i legal) refl
