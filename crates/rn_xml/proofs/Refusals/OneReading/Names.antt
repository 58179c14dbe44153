-- A name, white space and `=` are read in one way.
use Rattle.std.proofs.Common.{◌≡◌, ℕ, Bool, true, false, List, [], ◌∷◌, ◌++◌, refl, sym, ap, ◌∙◌, arith, append_assoc}
use Rattle.std.specs.Prelude.{◌==◌, ◌||◌, not}
use Rattle.std.proofs.lemmas.Bool.{true≢false, false≢true}
use Rattle.std.proofs.lemmas.Bool.Decides.{nat_tests}
use Rattle.rn_text.specs.Characters.{is_name_char, is_name_start, is_ncname}
use Rattle.rn_text.specs.Segments.{begins_with, after_run, run_of}
use Rattle.rn_text.specs.Texts.{is_white}
use Rattle.rn_text.proofs.Cutting.NameTokens.{name_chars, colon_is_none}
use Rattle.rn_text.proofs.Words.EqualLists.{cons_rest}
use Rattle.rn_xml.specs.XmlCharacters.{MaySpace, IsSpace}
use Rattle.rn_xml.specs.XmlCharacters as x
use Rattle.rn_xml.specs.XmlTags.{IsEq, IsQName}
use Rattle.rn_xml.specs.XmlTags as t
use Rattle.rn_xml.specs.inside.Fronts.{ends_name}
use Rattle.rn_xml.proofs.Decoding.DeclarationFields.{white_run, some_white}
use Rattle.rn_xml.proofs.Refusals.OneReading.Markup.{run_of_name}
use Rattle.rn_xml.proofs.Decoding.NamedEncodings.{white_stops}

-- ---- where a name ends

neither : (a b : Bool) → not (a || b) ≡ true → (a ≡ false) × (b ≡ false)
neither true b e = absurd (false≢true e)
neither false true e = absurd (false≢true e)
neither false false e = (refl, refl)

pub name_ends : (cs : List ℕ) → ends_name cs ≡ true → (begins_with is_name_char cs ≡ false) × (begins_with (λ c. c == 58) cs ≡ false)
name_ends [] e = (refl, refl)
name_ends (c ∷ cs) e = neither (is_name_char c) (c == 58) e

pub both_end : (cs : List ℕ) → begins_with is_name_char cs ≡ false → begins_with (λ c. c == 58) cs ≡ false → ends_name cs ≡ true
both_end [] n m = refl
both_end (c ∷ cs) n m = ap (λ b. not (b || c == 58)) n ∙ ap (λ b. not (false || b)) m

pub white_ends : (c : ℕ) (cs : List ℕ) → is_white c ≡ true → ends_name (c ∷ cs) ≡ true
white_ends c cs w = both_end (c ∷ cs) (white_stops c w) (colon c w)
  where
    colon : (c : ℕ) → is_white c ≡ true → (c == 58) ≡ false
    colon c w = grind (arith, nat_tests)

pub space_ends : (cs rest : List ℕ) → MaySpace cs rest → ends_name rest ≡ true → ends_name cs ≡ true
space_ends cs rest x.MaySpace.none e = e
space_ends cs rest (x.MaySpace.white {c = c} {cs = ds} w m) e = white_ends c ds w

pub some_space_ends : (cs rest : List ℕ) → IsSpace cs rest → ends_name cs ≡ true
some_space_ends cs rest (x.IsSpace.white {c = c} {cs = ds} w m) = white_ends c ds w

sign_ends : (c : ℕ) (cs : List ℕ) → (c == 61 || c == 62 || c == 47) ≡ true → ends_name (c ∷ cs) ≡ true
unfolding is_name_char is_name_start
sign_ends c cs e = both_end (c ∷ cs) (name c e) (colon c e)
  where
    name : (c : ℕ) → (c == 61 || c == 62 || c == 47) ≡ true → is_name_char c ≡ false
    name c e = grind (arith, nat_tests)

    colon : (c : ℕ) → (c == 61 || c == 62 || c == 47) ≡ true → (c == 58) ≡ false
    colon c e = grind (arith, nat_tests)

pub equals_ends : (cs rest : List ℕ) → IsEq cs rest → ends_name cs ≡ true
equals_ends cs rest (t.IsEq.equals {mid = m} before after) = space_ends cs (61 ∷ m) before (sign_ends 61 m refl)

pub end_ends : (c : ℕ) (cs : List ℕ) → (c == 62 || c == 47) ≡ true → ends_name (c ∷ cs) ≡ true
end_ends c cs e = sign_ends c cs (more c e)
  where
    more : (c : ℕ) → (c == 62 || c == 47) ≡ true → (c == 61 || c == 62 || c == 47) ≡ true
    more c e = grind (arith, nat_tests)

-- ---- names

pub record SameName (q p l b q2 p2 l2 b2 : List ℕ) : Type 0 where
  pub name : q ≡ q2
  pub prefix : p ≡ p2
  pub local : l ≡ l2
  pub behind : b ≡ b2

pub plain_once : (n b m c : List ℕ) → is_ncname n ≡ true → is_ncname m ≡ true → begins_with is_name_char b ≡ false → begins_with is_name_char c ≡ false → n ++ b ≡ m ++ c → (n ≡ m) × (b ≡ c)
plain_once n b m c is is2 stops stops2 e =
    let one = run_of_name is_name_char n b (name_chars n is) stops in
    let two = run_of_name is_name_char m c (name_chars m is2) stops2 in
    (sym one.0 ∙ ap (run_of is_name_char) e ∙ two.0, sym one.1 ∙ ap (after_run is_name_char) e ∙ two.1)

mixed : (n b p l c : List ℕ) → is_ncname n ≡ true → is_ncname p ≡ true → ends_name b ≡ true → n ++ b ≡ (p ++ 58 ∷ l) ++ c → ⊥
mixed n b p l c is is2 ends e =
    let both = plain_once n b p (58 ∷ (l ++ c)) is is2 (name_ends b ends).0 colon_is_none (e ∙ append_assoc p (58 ∷ l) c) in
    true≢false (ap (begins_with (λ d. d == 58)) (sym both.1) ∙ (name_ends b ends).1)

pub qname_once : (q p l b q2 p2 l2 b2 : List ℕ) → IsQName q p l → IsQName q2 p2 l2 → ends_name b ≡ true → ends_name b2 ≡ true → q ++ b ≡ q2 ++ b2 → SameName q p l b q2 p2 l2 b2
qname_once q p l b q2 p2 l2 b2 (t.IsQName.unprefixed is) (t.IsQName.unprefixed is2) ends ends2 e =
    let both = plain_once l b l2 b2 is is2 (name_ends b ends).0 (name_ends b2 ends2).0 e in
    record { name = both.0; prefix = refl; local = both.0; behind = both.1 }
qname_once q p l b q2 p2 l2 b2 (t.IsQName.unprefixed is) (t.IsQName.prefixed is2 is3) ends ends2 e = absurd (mixed l b p2 l2 b2 is is2 ends e)
qname_once q p l b q2 p2 l2 b2 (t.IsQName.prefixed is is3) (t.IsQName.unprefixed is2) ends ends2 e = absurd (mixed l2 b2 p l b is2 is ends2 (sym e))
qname_once q p l b q2 p2 l2 b2 (t.IsQName.prefixed is is3) (t.IsQName.prefixed is2 is4) ends ends2 e =
    let prefixes = plain_once p (58 ∷ (l ++ b)) p2 (58 ∷ (l2 ++ b2)) is is2 colon_is_none colon_is_none (sym (append_assoc p (58 ∷ l) b) ∙ e ∙ append_assoc p2 (58 ∷ l2) b2) in
    let locals = plain_once l b l2 b2 is3 is4 (name_ends b ends).0 (name_ends b2 ends2).0 (cons_rest prefixes.1) in
    record { name = ap (λ a. a ++ 58 ∷ l) prefixes.0 ∙ ap (λ a. p2 ++ 58 ∷ a) locals.0; prefix = prefixes.0; local = locals.0; behind = locals.1 }

-- ---- white space and `=`

pub space_once : (c d : ℕ) (cs ds r s : List ℕ) → is_white c ≡ false → is_white d ≡ false → MaySpace cs (c ∷ r) → MaySpace ds (d ∷ s) → cs ≡ ds → c ∷ r ≡ d ∷ s
space_once c d cs ds r s black black2 m n e = sym (white_run cs r c black m) ∙ ap (after_run is_white) e ∙ white_run ds s d black2 n

pub some_space_once : (c d : ℕ) (cs ds r s : List ℕ) → is_white c ≡ false → is_white d ≡ false → IsSpace cs (c ∷ r) → IsSpace ds (d ∷ s) → cs ≡ ds → c ∷ r ≡ d ∷ s
some_space_once c d cs ds r s black black2 m n e = space_once c d cs ds r s black black2 (some_white cs (c ∷ r) m).1 (some_white ds (d ∷ s) n).1 e

pub equals_once : (c d : ℕ) (cs ds r s : List ℕ) → is_white c ≡ false → is_white d ≡ false → IsEq cs (c ∷ r) → IsEq ds (d ∷ s) → cs ≡ ds → c ∷ r ≡ d ∷ s
equals_once c d cs ds r s black black2 (t.IsEq.equals {mid = m} before after) (t.IsEq.equals {mid = n} before2 after2) e =
    space_once c d m n r s black black2 after after2 (cons_rest (space_once 61 61 cs ds m n refl refl before before2 e))
