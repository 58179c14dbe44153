-- Versions in the XML declaration.
use Rattle.std.specs.Cmp.Derive.{both_true}
use Rattle.std.proofs.Common.{◌≡◌, ◌≢◌, ℕ, zero, suc, Bool, true, false, cond, List, [], ◌∷◌, ◌++◌, length, get_or, refl, sym, ap, ◌∙◌, subst, arith, append-nil, codes}
use Rattle.std.specs.Prelude.{◌==◌, EachIndex}
use Rattle.std.specs.Char.{is_ascii, is_ascii_digit}
use Rattle.std.specs.List.{list_all}
use Rattle.std.specs.Str.{IsUtf8, chars, encode_utf8_all}
use Rattle.std.proofs.lemmas.Bool.{and_parts}
use Rattle.std.proofs.lemmas.Bool.Decides.{nat_tests}
use Rattle.std.proofs.lemmas.List.{append_cancel_left}
use Rattle.std.proofs.lemmas.Str.{encodes-chars, encodes-IsAscii}
use Rattle.rn_text.specs.Segments.{begins_with}
use Rattle.rn_xml.specs.XmlCharacters.{lines_of}
use Rattle.rn_xml.specs.XmlDocuments.{IsVersionNum}
use Rattle.rn_xml.specs.XmlDocuments as d
use Rattle.rn_xml.specs.inside.Pieces.{is_inner}
use Rattle.rn_xml.proofs.AsciiFronts.{ascii_bytes, ascii_chars}
use Rattle.rn_xml.proofs.Numbers.{all_pass_too}
use Rattle.rn_xml.proofs.Sources.{inner_lines, inner_front, front_there, front_absent}

pub each_all : (p : ℕ → Bool) (bs : List ℕ) → EachIndex bs (λ k. p (get_or bs k 0) ≡ true) → list_all p bs ≡ true
each_all p [] h = refl
each_all p (b ∷ bs) h = both_true (h 0 (omega arith)) (each_all p bs (λ k below. h (suc k) (omega arith)))

pub all_each : (p : ℕ → Bool) (bs : List ℕ) → list_all p bs ≡ true → EachIndex bs (λ k. p (get_or bs k 0) ≡ true)
all_each p [] h k below = absurd (omega arith)
all_each p (b ∷ bs) h zero below = (and_parts _ _ h).0
all_each p (b ∷ bs) h (suc k) below = all_each p bs (and_parts _ _ h).1 k (omega arith)

pub digit_ascii : (b : ℕ) → is_ascii_digit b ≡ true → is_ascii b ≡ true
digit_ascii b h = grind (arith, nat_tests)

digit_inner : (b : ℕ) → is_ascii_digit b ≡ true → is_inner b ≡ true
digit_inner b h = grind (arith, nat_tests)

-- nothing is left only of nothing
pub no_lines : (cs : List ℕ) → lines_of cs ≡ [] → cs ≡ []
no_lines [] e = refl
no_lines (c ∷ cs) e = absurd (some (c == 13) cs e)
  where
    some : (a : Bool) (cs : List ℕ) → cond a (cond (begins_with (λ d. d == 10) cs) (lines_of cs) (10 ∷ lines_of cs)) (c ∷ lines_of cs) ≡ [] → ⊥
    some false cs e = cc
    some true [] e = cc
    some true (d ∷ ds) e = feed (d == 10) refl e
      where
        itself : lines_of (10 ∷ ds) ≡ [] → ⊥
        itself e = cc

        feed : (b : Bool) → (d == 10) ≡ b → cond b (lines_of (d ∷ ds)) (10 ∷ lines_of (d ∷ ds)) ≡ [] → ⊥
        feed false is e = cc
        feed true is e = itself (let ten : d ≡ 10 = grind (arith, nat_tests) in subst (λ x. lines_of (x ∷ ds) ≡ []) ten e)

-- characters that are the same with their line ends as line feeds, where they have none
pub lines_same : (ds cs : List ℕ) → list_all is_inner ds ≡ true → lines_of cs ≡ ds → cs ≡ ds
lines_same ds cs i e =
    let there = front_there ds cs [] i (e ∙ sym (append-nil ds)) in
    let left : lines_of there.0 ≡ [] = append_cancel_left ds (lines_of there.0) [] (sym (inner_front ds there.0 i) ∙ ap lines_of (sym there.1) ∙ e ∙ sym (append-nil ds)) in
    there.1 ∙ ap (λ l. ds ++ l) (no_lines there.0 left) ∙ append-nil ds

pub version_read : (text digits : List ℕ) → chars text ≡ codes "1." ++ chars digits → ¬ (length digits ≡ 0) → EachIndex digits (λ k. is_ascii_digit (get_or digits k 0) ≡ true) → IsVersionNum (lines_of (chars text))
version_read text digits e some each =
    let all = each_all is_ascii_digit digits each in
    let plain : chars digits ≡ digits = ascii_chars digits (all_pass_too is_ascii_digit is_ascii digit_ascii digits all) in
    let lines : lines_of (chars text) ≡ 49 ∷ 46 ∷ digits = ap lines_of (e ∙ ap (λ l. codes "1." ++ l) plain) ∙ inner_lines (49 ∷ 46 ∷ digits) (all_pass_too is_ascii_digit is_inner digit_inner digits all) in
    subst IsVersionNum (sym lines) (d.IsVersionNum.number (λ n. some (ap length n)) all)

pub version_is : (cs text digits : List ℕ) → IsUtf8 digits → chars text ≡ codes "1." ++ chars digits → lines_of (chars text) ≡ cs → IsVersionNum cs
    → (¬ (length digits ≡ 0)) × EachIndex digits (λ k. is_ascii_digit (get_or digits k 0) ≡ true)
version_is cs text digits u e l (d.IsVersionNum.number {digits = ds} some all) =
    let inner = all_pass_too is_ascii_digit is_inner digit_inner ds all in
    let behind : lines_of (chars digits) ≡ ds = append_cancel_left (49 ∷ 46 ∷ []) (lines_of (chars digits)) ds (sym (inner_front (49 ∷ 46 ∷ []) (chars digits) refl) ∙ ap lines_of (sym e) ∙ l) in
    let same : digits ≡ ds = sym (encodes-chars digits u) ∙ ap encode_utf8_all (lines_same ds (chars digits) inner behind) ∙ encodes-IsAscii ds (ascii_bytes ds (all_pass_too is_ascii_digit is_ascii digit_ascii ds all)) in
    ((λ n. some (sym same ∙ none digits n)), all_each is_ascii_digit digits (ap (list_all is_ascii_digit) same ∙ all))
  where
    none : (xs : List ℕ) → length xs ≡ 0 → xs ≡ []
    none [] n = refl
    none (x ∷ xs) n = absurd (omega arith)

pub version_absent : (cs text : List ℕ) → ((behind : List ℕ) → chars text ≢ codes "1." ++ behind) → lines_of (chars text) ≡ cs → ¬ IsVersionNum cs
version_absent cs text n l (d.IsVersionNum.number {digits = ds} some all) = front_absent (codes "1.") (chars text) refl n ds l
