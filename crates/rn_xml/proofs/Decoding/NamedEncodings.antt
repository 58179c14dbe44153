-- The encoding that a text names.
use Rattle.std.proofs.Common.{◌≡◌, ◌≢◌, ℕ, Bool, true, false, List, [], ◌∷◌, ◌++◌, length, refl, sym, ap, ◌∙◌, subst, arith, codes}
use Rattle.std.specs.Prelude.{◌==◌}
use Rattle.std.specs.Char.{is_ascii_digit}
use Rattle.std.specs.List.{list_all}
use Rattle.std.specs.Str.{IsUtf8, chars, encode_utf8_all}
use Rattle.std.proofs.lemmas.Bool.{eqb-true}
use Rattle.std.proofs.lemmas.Bool.Decides.{nat_tests}
use Rattle.std.proofs.lemmas.List.{append_cancel_left}
use Rattle.std.proofs.lemmas.Str.{encodes-chars}
use Rattle.rn_text.specs.Characters.{is_name_start, is_name_char}
use Rattle.rn_text.specs.Segments.{begins_with, after_run}
use Rattle.rn_text.specs.Texts.{is_white}
use Rattle.rn_text.proofs.Words.CharacterRuns.{after_run_stops}
use Rattle.rn_xml.specs.XmlCharacters.{lines_of, IsSpace}
use Rattle.rn_xml.specs.XmlDocuments.{IsVersionInfo, IsVersionNum, IsEncName}
use Rattle.rn_xml.specs.XmlDocuments as d
use Rattle.rn_xml.specs.Encodings.{NamesEncoding}
use Rattle.rn_xml.specs.Encodings as e
use Rattle.rn_xml.specs.inside.Declared.{IsOnlyField, LacksField, OpensNone, is_unquoted}
use Rattle.rn_xml.specs.inside.Pieces.{IsNamedField}
use Rattle.rn_xml.proofs.Decoding.DeclarationFields.{some_white, white_there}
use Rattle.rn_xml.proofs.Numbers.{all_pass_too}
use Rattle.rn_xml.proofs.Sources.{inner_front, front_absent}

no_name_char : (c k : ℕ) → c ≡ k → is_name_char k ≡ false → is_name_char c ≡ false
no_name_char c k e n = ap is_name_char e ∙ n

blank : is_name_char 32 ≡ false
unfolding is_name_char is_name_start
blank = refl

tab : is_name_char 9 ≡ false
unfolding is_name_char is_name_start
tab = refl

feed : is_name_char 10 ≡ false
unfolding is_name_char is_name_start
feed = refl

return : is_name_char 13 ≡ false
unfolding is_name_char is_name_start
return = refl

-- no name goes on with white space
pub white_stops : (c : ℕ) → is_white c ≡ true → is_name_char c ≡ false
white_stops c w = cases (c == 32) (c == 9) (c == 10) refl refl refl
  where
    last : (c == 32) ≡ false → (c == 9) ≡ false → (c == 10) ≡ false → c ≡ 13
    last p q r = grind (arith, nat_tests)

    cases : (x y z : Bool) → (c == 32) ≡ x → (c == 9) ≡ y → (c == 10) ≡ z → is_name_char c ≡ false
    cases true y z p q r = no_name_char c 32 (eqb-true c 32 p) blank
    cases false true z p q r = no_name_char c 9 (eqb-true c 9 q) tab
    cases false false true p q r = no_name_char c 10 (eqb-true c 10 r) feed
    cases false false false p q r = no_name_char c 13 (last p q r) return

name_stays : (cs : List ℕ) → begins_with is_white cs ≡ true → after_run is_name_char cs ≡ cs
name_stays [] w = refl
name_stays (c ∷ cs) w = after_run_stops is_name_char c cs (white_stops c w)

-- where a name goes on behind `<?xml`, no white space follows that
pub longer_name : (text inside after : List ℕ) → IsUtf8 inside → IsUtf8 after → chars text ≡ codes "<?xml" ++ chars inside → chars after ≡ after_run is_name_char (chars inside)
    → ¬ (length after ≡ length inside) → OpensNone (lines_of (chars text))
longer_name text inside after u v front run longer behind rest is space =
    let same : lines_of (chars inside) ≡ behind = append_cancel_left (codes "<?xml") (lines_of (chars inside)) behind (sym (inner_front (codes "<?xml") (chars inside) refl) ∙ ap lines_of (sym front) ∙ is) in
    let white = white_there (chars inside) (some_white (lines_of (chars inside)) rest (subst (λ l. IsSpace l rest) (sym same) space)).0 in
    longer (ap length (sym (encodes-chars after v) ∙ ap encode_utf8_all (run ∙ name_stays (chars inside) white) ∙ encodes-chars inside u))

pub no_front : (text : List ℕ) → ((behind : List ℕ) → chars text ≢ codes "<?xml" ++ behind) → OpensNone (lines_of (chars text))
no_front text n behind rest is space = front_absent (codes "<?xml") (chars text) refl n behind is

-- a version holds no quotes
digit_unquoted : (c : ℕ) → is_ascii_digit c ≡ true → is_unquoted c ≡ true
digit_unquoted c h = grind (arith, nat_tests)

pub unquoted_version : (number : List ℕ) → IsVersionNum number → list_all is_unquoted number ≡ true
unquoted_version number (d.IsVersionNum.number {digits = ds} some all) = all_pass_too is_ascii_digit is_unquoted digit_unquoted ds all

-- what the front of a declaration is made of
record IsFront (cs name : List ℕ) : Type 0 where
  inside : List ℕ
  number : List ℕ
  mid : List ℕ
  rest : List ℕ
  opens : cs ≡ codes "<?xml" ++ inside
  version : IsNamedField (codes "version") inside number mid
  is_number : IsVersionNum number
  encoding : IsNamedField (codes "encoding") mid name rest
  is_name : IsEncName name

named_front : (cs name : List ℕ) → NamesEncoding cs name → IsFront cs name
named_front cs name (e.NamesEncoding.names {cs = inside} {mid = m} {rest = r} (d.IsVersionInfo.version {number = n} vs vq vv vn) es eq en ee) = record {
  inside = inside;
  number = n;
  mid = m;
  rest = r;
  opens = refl;
  version = record { mid = _; after = _; space = vs; equals = vq; quoted = vv };
  is_number = vn;
  encoding = record { mid = _; after = _; space = es; equals = eq; quoted = en };
  is_name = ee;
}

module _ (cs inside : List ℕ) (front : cs ≡ codes "<?xml" ++ inside) where
  same_inside : (name : List ℕ) → (f : IsFront cs name) → inside ≡ f.inside
  same_inside name f = append_cancel_left (codes "<?xml") inside f.inside (sym front ∙ f.opens)

  pub no_version : LacksField (codes "version") inside → (name : List ℕ) → ¬ NamesEncoding cs name
  no_version n name h =
      let f = named_front cs name h in
      n f.number f.mid (subst (λ l. IsNamedField (codes "version") l f.number f.mid) (sym (same_inside name f)) f.version)

  module _ (number rest : List ℕ) (only : IsOnlyField (codes "version") inside number rest) where
    same_version : (name : List ℕ) → (f : IsFront cs name) → (f.number ≡ number) × (f.mid ≡ rest)
    same_version name f = only f.number f.mid (subst (λ l. IsNamedField (codes "version") l f.number f.mid) (sym (same_inside name f)) f.version) (unquoted_version f.number f.is_number)

    pub wrong_version : ¬ IsVersionNum number → (name : List ℕ) → ¬ NamesEncoding cs name
    wrong_version n name h = let f = named_front cs name h in n (subst IsVersionNum (same_version name f).0 f.is_number)

    pub no_encoding : LacksField (codes "encoding") rest → (name : List ℕ) → ¬ NamesEncoding cs name
    no_encoding n name h =
        let f = named_front cs name h in
        n name f.rest (subst (λ l. IsNamedField (codes "encoding") l name f.rest) (same_version name f).1 f.encoding)

  -- and where one is
  pub names_encoding : (number rest name after : List ℕ) → IsNamedField (codes "version") inside number rest → IsVersionNum number → IsNamedField (codes "encoding") rest name after
      → IsEncName name → NamesEncoding cs name
  names_encoding number rest name after v n f h = subst (λ l. NamesEncoding l name) (sym front) (e.NamesEncoding.names (d.IsVersionInfo.version v.space v.equals v.quoted n) f.space f.equals f.quoted h)
