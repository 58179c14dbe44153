-- The first characters of the pieces of a content: at most one kind of piece begins with them.
use Rattle.std.proofs.Common.{◌≡◌, ℕ, true, false, cond, List, [], ◌∷◌, ◌++◌, refl, ap, ◌∙◌, arith}
use Rattle.std.specs.Prelude.{◌==◌, ◌||◌, not, if◌then◌else◌}
use Rattle.std.specs.List.{list_all}
use Rattle.std.proofs.lemmas.Bool.{and_parts, false≢true, eqb-true}
use Rattle.std.proofs.lemmas.Bool.Decides.{nat_tests}
use Rattle.rn_text.specs.Characters.{is_name_start, is_name_char, is_ncname}
use Rattle.rn_text.specs.Texts.{is_white}
use Rattle.rn_xml.specs.XmlCharacters.{IsReference, IsSection, IsComment, IsInstruction, is_data_char}
use Rattle.rn_xml.specs.XmlCharacters as x
use Rattle.rn_xml.specs.XmlTags.{IsQName}
use Rattle.rn_xml.specs.XmlTags as t
use Rattle.rn_xml.specs.inside.Fronts.{opens_tag}

-- ---- the kind: 0 a character, 1 a reference, 2 a section, 3 a comment, 4 an instruction, 5 none of these

abbrev pub kind_of_sign : List ℕ → ℕ
kind_of_sign [] = 5
kind_of_sign (c ∷ cs) = if c == 91 then 2 else (if c == 45 then 3 else 5)

abbrev pub kind_of_markup : List ℕ → ℕ
kind_of_markup [] = 5
kind_of_markup (c ∷ cs) = if c == 33 then kind_of_sign cs else (if c == 63 then 4 else 5)

abbrev pub kind_of : List ℕ → ℕ
kind_of [] = 5
kind_of (c ∷ cs) = if c == 38 then 1 else (if c == 60 then kind_of_markup cs else 0)

pub reference_kind : (cs : List ℕ) (c : ℕ) (rest : List ℕ) → IsReference cs c rest → kind_of cs ≡ 1
reference_kind cs c rest (x.IsReference.entity e) = refl
reference_kind cs c rest (x.IsReference.decimal some each legal) = refl
reference_kind cs c rest (x.IsReference.hexadecimal some each legal) = refl

pub section_kind : (cs inside rest : List ℕ) → IsSection cs inside rest → kind_of cs ≡ 2
section_kind cs inside rest (x.IsSection.section legal lacks) = refl

pub comment_kind : (cs rest : List ℕ) → IsComment cs rest → kind_of cs ≡ 3
comment_kind cs rest (x.IsComment.comment inside legal lacks) = refl

pub instruction_kind : (cs rest : List ℕ) → IsInstruction cs rest → kind_of cs ≡ 4
instruction_kind cs rest (x.IsInstruction.bare name is) = refl
instruction_kind cs rest (x.IsInstruction.full name c inside is white legal lacks) = refl

pub other_kind : (c : ℕ) (cs : List ℕ) → (c == 38) ≡ false → (c == 60) ≡ false → kind_of (c ∷ cs) ≡ 0
other_kind c cs amp less = ap (λ b. cond b 1 (cond (c == 60) (kind_of_markup cs) 0)) amp ∙ ap (λ b. cond b (kind_of_markup cs) 0) less

pub data_kind : (c : ℕ) (cs : List ℕ) → is_data_char c ≡ true → kind_of (c ∷ cs) ≡ 0
data_kind c cs d = other_kind c cs (amp c (and_parts _ _ d).1) (less c (and_parts _ _ d).1)
  where
    amp : (c : ℕ) → not (c == 60 || c == 38) ≡ true → (c == 38) ≡ false
    amp c e = grind (arith, nat_tests)

    less : (c : ℕ) → not (c == 60 || c == 38) ≡ true → (c == 60) ≡ false
    less c e = grind (arith, nat_tests)

pub white_no_ampersand : (c : ℕ) → is_white c ≡ true → (c == 38) ≡ false
white_no_ampersand c e = grind (arith, nat_tests)

pub white_kind : (c : ℕ) (cs : List ℕ) → is_white c ≡ true → kind_of (c ∷ cs) ≡ 0
white_kind c cs w = other_kind c cs (white_no_ampersand c w) (less c w)
  where
    less : (c : ℕ) → is_white c ≡ true → (c == 60) ≡ false
    less c e = grind (arith, nat_tests)

-- ---- tags

pub tag_kind : (cs : List ℕ) → opens_tag cs ≡ true → kind_of cs ≡ 5
tag_kind [] e = refl
tag_kind (c ∷ []) e = absurd (false≢true (and_parts (c == 60) false e).1)
tag_kind (c ∷ d ∷ ds) e =
    let both = and_parts (c == 60) (not (d == 33 || d == 63)) e in
    ap (λ a. kind_of (a ∷ d ∷ ds)) (eqb-true c 60 both.0)
    ∙ ap (λ b. cond b (kind_of_sign ds) (cond (d == 63) 4 5)) (bang d both.1) ∙ ap (λ b. cond b 4 5) (mark d both.1)
  where
    bang : (d : ℕ) → not (d == 33 || d == 63) ≡ true → (d == 33) ≡ false
    bang d e = grind (arith, nat_tests)

    mark : (d : ℕ) → not (d == 33 || d == 63) ≡ true → (d == 63) ≡ false
    mark d e = grind (arith, nat_tests)

start_plain : (c : ℕ) → is_name_start c ≡ true → not (c == 33 || c == 63) ≡ true
unfolding is_name_start
start_plain c e = grind (arith, nat_tests)

ncname_opens : (name behind : List ℕ) → is_ncname name ≡ true → opens_tag (60 ∷ (name ++ behind)) ≡ true
ncname_opens [] behind n = absurd (false≢true n)
ncname_opens (c ∷ cs) behind n = start_plain c (and_parts (is_name_start c) (list_all is_name_char cs) n).0

prefix_opens : (name more behind : List ℕ) → is_ncname name ≡ true → opens_tag (60 ∷ ((name ++ more) ++ behind)) ≡ true
prefix_opens [] more behind n = absurd (false≢true n)
prefix_opens (c ∷ cs) more behind n = start_plain c (and_parts (is_name_start c) (list_all is_name_char cs) n).0

-- a name behind `<` is the front of a tag
pub name_opens_tag : (name prefix local behind : List ℕ) → IsQName name prefix local → opens_tag (60 ∷ (name ++ behind)) ≡ true
name_opens_tag name prefix local behind (t.IsQName.unprefixed n) = ncname_opens local behind n
name_opens_tag name prefix local behind (t.IsQName.prefixed n m) = prefix_opens prefix (58 ∷ local) behind n
