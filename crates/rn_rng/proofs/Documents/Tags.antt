-- Tags are read as what they were written for.
use Rattle.std.proofs.Common.{◌≡◌, ◌≢◌, ℕ, true, false, List, [], ◌∷◌, ◌++◌, refl, sym, ap, ◌∙◌, subst, ⊎_elim, append_assoc}
use Rattle.std.specs.Prelude.{codes, bytes_eq, encode_utf8_all}
use Rattle.std.specs.List.{AllByRecursion}
use Rattle.std.specs.Str.{IsUtf8, chars}
use Rattle.std.proofs.lemmas.Str.{encodes-chars}
use Rattle.std.proofs.lemmas.Bool.{cases_Bool, cond-false, false≢true}
use Rattle.std.proofs.lemmas.Slice.Eq.{bytes_eq-Decides}
use Rattle.std.proofs.Math.Utf8.{encode}
use Rattle.rn_text.specs.Texts.{Text}
use Rattle.rn_text.specs.Characters.{is_ncname, is_name_start, is_name_char}
use Rattle.rn_pattern.specs.Document.{Attribute}
use Rattle.rn_assemble.specs.WritableTexts.{IsName}
use Rattle.rn_rng.specs.Translation.{rng_uri}
use Rattle.rn_rng.specs.Layout.{in_attribute, escaped, attributes_text, end_tag, xmlns as root_declaration}
use Rattle.rn_xml.specs.XmlCharacters as spaces
use Rattle.rn_xml.specs.XmlTags as tags
use Rattle.rn_rng.specs.XmlCharacters as x
use Rattle.rn_rng.specs.XmlTags as g
use Rattle.rn_rng.specs.XmlTags.{Written, AreAttributes, default_inside, ordinary, xmlns, AreUnique, IsTagFront, IsEndTag}
use Rattle.rn_rng.specs.SpellableItems.{IsSpellableAttribute, AreSpellableAttributes, HaveUniqueNames}
use Rattle.rn_rng.proofs.Documents.Escapes.{escaped_value}

-- an attribute whose texts are lists of characters
abbrev pub attribute_chars : Attribute → Attribute
attribute_chars a = record { uri = a.uri; local = chars a.local; content = chars a.content }

abbrev pub attributes_chars : List Attribute → List Attribute
attributes_chars [] = []
attributes_chars (a ∷ others) = attribute_chars a ∷ attributes_chars others

abbrev pub written_of : Attribute → Written
written_of a = record { name = chars a.local; value = chars a.content }

abbrev pub all_written : List Attribute → List Written
all_written [] = []
all_written (a ∷ others) = written_of a ∷ all_written others

-- ---- attributes

value_parts : (value others rest : List ℕ) → ((value ++ 34 ∷ []) ++ others) ++ rest ≡ value ++ 34 ∷ (others ++ rest)
value_parts value others rest = ap (λ t. t ++ rest) (append_assoc value (34 ∷ []) others) ∙ append_assoc value (34 ∷ others) rest

attribute_parts : (name value others rest : List ℕ)
    → ((codes " " ++ (name ++ (codes "=\"" ++ (value ++ codes "\"")))) ++ others) ++ rest ≡ 32 ∷ (name ++ 61 ∷ 34 ∷ (value ++ 34 ∷ (others ++ rest)))
attribute_parts name value others rest = ap (λ t. 32 ∷ t) (ap (λ t. t ++ rest) (append_assoc name (61 ∷ 34 ∷ (value ++ 34 ∷ [])) others)
    ∙ (append_assoc name ((61 ∷ 34 ∷ (value ++ 34 ∷ [])) ++ others) rest ∙ ap (λ t. name ++ 61 ∷ 34 ∷ t) (value_parts value others rest)))

-- one attribute before others
attribute_read : (name value : List ℕ) (others rest : List ℕ) (more : List Written) → is_ncname name ≡ true → AreAttributes (others ++ rest) more rest
    → AreAttributes (((codes " " ++ (name ++ (codes "=\"" ++ (escaped in_attribute value ++ codes "\"")))) ++ others) ++ rest) (record { name = name; value = value } ∷ more) rest
attribute_read name value others rest more is_name behind =
    subst (λ all. AreAttributes all (record { name = name; value = value } ∷ more) rest) (sym (attribute_parts name (escaped in_attribute value) others rest))
    (g.more (spaces.white refl spaces.none) (g.attribute is_name (tags.equals spaces.none spaces.none) (x.double (escaped_value value (others ++ rest)))) behind)

pub attributes_read : (a : List Attribute) (rest : List ℕ) → AllByRecursion IsSpellableAttribute a
    → AreAttributes (attributes_text (attributes_chars a) ++ rest) (all_written a) rest
attributes_read [] rest h = g.none
attributes_read (a ∷ others) rest h =
    attribute_read (chars a.local) (chars a.content) (attributes_text (attributes_chars others)) rest (all_written others) h.0.name.is (attributes_read others rest h.1)

-- ---- names of attributes

-- texts with the same characters are the same
pub same_chars : (s t : Text) → IsUtf8 s → IsUtf8 t → chars s ≡ chars t → s ≡ t
same_chars s t u v e = sym (encodes-chars s u) ∙ (ap encode_utf8_all e ∙ encodes-chars t v)

-- a text with these characters is their text
pub text_of_chars : (s : Text) (cs : List ℕ) → IsUtf8 s → chars s ≡ cs → s ≡ encode_utf8_all cs
text_of_chars s cs u e = sym (encodes-chars s u) ∙ ap encode_utf8_all e

pub bytes_same : (a b : List ℕ) → bytes_eq a b ≡ true → a ≡ b
bytes_same a b e = (bytes_eq-Decides a b).0 e

xmlns_text : encode_utf8_all xmlns ≡ codes "xmlns"
unfolding encode
xmlns_text = refl

-- an attribute that declares no namespace
pub declares_none : (a : Attribute) → IsSpellableAttribute a → bytes_eq (chars a.local) xmlns ≡ false
declares_none a h = ⊎_elim (λ e. absurd (h.no_declaration (text_of_chars a.local xmlns h.name.utf8 (bytes_same (chars a.local) xmlns e) ∙ xmlns_text))) (λ e. e) (cases_Bool (bytes_eq (chars a.local) xmlns))

pub same_default : (around : Text) (a : List Attribute) → AllByRecursion IsSpellableAttribute a → default_inside around (all_written a) ≡ around
same_default around [] h = refl
same_default around (a ∷ others) h = cond-false (bytes_eq (chars a.local) xmlns) (encode_utf8_all (chars a.content)) (default_inside around (all_written others)) (declares_none a h.0) ∙ same_default around others h.1

-- an attribute of these texts
abbrev attribute_of : Text → Text → Text → Attribute
attribute_of u l c = record { uri = u; local = l; content = c }

-- the attribute that is read
abbrev attribute_again : Attribute → Attribute
attribute_again a = attribute_of [] (encode_utf8_all (chars a.local)) (encode_utf8_all (chars a.content))

same_parts : (u l c v m d : Text) → v ≡ u → m ≡ l → d ≡ c → attribute_of v m d ≡ attribute_of u l c
same_parts u l c v m d e f k = ap (λ t. attribute_of t m d) e ∙ (ap (λ t. attribute_of u t d) f ∙ ap (λ t. attribute_of u l t) k)

attribute_is : (a : Attribute) → IsSpellableAttribute a → attribute_again a ≡ a
attribute_is a h = same_parts a.uri a.local a.content [] (encode_utf8_all (chars a.local)) (encode_utf8_all (chars a.content))
    (sym h.no_namespace) (encodes-chars a.local h.name.utf8) (encodes-chars a.content h.text.utf8)

pub same_attributes : (a : List Attribute) → AllByRecursion IsSpellableAttribute a → ordinary (all_written a) ≡ a
same_attributes [] h = refl
same_attributes (a ∷ others) h = cond-false (bytes_eq (chars a.local) xmlns) (ordinary (all_written others)) (attribute_again a ∷ ordinary (all_written others)) (declares_none a h.0) ∙ (ap (λ b. b ∷ ordinary (all_written others)) (attribute_is a h.0) ∙ ap (λ b. a ∷ b) (same_attributes others h.1))

names_apart : (a : Attribute) (others : List Attribute) → IsName a.local → AllByRecursion IsSpellableAttribute others → AllByRecursion (λ (b : Attribute). a.local ≢ b.local) others
    → AllByRecursion (λ (b : Written). chars a.local ≢ b.name) (all_written others)
names_apart a [] n h apart = tt
names_apart a (b ∷ others) n h apart = ((λ e. apart.0 (same_chars a.local b.local n.utf8 h.0.name.utf8 e)), names_apart a others n h.1 apart.1)

pub unique_names : (a : List Attribute) → AllByRecursion IsSpellableAttribute a → HaveUniqueNames a → AreUnique (all_written a)
unique_names [] h apart = tt
unique_names (a ∷ others) h apart = (names_apart a others h.0.name h.1 apart.0, unique_names others h.1 apart.1)

none_declared : (a : Attribute) (others : List Attribute) → AllByRecursion IsSpellableAttribute others → AllByRecursion (λ (b : Written). xmlns ≢ b.name) (all_written others)
none_declared a [] h = tt
none_declared a (b ∷ others) h = ((λ e. h.0.no_declaration (text_of_chars b.local xmlns h.0.name.utf8 (sym e) ∙ xmlns_text)), none_declared a others h.1)

-- ---- tags

-- the front of a tag, and what is behind it
pub front_read : (name : List ℕ) (a : List Attribute) (rest : List ℕ) → is_ncname name ≡ true → AreSpellableAttributes a
    → IsTagFront ((codes "<" ++ (name ++ attributes_text (attributes_chars a))) ++ rest) name (all_written a) rest
front_read name a rest n h = record {
  behind_name = attributes_text (attributes_chars a) ++ rest;
  behind_attributes = rest;
  opens = ap (λ all. 60 ∷ all) (append_assoc name (attributes_text (attributes_chars a)) rest);
  is_name = n;
  are_attributes = attributes_read a rest h.each;
  space = spaces.none;
  unique = unique_names a h.each h.distinct;
  not_xml = λ e. no_text (sym (same_default [] a h.each) ∙ e);
  not_xmlns = λ e. no_text (sym (same_default [] a h.each) ∙ e);
}
  where
    no_text : {c : ℕ} {cs : List ℕ} → [] ≡ c ∷ cs → ⊥
    no_text e = cc

-- texts of which a test says that they differ
pub apart : (x y : Text) → bytes_eq x y ≡ false → x ≢ y
apart x y f e = false≢true (sym f ∙ (bytes_eq-Decides x y).1 e)

-- the front of the root's tag, which declares the namespace
pub root_read : (name : List ℕ) (a : List Attribute) (rest : List ℕ) → is_ncname name ≡ true → AreSpellableAttributes a
    → IsTagFront ((codes "<" ++ (name ++ attributes_text (root_declaration rng_uri ∷ attributes_chars a))) ++ rest) name (record { name = xmlns; value = rng_uri } ∷ all_written a) rest
unfolding encode is_name_start is_name_char
root_read name a rest n h = record {
  behind_name = attributes_text (root_declaration rng_uri ∷ attributes_chars a) ++ rest;
  behind_attributes = rest;
  opens = ap (λ all. 60 ∷ all) (append_assoc name (attributes_text (root_declaration rng_uri ∷ attributes_chars a)) rest);
  is_name = n;
  are_attributes = attribute_read xmlns rng_uri (attributes_text (attributes_chars a)) rest (all_written a) refl (attributes_read a rest h.each);
  space = spaces.none;
  unique = (none_declared (root_declaration rng_uri) a h.each, unique_names a h.each h.distinct);
  not_xml = apart rng_uri (codes "http://www.w3.org/XML/1998/namespace") refl;
  not_xmlns = apart rng_uri (codes "http://www.w3.org/2000/xmlns/") refl;
}

end_parts : (name rest : List ℕ) → end_tag name ++ rest ≡ 60 ∷ 47 ∷ (name ++ 62 ∷ 10 ∷ rest)
end_parts name rest = ap (λ all. 60 ∷ 47 ∷ all) (append_assoc name (codes ">\n") rest)

-- an end tag, and the line feed behind it
pub end_read : (name rest : List ℕ) → IsEndTag name (end_tag name ++ rest) (10 ∷ rest)
end_read name rest = subst (λ all. IsEndTag name all (10 ∷ rest)) (sym (end_parts name rest)) (g.closes spaces.none)
