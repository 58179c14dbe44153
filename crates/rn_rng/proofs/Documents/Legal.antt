-- All characters of an element's text are legal, and none is a carriage return.
use Rattle.std.proofs.lemmas.Bool.Decides.{nat_tests}
use Rattle.std.proofs.Common.{◌≡◌, ℕ, zero, suc, true, false, List, [], ◌∷◌, ◌++◌, refl, sym, ◌∙◌, subst, arith}
use Rattle.std.specs.Prelude.{codes, not, ◌==◌}
use Rattle.std.specs.List.{list_all, AllByRecursion}
use Rattle.std.specs.Str.{chars}
use Rattle.std.proofs.lemmas.Bool.{and_parts, and_from}
use Rattle.rn_text.specs.Texts.{Text}
use Rattle.rn_text.specs.Characters.{is_ncname, is_xml_char, is_name_start, is_name_char}
use Rattle.rn_text.proofs.Cutting.NameTokens.{name_chars}
use Rattle.rn_text.proofs.Words.XmlNames.{ncname_xml}
use Rattle.rn_pattern.specs.Document.{Attribute, Item, node, Items, no_items, more_items}
use Rattle.rn_assemble.specs.WritableTexts.{IsName}
use Rattle.rn_rng.specs.Translation.{rng_uri}
use Rattle.rn_rng.specs.Layout.{in_element, in_attribute, escaped, deeper, indent, attribute_text, attributes_text, tag_front, end_tag, holds_text, held_text, one_line, item_text, rest_text, items_text, xmlns, declaration_text, xml_text}
use Rattle.rn_rng.specs.XmlCharacters as x
use Rattle.rn_rng.specs.XmlCharacters.{HasLines}
use Rattle.rn_rng.specs.SpellableItems.{IsSpellableAttribute, IsSpellableText, IsSpellableItem, AreSpellableItems, line, block}
use Rattle.rn_rng.specs.SpellableItems as s
use Rattle.rn_text.proofs.Words.AppendedLists.{all_append}
use Rattle.rn_rng.proofs.Documents.Escapes.{is_kept, all_mono, kept_escaped}
use Rattle.rn_rng.proofs.Documents.Tags.{attribute_chars, attributes_chars}
use Rattle.rn_rng.proofs.Documents.Elements.{item_chars, items_chars, holds_same, line_text, block_text}

abbrev Kept : List ℕ → Type 0
Kept cs = list_all is_kept cs ≡ true

both : (xs ys : List ℕ) → Kept xs → Kept ys → Kept (xs ++ ys)
both xs ys = all_append is_kept xs ys

-- ---- names

no_return : (c : ℕ) → is_name_char c ≡ true → not (c == 13) ≡ true
unfolding is_name_start is_name_char
no_return c h1 = grind (arith, nat_tests)

all_kept : (cs : List ℕ) → list_all is_xml_char cs ≡ true → list_all (λ c. not (c == 13)) cs ≡ true → Kept cs
all_kept [] a b = refl
all_kept (c ∷ cs) a b =
    let legal = and_parts (is_xml_char c) (list_all is_xml_char cs) a in
    let other = and_parts (not (c == 13)) (list_all (λ d. not (d == 13)) cs) b in
    and_from (is_kept c) (list_all is_kept cs) (and_from (is_xml_char c) (not (c == 13)) legal.0 other.0) (all_kept cs legal.1 other.1)

name_kept : (cs : List ℕ) → is_ncname cs ≡ true → Kept cs
name_kept cs e = all_kept cs (ncname_xml cs e) (all_mono is_name_char (λ c. not (c == 13)) no_return cs (name_chars cs e))

-- ---- tags

indent_kept : (n : ℕ) → Kept (indent n)
unfolding is_xml_char
indent_kept zero = refl
indent_kept (suc n) = indent_kept n

attribute_kept : (name value : List ℕ) → is_ncname name ≡ true → list_all is_xml_char value ≡ true → Kept (codes " " ++ (name ++ (codes "=\"" ++ (escaped in_attribute value ++ codes "\""))))
unfolding is_xml_char
attribute_kept name value n v = both (codes " ") (name ++ (codes "=\"" ++ (escaped in_attribute value ++ codes "\""))) refl
    (both name (codes "=\"" ++ (escaped in_attribute value ++ codes "\"")) (name_kept name n) (both (codes "=\"") (escaped in_attribute value ++ codes "\"") refl (both (escaped in_attribute value) (codes "\"") (kept_escaped in_attribute value v) refl)))

attributes_kept : (a : List Attribute) → AllByRecursion IsSpellableAttribute a → Kept (attributes_text (attributes_chars a))
attributes_kept [] h = refl
attributes_kept (a ∷ others) h = both (attribute_text (attribute_chars a)) (attributes_text (attributes_chars others)) (attribute_kept (chars a.local) (chars a.content) h.0.name.is h.0.text.is) (attributes_kept others h.1)

root_attributes_kept : (a : List Attribute) → AllByRecursion IsSpellableAttribute a → Kept (attributes_text (xmlns rng_uri ∷ attributes_chars a))
unfolding is_xml_char
root_attributes_kept a h = both (attribute_text (xmlns rng_uri)) (attributes_text (attributes_chars a)) refl (attributes_kept a h)

front_kept : (n : ℕ) (name : List ℕ) (a : List Attribute) → is_ncname name ≡ true → Kept (attributes_text a) → Kept (tag_front n name a)
unfolding is_xml_char
front_kept n name a h k = both (indent n) (codes "<" ++ (name ++ attributes_text a)) (indent_kept n) (both (codes "<") (name ++ attributes_text a) refl (both name (attributes_text a) (name_kept name h) k))

end_kept : (name : List ℕ) → is_ncname name ≡ true → Kept (end_tag name)
unfolding is_xml_char
end_kept name h = both (codes "</") (name ++ codes ">\n") refl (both name (codes ">\n") (name_kept name h) refl)

-- ---- elements

held_kept : (local : Text) (k : Items) → IsSpellableText local k → Kept (held_text (items_chars k))
held_kept local k s.none = refl
held_kept local k (s.one {s = t} x some white) = both (escaped in_element (chars t)) [] (kept_escaped in_element (chars t) x.is) refl

line_kept : (n : ℕ) (local : Text) (a : List Attribute) (k : Items) → IsName local → AllByRecursion IsSpellableAttribute a → holds_text local ≡ true → IsSpellableText local k
    → Kept (item_text n (item_chars (node rng_uri local a k)))
unfolding is_xml_char
line_kept n local a k name h holds text = subst Kept (sym (line_text n rng_uri (chars local) (attributes_chars a) (items_chars k) (holds_same local name ∙ holds)))
    (both (tag_front n (chars local) (attributes_chars a)) (one_line (chars local) (items_chars k)) (front_kept n (chars local) (attributes_chars a) name.is (attributes_kept a h))
    (both (codes ">") (held_text (items_chars k) ++ end_tag (chars local)) refl (both (held_text (items_chars k)) (end_tag (chars local)) (held_kept local k text) (end_kept (chars local) name.is))))

rest_kept : (n : ℕ) (local : Text) (k : Items) → IsName local → Kept (items_text (deeper n) (items_chars k)) → Kept (rest_text n (chars local) (items_chars k))
unfolding is_xml_char
rest_kept n local no_items name inner = refl
rest_kept n local (more_items i is) name inner = both (codes ">\n") (items_text (deeper n) (items_chars (more_items i is)) ++ (indent n ++ end_tag (chars local))) refl
    (both (items_text (deeper n) (items_chars (more_items i is))) (indent n ++ end_tag (chars local)) inner
    (both (indent n) (end_tag (chars local)) (indent_kept n) (end_kept (chars local) name.is)))

block_kept : (n : ℕ) (local : Text) (a : List Attribute) (k : Items) → IsName local → AllByRecursion IsSpellableAttribute a → holds_text local ≡ false
    → Kept (items_text (deeper n) (items_chars k)) → Kept (item_text n (item_chars (node rng_uri local a k)))
block_kept n local a k name h holds inner = subst Kept (sym (block_text n rng_uri (chars local) (attributes_chars a) (items_chars k) (holds_same local name ∙ holds)))
    (both (tag_front n (chars local) (attributes_chars a)) (rest_text n (chars local) (items_chars k)) (front_kept n (chars local) (attributes_chars a) name.is (attributes_kept a h)) (rest_kept n local k name inner))

mutual
  item_kept : (x : Item) → IsSpellableItem x → (n : ℕ) → Kept (item_text n (item_chars x))
  item_kept x (line {local = local} {attributes = attributes} {content = content} name a holds text) n = line_kept n local attributes content name a.each holds text
  item_kept x (block {local = local} {attributes = attributes} {content = content} name a holds inner) n = block_kept n local attributes content name a.each holds (items_kept content inner (deeper n))

  items_kept : (k : Items) → AreSpellableItems k → (n : ℕ) → Kept (items_text n (items_chars k))
  items_kept k s.none n = refl
  items_kept k (s.more {x = y} {k = others} first behind) n = both (item_text n (item_chars y)) (items_text n (items_chars others)) (item_kept y first n) (items_kept others behind n)

pub document_kept : (local : Text) (a : List Attribute) (k : Items) → IsName local → AllByRecursion IsSpellableAttribute a → AreSpellableItems k
    → list_all is_kept (xml_text (item_chars (node rng_uri local a k))) ≡ true
unfolding is_xml_char
document_kept local a k name h inner = both declaration_text (tag_front 0 (chars local) (xmlns rng_uri ∷ attributes_chars a) ++ (codes ">\n" ++ (items_text 1 (items_chars k) ++ end_tag (chars local)))) refl
    (both (tag_front 0 (chars local) (xmlns rng_uri ∷ attributes_chars a)) (codes ">\n" ++ (items_text 1 (items_chars k) ++ end_tag (chars local)))
    (front_kept 0 (chars local) (xmlns rng_uri ∷ attributes_chars a) name.is (root_attributes_kept a h))
    (both (codes ">\n") (items_text 1 (items_chars k) ++ end_tag (chars local)) refl (both (items_text 1 (items_chars k)) (end_tag (chars local)) (items_kept k inner 1) (end_kept (chars local) name.is))))

-- ---- what follows

kept_legal : (c : ℕ) → is_kept c ≡ true → is_xml_char c ≡ true
kept_legal c e = (and_parts (is_xml_char c) (not (c == 13)) e).0

pub kept_is_legal : (cs : List ℕ) → list_all is_kept cs ≡ true → list_all is_xml_char cs ≡ true
kept_is_legal cs a = all_mono is_kept is_xml_char kept_legal cs a

kept_itself : (c : ℕ) → is_kept c ≡ true → (c == 13) ≡ false
kept_itself c h1 = grind (arith, nat_tests)

pub kept_has_lines : (cs : List ℕ) → list_all is_kept cs ≡ true → HasLines cs cs
kept_has_lines [] a = x.none
kept_has_lines (c ∷ cs) a = let both = and_parts (is_kept c) (list_all is_kept cs) a in x.itself (kept_itself c both.0) (kept_has_lines cs both.1)
