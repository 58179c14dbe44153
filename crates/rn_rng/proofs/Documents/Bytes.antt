-- The bytes of an element's characters are its text.
use Rattle.std.proofs.lemmas.Bool.Decides.{nat_tests}
use Rattle.std.proofs.Common.{◌≡◌, ℕ, zero, suc, ◌+◌, Bool, true, false, List, [], ◌∷◌, ◌++◌, refl, sym, ap, ◌∙◌, ⊎_elim, append-nil, arith}
use Rattle.std.specs.Prelude.{codes, encode_utf8_all, ◌<◌, ◌&&◌, nat_lt, nat_le}
use Rattle.std.specs.List.{list_all}
use Rattle.std.specs.Str.{IsUtf8, chars}
use Rattle.std.proofs.Math.Utf8.{encode}
use Rattle.std.proofs.lemmas.List.Concat.{flat_map-append}
use Rattle.std.proofs.lemmas.Str.{encode_ascii, encodes-append, encodes-chars}
use Rattle.std.proofs.lemmas.Bool.{cases_Bool, and_parts, and_from}
use Rattle.rn_text.specs.Texts.{Text}
use Rattle.rn_pattern.specs.Document.{Attribute, Item, node, Items, no_items, more_items}
use Rattle.rn_assemble.specs.WritableTexts.{IsName}
use Rattle.rn_rng.specs.Translation.{rng_uri}
use Rattle.rn_rng.specs.Layout.{Holder, in_element, in_attribute, reference as spelled, escaped, deeper, indent, attribute_text, attributes_text, tag_front, end_tag, holds_text, held_text, one_line, item_text, rest_text, items_text, xmlns, declaration_text, xml_text}
use Rattle.std.specs.List.{AllByRecursion}
use Rattle.rn_rng.specs.SpellableItems.{IsSpellableAttribute, IsSpellableText, IsSpellableItem, AreSpellableItems, line, block}
use Rattle.rn_rng.specs.SpellableItems as s
use Rattle.rn_rng.proofs.Documents.Escapes.{is_ascii, Reading, referred, itself, reading}
use Rattle.rn_rng.proofs.Documents.Tags.{attribute_chars, attributes_chars}
use Rattle.rn_rng.proofs.Documents.Elements.{item_chars, items_chars, holds_same, line_text, block_text}

-- ---- escapes

ascii_bytes : (cs : List ℕ) → list_all is_ascii cs ≡ true → encode_utf8_all cs ≡ cs
ascii_bytes [] a = refl
ascii_bytes (c ∷ cs) a = let both = and_parts (is_ascii c) (list_all is_ascii cs) a in
    ap (λ front. front ++ encode_utf8_all cs) (encode_ascii c (below c both.0)) ∙ ap (λ rest. c ∷ rest) (ascii_bytes cs both.1)
  where
    below : (d : ℕ) → is_ascii d ≡ true → d < 128
    below d h1 = grind (arith, nat_tests)

-- a byte of a character that is not ASCII
abbrev is_high : ℕ → Bool
is_high b = nat_le 128 b

high_stays : (h : Holder) (b : ℕ) → is_high b ≡ true → spelled h b ≡ b ∷ []
high_stays h b h1 = grind (arith, nat_tests)

highs_stay : (h : Holder) (bs : List ℕ) → list_all is_high bs ≡ true → escaped h bs ≡ bs
highs_stay h [] a = refl
highs_stay h (b ∷ bs) a = let both = and_parts (is_high b) (list_all is_high bs) a in
    ap (λ front. front ++ escaped h bs) (high_stays h b both.0) ∙ ap (λ rest. b ∷ rest) (highs_stay h bs both.1)

two : (a b : ℕ) → is_high a ≡ true → is_high b ≡ true → list_all is_high (a ∷ b ∷ []) ≡ true
two a b h k = and_from (is_high a) (is_high b && true) h (and_from (is_high b) true k refl)

-- all bytes of a character that is not ASCII are high
high_bytes : (c : ℕ) → nat_lt c 128 ≡ false → list_all is_high (encode c) ≡ true
unfolding encode
high_bytes c h1 = grind (arith, nat_tests)

-- what is written for a character's bytes
char_bytes : (h : Holder) (c : ℕ) → Reading h c → encode_utf8_all (spelled h c) ≡ escaped h (encode c)
char_bytes h c (referred small ascii kept r) = ascii_bytes (spelled h c) ascii ∙ (sym (append-nil (spelled h c)) ∙ ap (escaped h) (sym (encode_ascii c small)))
char_bytes h c (itself e a b d f g i q) = ap encode_utf8_all e ∙ (append-nil (encode c) ∙ ⊎_elim
    (λ low. let one : encode c ≡ c ∷ [] = encode_ascii c (below c low) in one ∙ (sym (ap (λ t. t ++ []) e) ∙ ap (escaped h) (sym one)))
    (λ high. sym (highs_stay h (encode c) (high_bytes c high)))
    (cases_Bool (nat_lt c 128)))
  where
    below : (d : ℕ) → nat_lt d 128 ≡ true → d < 128
    below d h1 = grind (arith, nat_tests)

escaped_bytes : (h : Holder) (cs : List ℕ) → encode_utf8_all (escaped h cs) ≡ escaped h (encode_utf8_all cs)
escaped_bytes h [] = refl
escaped_bytes h (c ∷ cs) = encodes-append (spelled h c) (escaped h cs) ∙ (ap (λ front. front ++ encode_utf8_all (escaped h cs)) (char_bytes h c (reading h c))
    ∙ (ap (λ rest. escaped h (encode c) ++ rest) (escaped_bytes h cs) ∙ sym (flat_map-append (spelled h) (encode c) (encode_utf8_all cs))))

-- ---- tags

-- characters in a row, and their bytes
both : (xs ys : List ℕ) {xt yt : List ℕ} → encode_utf8_all xs ≡ xt → encode_utf8_all ys ≡ yt → encode_utf8_all (xs ++ ys) ≡ xt ++ yt
both xs ys {xt} {yt} e f = encodes-append xs ys ∙ (ap (λ t. t ++ encode_utf8_all ys) e ∙ ap (λ t. xt ++ t) f)

escaped_text : (h : Holder) (t : Text) → IsUtf8 t → encode_utf8_all (escaped h (chars t)) ≡ escaped h t
escaped_text h t u = escaped_bytes h (chars t) ∙ ap (escaped h) (encodes-chars t u)

indent_bytes : (n : ℕ) → encode_utf8_all (indent n) ≡ indent n
unfolding encode
indent_bytes zero = refl
indent_bytes (suc n) = ap (λ rest. 32 ∷ 32 ∷ rest) (indent_bytes n)

attribute_bytes : (a : Attribute) → IsSpellableAttribute a → encode_utf8_all (attribute_text (attribute_chars a)) ≡ attribute_text a
unfolding encode
attribute_bytes a h = both (codes " ") (chars a.local ++ (codes "=\"" ++ (escaped in_attribute (chars a.content) ++ codes "\""))) refl
    (both (chars a.local) (codes "=\"" ++ (escaped in_attribute (chars a.content) ++ codes "\"")) (encodes-chars a.local h.name.utf8) (both (codes "=\"") (escaped in_attribute (chars a.content) ++ codes "\"") refl
    (both (escaped in_attribute (chars a.content)) (codes "\"") (escaped_text in_attribute a.content h.text.utf8) refl)))

attributes_bytes : (a : List Attribute) → AllByRecursion IsSpellableAttribute a → encode_utf8_all (attributes_text (attributes_chars a)) ≡ attributes_text a
attributes_bytes [] h = refl
attributes_bytes (a ∷ others) h = both (attribute_text (attribute_chars a)) (attributes_text (attributes_chars others)) (attribute_bytes a h.0) (attributes_bytes others h.1)

-- the root's declaration and its attributes
root_attributes_bytes : (a : List Attribute) → AllByRecursion IsSpellableAttribute a → encode_utf8_all (attributes_text (xmlns rng_uri ∷ attributes_chars a)) ≡ attributes_text (xmlns rng_uri ∷ a)
unfolding encode
root_attributes_bytes a h = both (attribute_text (xmlns rng_uri)) (attributes_text (attributes_chars a)) refl (attributes_bytes a h)

front_bytes : (n : ℕ) (local : Text) (cs bs : List Attribute) → IsName local → encode_utf8_all (attributes_text cs) ≡ attributes_text bs → encode_utf8_all (tag_front n (chars local) cs) ≡ tag_front n local bs
unfolding encode
front_bytes n local cs bs name e = both (indent n) (codes "<" ++ (chars local ++ attributes_text cs)) (indent_bytes n) (both (codes "<") (chars local ++ attributes_text cs) refl (both (chars local) (attributes_text cs) (encodes-chars local name.utf8) e))

end_bytes : (local : Text) → IsName local → encode_utf8_all (end_tag (chars local)) ≡ end_tag local
unfolding encode
end_bytes local name = both (codes "</") (chars local ++ codes ">\n") refl (both (chars local) (codes ">\n") (encodes-chars local name.utf8) refl)

-- ---- elements

held_bytes : (local : Text) (k : Items) → IsSpellableText local k → encode_utf8_all (held_text (items_chars k)) ≡ held_text k
held_bytes local k s.none = refl
held_bytes local k (s.one {s = t} x some white) = both (escaped in_element (chars t)) [] (escaped_text in_element t x.utf8) refl

line_bytes : (n : ℕ) (local : Text) (a : List Attribute) (k : Items) → IsName local → AllByRecursion IsSpellableAttribute a → holds_text local ≡ true → IsSpellableText local k
    → encode_utf8_all (item_text n (item_chars (node rng_uri local a k))) ≡ item_text n (node rng_uri local a k)
unfolding encode
line_bytes n local a k name h holds text = ap encode_utf8_all (line_text n rng_uri (chars local) (attributes_chars a) (items_chars k) (holds_same local name ∙ holds))
    ∙ (both (tag_front n (chars local) (attributes_chars a)) (one_line (chars local) (items_chars k)) (front_bytes n local (attributes_chars a) a name (attributes_bytes a h))
    (both (codes ">") (held_text (items_chars k) ++ end_tag (chars local)) refl (both (held_text (items_chars k)) (end_tag (chars local)) (held_bytes local k text) (end_bytes local name))) ∙ sym (line_text n rng_uri local a k holds))

rest_bytes : (n : ℕ) (local : Text) (k : Items) → IsName local → encode_utf8_all (items_text (deeper n) (items_chars k)) ≡ items_text (deeper n) k
    → encode_utf8_all (rest_text n (chars local) (items_chars k)) ≡ rest_text n local k
unfolding encode
rest_bytes n local no_items name inner = refl
rest_bytes n local (more_items i is) name inner = both (codes ">\n") (items_text (deeper n) (items_chars (more_items i is)) ++ (indent n ++ end_tag (chars local))) refl
    (both (items_text (deeper n) (items_chars (more_items i is))) (indent n ++ end_tag (chars local)) inner
    (both (indent n) (end_tag (chars local)) (indent_bytes n) (end_bytes local name)))

block_bytes : (n : ℕ) (local : Text) (a : List Attribute) (k : Items) → IsName local → AllByRecursion IsSpellableAttribute a → holds_text local ≡ false
    → encode_utf8_all (items_text (deeper n) (items_chars k)) ≡ items_text (deeper n) k
    → encode_utf8_all (item_text n (item_chars (node rng_uri local a k))) ≡ item_text n (node rng_uri local a k)
block_bytes n local a k name h holds inner = ap encode_utf8_all (block_text n rng_uri (chars local) (attributes_chars a) (items_chars k) (holds_same local name ∙ holds))
    ∙ (both (tag_front n (chars local) (attributes_chars a)) (rest_text n (chars local) (items_chars k)) (front_bytes n local (attributes_chars a) a name (attributes_bytes a h)) (rest_bytes n local k name inner) ∙ sym (block_text n rng_uri local a k holds))

mutual
  pub item_bytes : (x : Item) → IsSpellableItem x → (n : ℕ) → encode_utf8_all (item_text n (item_chars x)) ≡ item_text n x
  item_bytes x (line {local = local} {attributes = attributes} {content = content} name a holds text) n = line_bytes n local attributes content name a.each holds text
  item_bytes x (block {local = local} {attributes = attributes} {content = content} name a holds inner) n = block_bytes n local attributes content name a.each holds (items_bytes content inner (deeper n))

  pub items_bytes : (k : Items) → AreSpellableItems k → (n : ℕ) → encode_utf8_all (items_text n (items_chars k)) ≡ items_text n k
  items_bytes k s.none n = refl
  items_bytes k (s.more {x = y} {k = others} first behind) n = both (item_text n (item_chars y)) (items_text n (items_chars others)) (item_bytes y first n) (items_bytes others behind n)

-- the bytes of a document
pub document_bytes : (local : Text) (a : List Attribute) (k : Items) → IsName local → AllByRecursion IsSpellableAttribute a → AreSpellableItems k
    → encode_utf8_all (xml_text (item_chars (node rng_uri local a k))) ≡ xml_text (node rng_uri local a k)
unfolding encode
document_bytes local a k name h inner = both declaration_text (tag_front 0 (chars local) (xmlns rng_uri ∷ attributes_chars a) ++ (codes ">\n" ++ (items_text 1 (items_chars k) ++ end_tag (chars local)))) refl
    (both (tag_front 0 (chars local) (xmlns rng_uri ∷ attributes_chars a)) (codes ">\n" ++ (items_text 1 (items_chars k) ++ end_tag (chars local)))
    (front_bytes 0 local (xmlns rng_uri ∷ attributes_chars a) (xmlns rng_uri ∷ a) name (root_attributes_bytes a h))
    (both (codes ">\n") (items_text 1 (items_chars k) ++ end_tag (chars local)) refl (both (items_text 1 (items_chars k)) (end_tag (chars local)) (items_bytes k inner 1) (end_bytes local name))))
