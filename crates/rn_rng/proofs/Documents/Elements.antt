-- Elements are read as what they were written for, with the white space of their lines.
use Rattle.std.proofs.Common.{◌≡◌, ◌≢◌, ℕ, zero, suc, true, false, List, [], ◌∷◌, ◌++◌, refl, sym, ap, ◌∙◌, subst, append_assoc, append-nil}
use Rattle.std.specs.Prelude.{codes, bytes_eq, encode_utf8_all, ◌||◌, if◌then◌else◌}
use Rattle.std.specs.List.{list_all}
use Rattle.std.specs.Str.{IsUtf8, chars}
use Rattle.std.proofs.lemmas.Str.{encodes-chars}
use Rattle.std.proofs.lemmas.Bool.{cond-true, cond-false}
use Rattle.std.proofs.lemmas.Slice.Eq.{bytes_eq-Decides}
use Rattle.std.proofs.Math.Utf8.{encode}
use Rattle.rn_text.proofs.Words.TruthValues.{same_test}
use Rattle.rn_text.specs.Texts.{Text, is_white}
use Rattle.rn_pattern.specs.Document.{Attribute, Item, node, string, Items, no_items, more_items}
use Rattle.rn_assemble.specs.WritableTexts.{IsName}
use Rattle.rn_rng.specs.Translation.{rng_uri}
use Rattle.rn_rng.specs.Layout.{in_element, escaped, deeper, indent, attributes_text, tag_front, end_tag, holds_text, held_text, one_line, item_text, rest_text, items_text}
use Rattle.rn_rng.specs.XmlCharacters.{IsCharacters}
use Rattle.rn_rng.specs.XmlTags.{default_inside, ordinary}
use Rattle.rn_rng.specs.XmlDocument as d
use Rattle.rn_rng.specs.XmlDocument.{with_string, IsElement, IsContent}
use Rattle.rn_rng.specs.SpellableItems.{AreSpellableAttributes, IsSpellableText, IsSpellableItem, AreSpellableItems, line, block}
use Rattle.rn_rng.specs.SpellableItems as s
use Rattle.rn_text.proofs.Words.AppendedLists.{all_append}
use Rattle.rn_rng.proofs.Documents.Escapes.{escaped_characters, white_characters}
use Rattle.rn_rng.proofs.Documents.Tags.{attributes_chars, all_written, same_default, same_attributes, front_read, end_read, bytes_same, text_of_chars}

-- ---- the item whose texts are lists of characters

abbrev mutual
  pub item_chars : Item → Item
  item_chars (node uri local attributes content) = node uri (chars local) (attributes_chars attributes) (items_chars content)
  item_chars (string t) = string (chars t)

  pub items_chars : Items → Items
  items_chars no_items = no_items
  items_chars (more_items i is) = more_items (item_chars i) (items_chars is)

-- ---- the item with the white space between its lines; n: its level

-- m: the level of the end tag; w: the white space before
abbrev mutual
  pub spaced : (n : ℕ) → Item → Item
  spaced n (string t) = string t
  spaced n (node uri local attributes content) = node uri local attributes (if holds_text local then content else spaced_within n content)

  pub spaced_within : (n : ℕ) → Items → Items
  spaced_within n no_items = no_items
  spaced_within n (more_items i is) = with_string (10 ∷ indent (deeper n)) (more_items (spaced (deeper n) i) (spaced_in (10 ∷ []) (deeper n) n is))

  pub spaced_in : (w : List ℕ) (n m : ℕ) → Items → Items
  spaced_in w n m no_items = with_string (w ++ indent m) no_items
  spaced_in w n m (more_items i is) = with_string (w ++ indent n) (more_items (spaced n i) (spaced_in (10 ∷ []) n m is))

pub white_indent : (n : ℕ) → list_all is_white (indent n) ≡ true
white_indent zero = refl
white_indent (suc n) = white_indent n

-- ---- a text of one line

-- a string of characters that are some is a child
string_is : (cs : List ℕ) (k : Items) → cs ≢ [] → with_string cs k ≡ more_items (string (encode_utf8_all cs)) k
string_is [] k some = absurd (some refl)
string_is (c ∷ cs) k some = refl

no_chars : (t : Text) → IsUtf8 t → t ≢ [] → chars t ≢ []
no_chars t u some e = some (sym (encodes-chars t u) ∙ ap encode_utf8_all e)

-- what a line holds is read
held_read : (local : Text) (content : Items) (rest : List ℕ) → IsSpellableText local content
    → IsContent rng_uri (held_text (items_chars content) ++ rest) content rest
held_read local content rest s.none = d.last {text = []} (escaped_characters [] rest)
held_read local content rest (s.one {s = t} x some white) =
    let is : with_string (chars t) no_items ≡ more_items (string t) no_items = string_is (chars t) no_items (no_chars t x.utf8 some) ∙ ap (λ u. more_items (string u) no_items) (encodes-chars t x.utf8) in
    subst (λ k. IsContent rng_uri ((escaped in_element (chars t) ++ []) ++ rest) k rest) is
    (d.last (subst (λ cs. IsCharacters (cs ++ rest) (chars t) rest) (sym (append-nil (escaped in_element (chars t)))) (escaped_characters (chars t) rest)))

-- ---- an element

-- the item that a tag with these attributes gives
item_is : (local : Text) (a : List Attribute) (k : Items) → IsName local → AreSpellableAttributes a
    → node (default_inside rng_uri (all_written a)) (encode_utf8_all (chars local)) (ordinary (all_written a)) k ≡ node rng_uri local a k
item_is local a k n h = ap (λ u. node u (encode_utf8_all (chars local)) (ordinary (all_written a)) k) (same_default rng_uri a h.each)
    ∙ (ap (λ l. node rng_uri l (ordinary (all_written a)) k) (encodes-chars local n.utf8) ∙ ap (λ b. node rng_uri local b k) (same_attributes a h.each))

-- the front of a tag
abbrev pub tag_text : List ℕ → List Attribute → List ℕ
tag_text local a = codes "<" ++ (local ++ attributes_text a)

-- an element with both tags
pub tags_read : (local : Text) (a : List Attribute) (k : Items) (inside rest : List ℕ) → IsName local → AreSpellableAttributes a
    → IsContent rng_uri (inside ++ (end_tag (chars local) ++ rest)) k (end_tag (chars local) ++ rest)
    → IsElement rng_uri (tag_text (chars local) (attributes_chars a) ++ (62 ∷ (inside ++ (end_tag (chars local) ++ rest)))) (node rng_uri local a k) (10 ∷ rest)
tags_read local a k inside rest n h content = subst (λ x. IsElement rng_uri (tag_text (chars local) (attributes_chars a) ++ (62 ∷ (inside ++ (end_tag (chars local) ++ rest)))) x (10 ∷ rest)) (item_is local a k n h)
    (d.tags (front_read (chars local) a (62 ∷ (inside ++ (end_tag (chars local) ++ rest))) n.is h)
    (subst (λ u. IsContent u (inside ++ (end_tag (chars local) ++ rest)) k (end_tag (chars local) ++ rest)) (sym (same_default rng_uri a h.each)) content)
    (end_read (chars local) rest))

-- an element without content
empty_read : (local : Text) (a : List Attribute) (rest : List ℕ) → IsName local → AreSpellableAttributes a
    → IsElement rng_uri (tag_text (chars local) (attributes_chars a) ++ (47 ∷ 62 ∷ rest)) (node rng_uri local a no_items) rest
empty_read local a rest n h = subst (λ x. IsElement rng_uri (tag_text (chars local) (attributes_chars a) ++ (47 ∷ 62 ∷ rest)) x rest) (item_is local a no_items n h)
    (d.empty (front_read (chars local) a (47 ∷ 62 ∷ rest) n.is h))

-- an item in its line: the indent, and what is read as the item
pub record IsRead (n : ℕ) (x : Item) : Type 0 where
  pub own : List ℕ
  pub are : item_text n (item_chars x) ≡ indent n ++ own
  pub reads : (rest : List ℕ) → IsElement rng_uri (own ++ rest) (spaced n x) (10 ∷ rest)

-- the text of a name holds a text as its characters do
same_word : (local : Text) (w : List ℕ) → IsName local → encode_utf8_all w ≡ w → chars w ≡ w → bytes_eq (chars local) w ≡ bytes_eq local w
same_word local w n e c = same_test (bytes_eq (chars local) w) (bytes_eq local w)
    (λ h. (bytes_eq-Decides local w).1 (text_of_chars local w n.utf8 (bytes_same (chars local) w h) ∙ e))
    (λ h. (bytes_eq-Decides (chars local) w).1 (ap chars (bytes_same local w h) ∙ c))

pub holds_same : (local : Text) → IsName local → holds_text (chars local) ≡ holds_text local
unfolding encode chars
holds_same local n = ap (λ x. x || (bytes_eq (chars local) (codes "value") || bytes_eq (chars local) (codes "param"))) (same_word local (codes "name") n refl refl)
    ∙ (ap (λ x. bytes_eq local (codes "name") || (x || bytes_eq (chars local) (codes "param"))) (same_word local (codes "value") n refl refl)
    ∙ ap (λ x. bytes_eq local (codes "name") || (bytes_eq local (codes "value") || x)) (same_word local (codes "param") n refl refl))

-- the text of an element, with and without a text
pub line_text : (n : ℕ) (uri local : Text) (a : List Attribute) (k : Items) → holds_text local ≡ true → item_text n (node uri local a k) ≡ tag_front n local a ++ one_line local k
line_text n uri local a k e = ap (λ t. tag_front n local a ++ t) (cond-true (holds_text local) (one_line local k) (rest_text n local k) e)

pub block_text : (n : ℕ) (uri local : Text) (a : List Attribute) (k : Items) → holds_text local ≡ false → item_text n (node uri local a k) ≡ tag_front n local a ++ rest_text n local k
block_text n uri local a k e = ap (λ t. tag_front n local a ++ t) (cond-false (holds_text local) (one_line local k) (rest_text n local k) e)

pub spaced_line : (n : ℕ) (local : Text) (a : List Attribute) (k : Items) → holds_text local ≡ true → spaced n (node rng_uri local a k) ≡ node rng_uri local a k
spaced_line n local a k e = ap (λ c. node rng_uri local a c) (cond-true (holds_text local) k (spaced_within n k) e)

pub spaced_block : (n : ℕ) (local : Text) (a : List Attribute) (k : Items) → holds_text local ≡ false → spaced n (node rng_uri local a k) ≡ node rng_uri local a (spaced_within n k)
spaced_block n local a k e = ap (λ c. node rng_uri local a c) (cond-false (holds_text local) k (spaced_within n k) e)

line_parts : (tag local held rest : List ℕ) → (tag ++ (codes ">" ++ (held ++ end_tag local))) ++ rest ≡ tag ++ (62 ∷ (held ++ (end_tag local ++ rest)))
line_parts tag local held rest = append_assoc tag (codes ">" ++ (held ++ end_tag local)) rest ∙ ap (λ t. tag ++ (62 ∷ t)) (append_assoc held (end_tag local) rest)

line_read : (n : ℕ) (local : Text) (a : List Attribute) (content : Items) → IsName local → AreSpellableAttributes a → holds_text local ≡ true → IsSpellableText local content
    → IsRead n (node rng_uri local a content)
line_read n local a content name h holds kept = record {
  own = tag_text (chars local) (attributes_chars a) ++ one_line (chars local) (items_chars content);
  are = line_text n rng_uri (chars local) (attributes_chars a) (items_chars content) (holds_same local name ∙ holds)
      ∙ append_assoc (indent n) (tag_text (chars local) (attributes_chars a)) (one_line (chars local) (items_chars content));
  reads = λ rest. subst (λ x. IsElement rng_uri ((tag_text (chars local) (attributes_chars a) ++ one_line (chars local) (items_chars content)) ++ rest) x (10 ∷ rest)) (sym (spaced_line n local a content holds))
      (subst (λ cs. IsElement rng_uri cs (node rng_uri local a content) (10 ∷ rest)) (sym (line_parts (tag_text (chars local) (attributes_chars a)) (chars local) (held_text (items_chars content)) rest))
      (tags_read local a content (held_text (items_chars content)) rest name h (held_read local content (end_tag (chars local) ++ rest) kept)));
}

-- items in lines behind white space, and the indent of the end tag
abbrev pub AreRead : (n m : ℕ) → Items → Type 0
AreRead n m k = (w rest : List ℕ) → list_all is_white w ≡ true → IsContent rng_uri (w ++ (items_text n (items_chars k) ++ (indent m ++ rest))) (spaced_in w n m k) rest

empty_block : (n : ℕ) (local : Text) (a : List Attribute) → IsName local → AreSpellableAttributes a → holds_text local ≡ false → IsRead n (node rng_uri local a no_items)
empty_block n local a name h holds = record {
  own = tag_text (chars local) (attributes_chars a) ++ codes "/>\n";
  are = block_text n rng_uri (chars local) (attributes_chars a) no_items (holds_same local name ∙ holds) ∙ append_assoc (indent n) (tag_text (chars local) (attributes_chars a)) (codes "/>\n");
  reads = λ rest. subst (λ x. IsElement rng_uri ((tag_text (chars local) (attributes_chars a) ++ codes "/>\n") ++ rest) x (10 ∷ rest)) (sym (spaced_block n local a no_items holds))
      (subst (λ cs. IsElement rng_uri cs (node rng_uri local a no_items) (10 ∷ rest)) (sym (append_assoc (tag_text (chars local) (attributes_chars a)) (codes "/>\n") rest))
      (empty_read local a (10 ∷ rest) name h));
}

-- what is behind the front of a start tag; lines: the lines of what it holds
block_parts : (n : ℕ) (tag local lines rest : List ℕ) → (tag ++ (codes ">\n" ++ (lines ++ (indent n ++ end_tag local)))) ++ rest ≡ tag ++ (62 ∷ ((10 ∷ (lines ++ indent n)) ++ (end_tag local ++ rest)))
block_parts n tag local lines rest = append_assoc tag (codes ">\n" ++ (lines ++ (indent n ++ end_tag local))) rest
    ∙ ap (λ t. tag ++ (62 ∷ 10 ∷ t)) (append_assoc lines (indent n ++ end_tag local) rest
    ∙ (ap (λ t. lines ++ t) (append_assoc (indent n) (end_tag local) rest) ∙ sym (append_assoc lines (indent n) (end_tag local ++ rest))))

full_block : (n : ℕ) (local : Text) (a : List Attribute) (i : Item) (is : Items) → IsName local → AreSpellableAttributes a → holds_text local ≡ false → AreRead (deeper n) n (more_items i is)
    → IsRead n (node rng_uri local a (more_items i is))
full_block n local a i is name h holds inner = record {
  own = tag_text (chars local) (attributes_chars a) ++ rest_text n (chars local) (items_chars (more_items i is));
  are = block_text n rng_uri (chars local) (attributes_chars a) (items_chars (more_items i is)) (holds_same local name ∙ holds)
      ∙ append_assoc (indent n) (tag_text (chars local) (attributes_chars a)) (rest_text n (chars local) (items_chars (more_items i is)));
  reads = λ rest. subst (λ x. IsElement rng_uri ((tag_text (chars local) (attributes_chars a) ++ rest_text n (chars local) (items_chars (more_items i is))) ++ rest) x (10 ∷ rest))
      (sym (spaced_block n local a (more_items i is) holds))
      (subst (λ cs. IsElement rng_uri cs (node rng_uri local a (spaced_within n (more_items i is))) (10 ∷ rest))
      (sym (block_parts n (tag_text (chars local) (attributes_chars a)) (chars local) (items_text (deeper n) (items_chars (more_items i is))) rest))
      (tags_read local a (spaced_within n (more_items i is)) (10 ∷ (items_text (deeper n) (items_chars (more_items i is)) ++ indent n)) rest name h
      (subst (λ t. IsContent rng_uri (10 ∷ t) (spaced_within n (more_items i is)) (end_tag (chars local) ++ rest))
      (sym (append_assoc (items_text (deeper n) (items_chars (more_items i is))) (indent n) (end_tag (chars local) ++ rest)))
      (inner (10 ∷ []) (end_tag (chars local) ++ rest) refl))));
}

block_read : (n : ℕ) (local : Text) (a : List Attribute) (content : Items) → IsName local → AreSpellableAttributes a → holds_text local ≡ false → AreRead (deeper n) n content
    → IsRead n (node rng_uri local a content)
block_read n local a no_items name h holds inner = empty_block n local a name h holds
block_read n local a (more_items i is) name h holds inner = full_block n local a i is name h holds inner

none_read : (n m : ℕ) → AreRead n m no_items
none_read n m w rest white = d.last (subst (λ cs. IsCharacters cs (w ++ indent m) rest) (append_assoc w (indent m) rest)
    (white_characters (w ++ indent m) rest (all_append is_white w (indent m) white (white_indent m))))

more_parts : (w white item own lines behind : List ℕ) → item ≡ white ++ own → w ++ ((item ++ lines) ++ behind) ≡ (w ++ white) ++ (own ++ (lines ++ behind))
more_parts w white item own lines behind e = ap (λ t. w ++ t) (append_assoc item lines behind ∙ (ap (λ t. t ++ (lines ++ behind)) e ∙ append_assoc white own (lines ++ behind)))
    ∙ sym (append_assoc w white (own ++ (lines ++ behind)))

more_read : (n m : ℕ) (i : Item) (is : Items) → IsRead n i → AreRead n m is → AreRead n m (more_items i is)
more_read n m i is first others w rest white =
    subst (λ cs. IsContent rng_uri cs (spaced_in w n m (more_items i is)) rest)
    (sym (more_parts w (indent n) (item_text n (item_chars i)) first.own (items_text n (items_chars is)) (indent m ++ rest) first.are))
    (d.more (white_characters (w ++ indent n) (first.own ++ (items_text n (items_chars is) ++ (indent m ++ rest))) (all_append is_white w (indent n) white (white_indent n)))
    (first.reads (items_text n (items_chars is) ++ (indent m ++ rest))) (others (10 ∷ []) rest refl))

mutual
  pub item_read : (x : Item) → IsSpellableItem x → (n : ℕ) → IsRead n x
  item_read x (line {local = local} {attributes = attributes} {content = content} name a holds text) n = line_read n local attributes content name a holds text
  item_read x (block {local = local} {attributes = attributes} {content = content} name a holds inner) n = block_read n local attributes content name a holds (items_read content inner (deeper n) n)

  pub items_read : (k : Items) → AreSpellableItems k → (n m : ℕ) → AreRead n m k
  items_read k s.none n m = none_read n m
  items_read k (s.more {x = y} {k = others} first behind) n m = more_read n m y others (item_read y first n) (items_read others behind n m)
