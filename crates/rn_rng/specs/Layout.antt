-- The text of an element (XML 1.0 Fifth Edition, 2.1 to 2.4, 2.8, 2.11, 3.1, 3.3.3), in one layout: each tag has a line of its own, behind two spaces for each element
-- that is open, 64 at most; what holds a text has one line with both tags. A text is its UTF-8 bytes.
use Rattle.std.specs.Prelude.{ℕ, zero, suc, ◌+◌, Bool, ◌||◌, if◌then◌else◌, nat_eq, nat_lt, List, [], ◌∷◌, ◌++◌, flat_map, bytes_eq, codes}
use Rattle.rn_text.specs.Texts.{Text}
use Rattle.rn_pattern.specs.Document.{Attribute, Item, node, string, Items, no_items, more_items}

-- ---- references for characters

-- what holds a text: an element, or an attribute between double quotes
pub data Holder : Type 0 where
  in_element : Holder
  in_attribute : Holder

abbrev pub quote_reference : Holder → Text
quote_reference in_element = codes "\""
quote_reference in_attribute = codes "&quot;"

-- what is written for a byte: a reference where XML reads the byte as something else (2.4, 2.11, 3.3.3), else itself
abbrev pub reference : Holder → ℕ → Text
reference h b =
    if nat_eq b 38 then codes "&amp;"
    else if nat_eq b 60 then codes "&lt;"
    else if nat_eq b 62 then codes "&gt;"
    else if nat_eq b 34 then quote_reference h
    else if nat_eq b 9 then codes "&#x9;"
    else if nat_eq b 10 then codes "&#xA;"
    else if nat_eq b 13 then codes "&#xD;"
    else b ∷ []

abbrev pub escaped : Holder → Text → Text
escaped h s = flat_map (reference h) s

-- ---- tags (3.1)

-- the level of what an element of this level holds; lines of more than 32 elements that are open stand where those of 32 do
abbrev pub deeper : ℕ → ℕ
deeper n = if nat_lt n 32 then n + 1 else 32

-- two spaces for each level
abbrev pub indent : ℕ → Text
indent zero = []
indent (suc n) = 32 ∷ 32 ∷ indent n

-- ` NAME="VALUE"`
abbrev pub attribute_text : Attribute → Text
attribute_text a = codes " " ++ (a.local ++ (codes "=\"" ++ (escaped in_attribute a.content ++ codes "\"")))

abbrev pub attributes_text : List Attribute → Text
attributes_text = flat_map attribute_text

-- the indent and a tag without its end; n: its level
abbrev pub tag_front : (n : ℕ) → Text → List Attribute → Text
tag_front n local attributes = indent n ++ (codes "<" ++ (local ++ attributes_text attributes))

-- an end tag and the end of its line
abbrev pub end_tag : Text → Text
end_tag local = codes "</" ++ (local ++ codes ">\n")

-- ---- elements

-- the elements that hold a text
abbrev pub holds_text : Text → Bool
holds_text local = bytes_eq local (codes "name") || (bytes_eq local (codes "value") || bytes_eq local (codes "param"))

-- the text of items without elements
abbrev pub held_text : Items → Text
held_text no_items = []
held_text (more_items (string s) is) = escaped in_element s ++ held_text is
held_text (more_items (node uri local attributes content) is) = held_text is

-- the rest of an element that has a line of its own, behind the front of its start tag
abbrev pub one_line : Text → Items → Text
one_line local content = codes ">" ++ (held_text content ++ end_tag local)

-- n: the level of an item
abbrev mutual
  pub item_text : (n : ℕ) → Item → Text
  item_text n (string s) = escaped in_element s
  item_text n (node uri local attributes content) = tag_front n local attributes ++ (if holds_text local then one_line local content else rest_text n local content)

  -- the rest of an element behind the front of its start tag
  pub rest_text : (n : ℕ) → Text → Items → Text
  rest_text n local no_items = codes "/>\n"
  rest_text n local (more_items i is) = codes ">\n" ++ ((item_text (deeper n) i ++ items_text (deeper n) is) ++ (indent n ++ end_tag local))

  pub items_text : (n : ℕ) → Items → Text
  items_text n no_items = []
  items_text n (more_items i is) = item_text n i ++ items_text n is

-- ---- documents

-- the most bytes that the text of a schema may have: 64 MiB
abbrev pub max_xml : ℕ
max_xml = 67108864

-- the XML declaration (2.8)
abbrev pub declaration_text : Text
declaration_text = codes "<?xml version=\"1.0\" encoding=\"UTF-8\"?>\n"

-- the namespace of a root and of what it holds is declared on it (Namespaces in XML, section 6.2)
abbrev pub xmlns : Text → Attribute
xmlns uri = record { uri = []; local = codes "xmlns"; content = uri }

-- the document of a root whose elements are all of its namespace; the root has both tags
abbrev pub xml_text : Item → Text
xml_text (string s) = []
xml_text (node uri local attributes content) =
    declaration_text ++ (tag_front 0 local (xmlns uri ∷ attributes) ++ (codes ">\n" ++ (items_text 1 content ++ end_tag local)))
