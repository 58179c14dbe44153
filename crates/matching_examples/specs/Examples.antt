-- Grammars, tables of datatypes and documents for which section 6 of RELAX NG 2001 says what is valid.
use Rattle.std.specs.Prelude.{List, [], ◌∷◌, ◌++◌, codes}
use Rattle.rn_pattern.specs.Tree.{NameTree, any_name_but, ns_name, ns_name_but, name, name_choice, name_trees_of, Tree, empty, text, ref, value, datum, datum_but, list, attribute, element, one_or_more, group, interleave, choice, trees_of}
use Rattle.rn_text.specs.Texts.{Text}
use Rattle.rn_pattern.specs.Document.{Attribute, Item, Items, node, string, no_items, more_items, IsDocument}
use Rattle.rn_pattern.specs.Datatype.{Table}
use Rattle.rn_pattern.specs.Matching.{Grammar, IsValid}

-- a document that is valid, and one that is not
abbrev pub Accepts : Grammar → Table → Item → Type 0
Accepts G T doc = IsDocument doc × IsValid G T doc

abbrev pub Rejects : Grammar → Table → Item → Type 0
Rejects G T doc = IsDocument doc × ¬ IsValid G T doc

-- a grammar of one pattern, and patterns by names in no namespace
abbrev pub only : Tree → Grammar
only p = record { start = p; definitions = [] }

abbrev pub plain : Text → NameTree
plain x = name [] x

abbrev pub holding : Text → Tree → Tree
holding x p = element (plain x) p

abbrev pub in_turn : List Tree → Tree
in_turn ps = group (trees_of ps)

abbrev pub in_any_order : List Tree → Tree
in_any_order ps = interleave (trees_of ps)

abbrev pub one_of : List Tree → Tree
one_of ps = choice (trees_of ps)

abbrev pub repeated : Tree → Tree
repeated p = one_of (one_or_more p ∷ empty ∷ [])

-- a value and any text of the built-in types
abbrev pub string_is : Text → Tree
string_is s = value [] (codes "string") s

abbrev pub token_is : Text → Tree
token_is s = value [] (codes "token") s

abbrev pub any_string : Tree
any_string = datum [] (codes "string") []

-- the values x, and x y
abbrev pub token_x : Tree
token_x = token_is (codes "x")

abbrev pub token_x_y : Tree
token_x_y = token_is (codes "x y")

abbrev pub string_x_y : Tree
string_x_y = string_is (codes "x y")

-- a type that the built-in library does not have
abbrev pub unknown_type : Tree
unknown_type = datum [] (codes "int") []

abbrev pub unknown_value : Tree
unknown_value = value [] (codes "int") (codes "1")

-- elements and attributes in no namespace
abbrev pub items_from : List Item → Items
items_from [] = no_items
items_from (i ∷ is) = more_items i (items_from is)

abbrev pub tag_with : Text → List Attribute → List Item → Item
tag_with x a m = node [] x a (items_from m)

abbrev pub tag : Text → List Item → Item
tag x m = tag_with x [] m

abbrev pub leaf : Text → Item
leaf x = tag x []

abbrev pub leaf_in : Text → Text → Item
leaf_in u x = node u x [] no_items

abbrev pub said : Text → Text → Attribute
said x s = record { uri = []; local = x; content = s }

-- <a/>, <b/> and <doc/>
abbrev pub bare_a : Item
bare_a = leaf (codes "a")

abbrev pub bare_b : Item
bare_b = leaf (codes "b")

abbrev pub bare_doc : Item
bare_doc = leaf (codes "doc")

-- x="1", y="2" and z="3"
abbrev pub x_one : Attribute
x_one = said (codes "x") (codes "1")

abbrev pub y_two : Attribute
y_two = said (codes "y") (codes "2")

abbrev pub z_three : Attribute
z_three = said (codes "z") (codes "3")

-- a space, a tab, a line feed and a carriage return
abbrev pub blank : Text
blank = 32 ∷ 9 ∷ 10 ∷ 13 ∷ []

-- the UTF-8 bytes of a no-break space
abbrev pub no_break_space : Text
no_break_space = 194 ∷ 160 ∷ []

-- x and y, with white space round them
abbrev pub padded_x_y : Text
padded_x_y = blank ++ codes "x" ++ blank ++ codes "y" ++ blank

abbrev pub padded_x : Text
padded_x = blank ++ codes "x" ++ blank

-- no datatype library
abbrev pub no_library : Table
no_library = record { allowed = []; equal = [] }

-- start = doc, doc = element a { empty } | element b { text }
abbrev pub a_or_b : Grammar
a_or_b = record { start = ref (codes "doc"); definitions = (codes "doc", one_of (holding (codes "a") empty ∷ holding (codes "b") text ∷ [])) ∷ [] }

-- <b>text</b>
abbrev pub b_of_text : Item
b_of_text = tag (codes "b") (string (codes "text") ∷ [])

-- <a> of this text
abbrev pub a_of : Text → Item
a_of s = tag (codes "a") (string s ∷ [])

-- <a> with these attributes
abbrev pub a_with : List Attribute → Item
a_with a = tag_with (codes "a") a []

-- <a x="1"/>, and with y="2" before it
abbrev pub a_with_x : Item
a_with_x = a_with (x_one ∷ [])

abbrev pub a_with_y_x : Item
a_with_y_x = a_with (y_two ∷ x_one ∷ [])

-- <b x="1"/>
abbrev pub b_with_x : Item
b_with_x = tag_with (codes "b") (x_one ∷ []) []

-- <b><a/></b>, and <a><b/></a>
abbrev pub b_of_a : Item
b_of_a = tag (codes "b") (bare_a ∷ [])

abbrev pub a_of_b : Item
a_of_b = tag (codes "a") (bare_b ∷ [])

-- start = element doc { element a { empty }, element b { empty } }
abbrev pub a_then_b : Grammar
a_then_b = only (holding (codes "doc") (in_turn (holding (codes "a") empty ∷ holding (codes "b") empty ∷ [])))

-- start = element doc { element a { empty } & element b { empty } }
abbrev pub a_and_b : Grammar
a_and_b = only (holding (codes "doc") (in_any_order (holding (codes "a") empty ∷ holding (codes "b") empty ∷ [])))

-- start = element doc { element a { empty } & element a { empty } & element b { empty } }; section 7.4 forbids it in a schema, 6.2.6 says what it matches
abbrev pub a_twice_and_b : Grammar
a_twice_and_b = only (holding (codes "doc") (in_any_order (holding (codes "a") empty ∷ holding (codes "a") empty ∷ holding (codes "b") empty ∷ [])))

-- <doc> with these inside
abbrev pub doc_of : List Item → Item
doc_of m = tag (codes "doc") m

-- <doc><a/><b/></doc>
abbrev pub doc_a_b : Item
doc_a_b = doc_of (bare_a ∷ bare_b ∷ [])

-- <doc><b/><a/></doc>
abbrev pub doc_b_a : Item
doc_b_a = doc_of (bare_b ∷ bare_a ∷ [])

-- <doc><a/></doc>
abbrev pub doc_a : Item
doc_a = doc_of (bare_a ∷ [])

-- <doc><a/><a/></doc>
abbrev pub doc_a_a : Item
doc_a_a = doc_of (bare_a ∷ bare_a ∷ [])

-- <doc><a/><b/><a/></doc>
abbrev pub doc_a_b_a : Item
doc_a_b_a = doc_of (bare_a ∷ bare_b ∷ bare_a ∷ [])

-- <doc><a/><a/><a/><b/></doc>
abbrev pub doc_a_a_a_b : Item
doc_a_a_a_b = doc_of (bare_a ∷ bare_a ∷ bare_a ∷ bare_b ∷ [])

-- <doc> and the text, <a/>, the text, <b/>, the text
abbrev pub doc_padded_by : Text → Item
doc_padded_by s = doc_of (string s ∷ bare_a ∷ string s ∷ bare_b ∷ string s ∷ [])

-- <doc>one<a/>two</doc>
abbrev pub doc_text_a_text : Item
doc_text_a_text = doc_of (string (codes "one") ∷ bare_a ∷ string (codes "two") ∷ [])

-- <doc>one<b/></doc>
abbrev pub doc_text_b : Item
doc_text_b = doc_of (string (codes "one") ∷ bare_b ∷ [])

-- <doc>, the text, <a/><b/></doc>, and <doc><a/><b/>, the text, </doc>
abbrev pub doc_led_by : Text → Item
doc_led_by s = doc_of (string s ∷ bare_a ∷ bare_b ∷ [])

abbrev pub doc_ended_by : Text → Item
doc_ended_by s = doc_of (bare_a ∷ bare_b ∷ string s ∷ [])

-- <doc x="1"><a/><b/></doc>
abbrev pub doc_with_x : Item
doc_with_x = tag_with (codes "doc") (x_one ∷ []) (bare_a ∷ bare_b ∷ [])

-- start = element doc { text & element a { empty }* }
abbrev pub mixed_a : Grammar
mixed_a = only (holding (codes "doc") (in_any_order (text ∷ repeated (holding (codes "a") empty) ∷ [])))

-- start = element doc { element a { empty }+ }
abbrev pub some_a : Grammar
some_a = only (holding (codes "doc") (one_or_more (holding (codes "a") empty)))

-- start = element doc { element a { empty }* }
abbrev pub any_a : Grammar
any_a = only (holding (codes "doc") (repeated (holding (codes "a") empty)))

-- <a x="1"> of this text
abbrev pub a_with_x_of : Text → Item
a_with_x_of s = tag_with (codes "a") (x_one ∷ []) (string s ∷ [])

-- start = element a { P }
abbrev pub a_holding : Tree → Grammar
a_holding p = only (holding (codes "a") p)

-- list { token "x", token "y" }
abbrev pub x_then_y : Tree
x_then_y = list (in_turn (token_x ∷ token_is (codes "y") ∷ []))

-- list { token "x"+ }
abbrev pub some_x : Tree
some_x = list (one_or_more token_x)

-- string - string "x", and token - token "x"
abbrev pub string_but_x : Tree
string_but_x = datum_but [] (codes "string") [] (string_is (codes "x"))

abbrev pub token_but_x : Tree
token_but_x = datum_but [] (codes "token") [] token_x

-- int "1", and int, of the library urn:numbers
abbrev pub one : Tree
one = value (codes "urn:numbers") (codes "int") (codes "1")

abbrev pub any_int : Tree
any_int = datum (codes "urn:numbers") (codes "int") []

-- int { minInclusive = "1" }
abbrev pub positive : Tree
positive = datum (codes "urn:numbers") (codes "int") ((codes "minInclusive", codes "1") ∷ [])

-- the texts 0, 1 and 01 are an int, and 1 and 01 are one number
abbrev pub numbers : Table
numbers = record {
  allowed = (codes "urn:numbers", codes "int", [], codes "0") ∷ (codes "urn:numbers", codes "int", [], codes "1") ∷ (codes "urn:numbers", codes "int", [], codes "01")
      ∷ (codes "urn:numbers", codes "int", (codes "minInclusive", codes "1") ∷ [], codes "1") ∷ [];
  equal = (codes "urn:numbers", codes "int", codes "1", codes "1") ∷ (codes "urn:numbers", codes "int", codes "1", codes "01") ∷ [];
}

-- the texts 0, 1 and 01 are an int, and no other text is the same number as 1
abbrev pub spellings : Table
spellings = record numbers { equal = (codes "urn:numbers", codes "int", codes "1", codes "1") ∷ [] }

-- attribute x { text }, attribute y { text }
abbrev pub x_and_y : Tree
x_and_y = in_turn (attribute (plain (codes "x")) text ∷ attribute (plain (codes "y")) text ∷ [])

-- attribute x { text } & attribute y { text }
abbrev pub x_beside_y : Tree
x_beside_y = in_any_order (attribute (plain (codes "x")) text ∷ attribute (plain (codes "y")) text ∷ [])

-- attribute x { text }, string
abbrev pub x_and_string : Tree
x_and_string = in_turn (attribute (plain (codes "x")) text ∷ any_string ∷ [])

-- attribute * - x { text }+
abbrev pub all_but_x : Tree
all_but_x = one_or_more (attribute (any_name_but (plain (codes "x"))) text)

-- attribute x { token "1" }
abbrev pub x_is_one : Tree
x_is_one = attribute (plain (codes "x")) (token_is (codes "1"))

-- attribute x { empty }
abbrev pub x_is_empty : Tree
x_is_empty = attribute (plain (codes "x")) empty

-- the same name as x has, in the namespace urn:u
abbrev pub x_in_u : Attribute
x_in_u = record x_one { uri = codes "urn:u" }

-- start = element C { empty }
abbrev pub named_by : NameTree → Grammar
named_by c = only (element c empty)

-- the names of the namespace urn:u, those of them that aren't a, and all names but a in no namespace
abbrev pub of_u : NameTree
of_u = ns_name (codes "urn:u")

abbrev pub of_u_but_a : NameTree
of_u_but_a = ns_name_but (codes "urn:u") (name (codes "urn:u") (codes "a"))

abbrev pub all_but_a : NameTree
all_but_a = any_name_but (plain (codes "a"))

-- all names but those of urn:u
abbrev pub all_but_u : NameTree
all_but_u = any_name_but of_u

-- a, or a name of urn:u
abbrev pub a_or_of_u : NameTree
a_or_of_u = name_choice (name_trees_of (plain (codes "a") ∷ of_u ∷ []))

-- a in the namespace urn:u, and b in it and in another
abbrev pub a_in_u : Item
a_in_u = leaf_in (codes "urn:u") (codes "a")

abbrev pub b_in_u : Item
b_in_u = leaf_in (codes "urn:u") (codes "b")

abbrev pub b_in_v : Item
b_in_v = leaf_in (codes "urn:v") (codes "b")

-- start = first, first = second | element b { empty }, second = element a { empty }
abbrev pub through_two : Grammar
through_two = record {
  start = ref (codes "first");
  definitions = (codes "first", one_of (ref (codes "second") ∷ holding (codes "b") empty ∷ [])) ∷ (codes "second", holding (codes "a") empty) ∷ [];
}

-- start = tree, tree = element doc { (tree | leaf)* }, leaf = element a { empty }
abbrev pub nested : Grammar
nested = record {
  start = ref (codes "tree");
  definitions = (codes "tree", holding (codes "doc") (repeated (one_of (ref (codes "tree") ∷ ref (codes "leaf") ∷ [])))) ∷ (codes "leaf", holding (codes "a") empty) ∷ [];
}

-- <doc><doc><a/></doc><a/></doc>
abbrev pub doc_doc_a_a : Item
doc_doc_a_a = doc_of (doc_of (bare_a ∷ []) ∷ bare_a ∷ [])

-- <doc><doc><b/></doc></doc>
abbrev pub doc_doc_b : Item
doc_doc_b = doc_of (doc_of (bare_b ∷ []) ∷ [])
