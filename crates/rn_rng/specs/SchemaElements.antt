-- Parts of the elements of a schema in the XML syntax (RELAX NG 2001, 3): what an element is, its attributes, its texts, white space (4.2) and names with a prefix (4.10).
-- An annotation (4.1) is an element or attribute of another namespace; here there is none, and an element of another namespace is no part of a schema.
use Rattle.std.specs.Prelude.{ℕ, Bool, true, false, ◌&&◌, ◌==◌, if◌then◌else◌, List, [], ◌∷◌, reverse, Option, Some, None, option_map, unwrap_or, bytes_eq, codes}
use Rattle.std.specs.List.{list_all}
use Rattle.rn_text.specs.Texts.{Text, is_white}
use Rattle.rn_pattern.specs.Document.{Attribute, Item, node, string, Items, no_items, more_items}
use Rattle.rn_pattern.specs.Tree.{NameTree, name}
use Rattle.rn_syntax.specs.Places.{xml_uri}
use Rattle.rn_rng.specs.Translation.{rng_uri}

-- ---- attributes

abbrev pub is_attribute : Text → Attribute → Bool
is_attribute x a = bytes_eq a.uri [] && bytes_eq a.local x

-- the value of the attribute x, which is in no namespace
abbrev pub attribute_value : Text → List Attribute → Option Text
attribute_value x [] = None
attribute_value x (a ∷ others) = if is_attribute x a then Some a.content else attribute_value x others

-- ---- white space (4.2)

-- without the white space at its front
abbrev pub without_front : Text → Text
without_front [] = []
without_front (c ∷ cs) = if is_white c then without_front cs else c ∷ cs

-- without the white space at either end: so are names, types, methods of combining and what `name` holds
abbrev pub trimmed : Text → Text
trimmed s = reverse (without_front (reverse (without_front s)))

-- a string of white space counts for nothing among the children of an element, but for those of `value` and `param`
abbrev pub is_space : Item → Bool
is_space (string s) = list_all is_white s
is_space (node u l attributes is) = false

-- the text that an element holds; no two strings of a document stand side by side
abbrev pub held_string : Items → Option Text
held_string no_items = Some []
held_string (more_items (string s) no_items) = Some s
held_string is = None

-- the value of an attribute that is a name, a type or a method
abbrev pub trimmed_value : Text → List Attribute → Option Text
trimmed_value x attributes = option_map trimmed (attribute_value x attributes)

-- ---- what is inherited

-- 4.3: the library of datatypes is the nearest `datatypeLibrary`; library: the nearest one around. A URI is taken as it is written, as of the compact syntax:
-- characters that no URI holds are not escaped
abbrev pub library_in : (library : Text) → List Attribute → Text
library_in library attributes = unwrap_or (attribute_value (codes "datatypeLibrary") attributes) library

-- 4.9: a name has the nearest `ns`; ns: the nearest one around, or nothing where there is none
abbrev pub ns_in : (ns : Text) → List Attribute → Text
ns_in ns attributes = unwrap_or (attribute_value (codes "ns") attributes) ns

-- ---- names with a prefix (4.10)

abbrev pub in_front : ℕ → Text × Text → Text × Text
in_front c p = (c ∷ p.0, p.1)

-- what is before the first colon, and what is behind it
abbrev pub prefix_and_local : Text → Option (Text × Text)
prefix_and_local [] = None
prefix_and_local (c ∷ cs) = if c == 58 then Some ([], cs) else option_map (in_front c) (prefix_and_local cs)

-- a prefix is bound where the name stands: here `xml` alone is, which needs no declaration (Namespaces in XML, 3)
abbrev pub prefixed_name : Text × Text → Option NameTree
prefixed_name p = if bytes_eq p.0 (codes "xml") then Some (name xml_uri p.1) else None

-- the name that a text is; without a prefix it is in the namespace ns
abbrev pub split_name : (ns : Text) → Option (Text × Text) → Text → Option NameTree
split_name ns (Some p) x = prefixed_name p
split_name ns None x = Some (name ns x)

abbrev pub qualified_name : (ns : Text) → Text → Option NameTree
qualified_name ns x = split_name ns (prefix_and_local x) x

-- ---- elements

-- the elements of section 3 that patterns, name classes and grammars have, but for those that 4.5 to 4.7 and nested grammars need
pub data Kind : Type 0 where
  element attribute group interleave choice optional zero_or_more one_or_more list mixed ref empty text value datum not_allowed : Kind
  any_name ns_name name_of except param : Kind
  grammar start define div : Kind
  -- no element of a schema, or one of the others
  other : Kind

abbrev pub kinds : List (Text × Kind)
kinds =
    (codes "element", element) ∷ (codes "attribute", attribute) ∷ (codes "group", group) ∷ (codes "interleave", interleave) ∷ (codes "choice", choice)
    ∷ (codes "optional", optional) ∷ (codes "zeroOrMore", zero_or_more) ∷ (codes "oneOrMore", one_or_more) ∷ (codes "list", list) ∷ (codes "mixed", mixed)
    ∷ (codes "ref", ref) ∷ (codes "empty", empty) ∷ (codes "text", text) ∷ (codes "value", value) ∷ (codes "data", datum) ∷ (codes "notAllowed", not_allowed)
    ∷ (codes "anyName", any_name) ∷ (codes "nsName", ns_name) ∷ (codes "name", name_of) ∷ (codes "except", except) ∷ (codes "param", param)
    ∷ (codes "grammar", grammar) ∷ (codes "start", start) ∷ (codes "define", define) ∷ (codes "div", div) ∷ []

abbrev pub kind_in : List (Text × Kind) → Text → Kind
kind_in [] l = other
kind_in (row ∷ rows) l = if bytes_eq row.0 l then row.1 else kind_in rows l

-- what an element of this name is
abbrev pub kind_of : Text → Text → Kind
kind_of u l = if bytes_eq u rng_uri then kind_in kinds l else other

abbrev pub is_except_kind : Kind → Bool
is_except_kind except = true
is_except_kind _ = false

abbrev pub is_except : Item → Bool
is_except (string s) = false
is_except (node u l attributes is) = is_except_kind (kind_of u l)
