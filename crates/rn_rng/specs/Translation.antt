-- The element that a module without includes is in the XML syntax (compact syntax, appendix A; RELAX NG 2001, 3), in one spelling: of what RELAX NG 2001, 4.12
-- adds by itself nothing is written, and `ns` and `datatypeLibrary` only where a name or a datatype doesn't inherit its own (4.3, 4.8 and 4.9).
use Rattle.std.specs.Prelude.{Bool, true, false, not, ◌&&◌, if◌then◌else◌, List, [], ◌∷◌, ◌++◌, Option, Some, None, bytes_eq, codes}
use Rattle.rn_text.specs.Texts.{Text}
use Rattle.rn_pattern.specs.Document.{Attribute, Item, node, string, Items, no_items, more_items}
use Rattle.rn_syntax.specs.declared.tree.Method.{Method}
use Rattle.rn_syntax.specs.declared.tree.Method.TheVariants as w
use Rattle.rn_syntax.specs.declared.tree.Operator.{Operator}
use Rattle.rn_syntax.specs.declared.tree.Operator.TheVariants as o
use Rattle.rn_syntax.specs.declared.tree.Postfix.{Postfix}
use Rattle.rn_syntax.specs.declared.tree.Postfix.TheVariants as r
use Rattle.rn_syntax.specs.Tree as t
use Rattle.rn_syntax.specs.Tree.{Name, Datatype, Params, AnyName, NameClass, NameClasses, Pattern, Patterns, Declaration, Module}
use Rattle.rn_syntax.specs.Places.{xml_uri, xsd_uri}
use Rattle.rn_assemble.specs.Resolve.{default_of, namespace_of, type_library, type_name}

-- ---- elements

-- the namespace of the elements of the XML syntax (RELAX NG 2001, 3)
abbrev pub rng_uri : Text
rng_uri = codes "http://relaxng.org/ns/structure/1.0"

abbrev pub element : Text → List Attribute → Items → Item
element local attributes content = node rng_uri local attributes content

-- attributes of the XML syntax are in no namespace
abbrev pub attribute : Text → Text → Attribute
attribute local content = record { uri = []; local = local; content = content }

abbrev pub one_item : Item → Items
one_item i = more_items i no_items

-- items, and others behind them
abbrev pub items_then : Items → Items → Items
items_then no_items js = js
items_then (more_items i is) js = more_items i (items_then is js)

-- what holds a text: a string, or nothing where it is empty
abbrev pub text_items : Text → Items
text_items [] = no_items
text_items (c ∷ s) = one_item (string (c ∷ s))

-- ---- what RELAX NG 2001, 4.12 adds by itself

abbrev pub has_items : Items → Bool
has_items no_items = false
has_items (more_items i is) = true

-- an item in an element whose children are in an element `wrapper` anyhow: of such a one its children alone, if it has some
abbrev pub unwrapped : (wrapper : Text) → Item → Items
unwrapped wrapper (node uri local attributes content) = if bytes_eq local wrapper && has_items content then content else one_item (node uri local attributes content)
unwrapped wrapper (string s) = one_item (string s)

-- in a group
abbrev pub grouped : Item → Items
grouped = unwrapped (codes "group")

-- the children of an except are in a choice
abbrev pub except_element : Item → Item
except_element i = element (codes "except") [] (unwrapped (codes "choice") i)

abbrev pub is_text : Pattern → Bool
is_text t.text = true
is_text p = false

-- an attribute without content has any text
abbrev pub attribute_content : Pattern → Item → Items
attribute_content p i = if is_text p then no_items else one_item i

-- ---- names

-- a name of the namespace of XML has its prefix, which needs no declaration (Namespaces in XML, section 3)
abbrev pub xml_prefix : Text → Text
xml_prefix uri = if bytes_eq uri xml_uri then codes "xml:" else []

-- the name as it is written (RELAX NG 2001, 4.10)
abbrev pub qualified : Text → Text → Text
qualified uri local = xml_prefix uri ++ local

-- taken: the namespace that the name would have without `ns`
abbrev pub needs_ns : (taken : Text) → (uri : Text) → Bool
needs_ns taken uri = not (bytes_eq uri taken) && not (bytes_eq uri xml_uri)

abbrev pub ns_attributes : (taken : Text) → (uri : Text) → List Attribute
ns_attributes taken uri = if needs_ns taken uri then attribute (codes "ns") uri ∷ [] else []

-- the attributes `name` and `ns`
abbrev pub name_attributes : (taken : Text) → (uri : Text) → (local : Text) → List Attribute
name_attributes taken uri local = attribute (codes "name") (qualified uri local) ∷ ns_attributes taken uri

-- the nearest `ns` in an element that has one where its name needs it; ns: the nearest one around it
abbrev pub ns_inside : (ns : Text) → (taken : Text) → (uri : Text) → Text
ns_inside ns taken uri = if needs_ns taken uri then uri else ns

abbrev pub name_local : Name → Text
name_local (t.local l) = l
name_local (t.prefixed p l i) = l

abbrev pub any_local : AnyName → Text
any_local t.any = codes "anyName"
any_local (t.any_of p i) = codes "nsName"

-- ---- datatypes, patterns, items

-- library: the nearest `datatypeLibrary` around
abbrev pub library_attributes : (library : Text) → (uri : Text) → List Attribute
library_attributes library uri = if bytes_eq uri library then [] else attribute (codes "datatypeLibrary") uri ∷ []

abbrev pub param_element : Text × Text → Item
param_element e = element (codes "param") (attribute (codes "name") e.0 ∷ []) (text_items e.1)

abbrev pub params_xml : Params → Items
params_xml [] = no_items
params_xml (e ∷ es) = more_items (param_element e) (params_xml es)

abbrev pub repetition_local : Postfix → Text
repetition_local r.Question = codes "optional"
repetition_local r.Star = codes "zeroOrMore"
repetition_local r.Plus = codes "oneOrMore"

abbrev pub operator_local : Operator → Text
operator_local o.Comma = codes "group"
operator_local o.Ampersand = codes "interleave"
operator_local o.Bar = codes "choice"

abbrev pub combine_attributes : Method → List Attribute
combine_attributes w.Plain = []
combine_attributes w.Choice = attribute (codes "combine") (codes "choice") ∷ []
combine_attributes w.Interleave = attribute (codes "combine") (codes "interleave") ∷ []

-- ---- what a module's declarations give

-- ds: the declarations of the module, which inherits no namespace
module _ (ds : List Declaration) where
  -- own: the namespace of a name without prefix
  abbrev pub name_uri : Text → Name → Text
  name_uri own (t.local l) = own
  name_uri own (t.prefixed p l i) = namespace_of [] ds p

  -- ---- name classes; ns: the nearest `ns` around, or none where there is none

  abbrev pub name_element : (ns own : Text) → Name → Item
  name_element ns own n = element (codes "name") (ns_attributes ns (name_uri own n)) (text_items (qualified (name_uri own n) (name_local n)))

  abbrev pub any_attributes : AnyName → List Attribute
  any_attributes t.any = []
  any_attributes (t.any_of p i) = attribute (codes "ns") (namespace_of [] ds p) ∷ []

  -- the nearest `ns` in the element
  abbrev pub any_inside : (ns : Text) → AnyName → Text
  any_inside ns t.any = ns
  any_inside ns (t.any_of p i) = namespace_of [] ds p

  abbrev pub any_element : AnyName → Items → Item
  any_element a content = element (any_local a) (any_attributes a) content

  abbrev mutual
    pub class_xml : (ns own : Text) → NameClass → Item
    class_xml ns own (t.name n) = name_element ns own n
    class_xml ns own (t.all a) = any_element a no_items
    class_xml ns own (t.all_but a c) = any_element a (one_item (except_element (class_xml (any_inside ns a) own c)))
    class_xml ns own (t.choice cs) = element (codes "choice") [] (classes_xml ns own cs)

    pub classes_xml : (ns own : Text) → NameClasses → Items
    classes_xml ns own t.no_classes = no_items
    classes_xml ns own (t.class c cs) = more_items (class_xml ns own c) (classes_xml ns own cs)

  -- ---- datatypes

  abbrev pub type_attributes : (library : Text) → Datatype → List Attribute
  type_attributes library d = attribute (codes "type") (type_name [] ds d) ∷ library_attributes library (type_library [] ds d)

  -- a value without a datatype has no attribute (RELAX NG 2001, 4.4)
  abbrev pub value_attributes : (library : Text) → Option Datatype → List Attribute
  value_attributes library None = []
  value_attributes library (Some d) = type_attributes library d

  -- ---- patterns

  -- the name class of an element or an attribute: one name is its `name`, any other class its first child (RELAX NG 2001, 4.8).
  -- taken: the namespace that a name has without `ns`
  abbrev pub class_attributes : (taken own : Text) → NameClass → List Attribute
  class_attributes taken own (t.name n) = name_attributes taken (name_uri own n) (name_local n)
  class_attributes taken own c = []

  abbrev pub class_items : (ns own : Text) → NameClass → Items
  class_items ns own (t.name n) = no_items
  class_items ns own c = one_item (class_xml ns own c)

  -- the nearest `ns` behind the name class
  abbrev pub class_inside : (ns taken own : Text) → NameClass → Text
  class_inside ns taken own (t.name n) = ns_inside ns taken (name_uri own n)
  class_inside ns taken own c = ns

  -- ns: the nearest `ns` around, or none where there is none; library: the nearest `datatypeLibrary`
  abbrev mutual
    pub pattern_xml : (ns library : Text) → Pattern → Item
    pattern_xml ns library (t.element c p) = element (codes "element") (class_attributes ns (default_of [] ds) c) (items_then (class_items ns (default_of [] ds) c) (grouped (pattern_xml (class_inside ns ns (default_of [] ds) c) library p)))
    pattern_xml ns library (t.attribute c p) = element (codes "attribute") (class_attributes [] [] c) (items_then (class_items ns [] c) (attribute_content p (pattern_xml (class_inside ns [] [] c) library p)))
    pattern_xml ns library (t.list p) = element (codes "list") [] (grouped (pattern_xml ns library p))
    pattern_xml ns library (t.mixed p) = element (codes "mixed") [] (grouped (pattern_xml ns library p))
    pattern_xml ns library t.empty = element (codes "empty") [] no_items
    pattern_xml ns library t.not_allowed = element (codes "notAllowed") [] no_items
    pattern_xml ns library t.text = element (codes "text") [] no_items
    pattern_xml ns library (t.ref x) = element (codes "ref") (attribute (codes "name") x ∷ []) no_items
    pattern_xml ns library (t.value d s) = element (codes "value") (value_attributes library d) (text_items s)
    pattern_xml ns library (t.datum d es) = element (codes "data") (type_attributes library d) (params_xml es)
    pattern_xml ns library (t.datum_but d es i p) = element (codes "data") (type_attributes library d) (items_then (params_xml es) (one_item (except_element (pattern_xml ns (type_library [] ds d) p))))
    pattern_xml ns library (t.repeated f p) = element (repetition_local f) [] (grouped (pattern_xml ns library p))
    pattern_xml ns library (t.chain op ps) = element (operator_local op) [] (patterns_xml ns library ps)

    pub patterns_xml : (ns library : Text) → Patterns → Items
    patterns_xml ns library t.no_patterns = no_items
    patterns_xml ns library (t.pattern p ps) = more_items (pattern_xml ns library p) (patterns_xml ns library ps)

  -- ---- items

  -- a pattern right below the root, which has no `ns` and the library of XML Schema
  abbrev pub body_xml : Pattern → Item
  body_xml p = pattern_xml [] xsd_uri p

  -- a start has one pattern, a definition a group; nothing for an include
  abbrev mutual
    pub items_xml : t.Items → Items
    items_xml t.no_items = no_items
    items_xml (t.item x xs) = items_then (item_xml x) (items_xml xs)

    pub item_xml : t.Item → Items
    item_xml (t.define n m p) = one_item (element (codes "define") (attribute (codes "name") n ∷ combine_attributes m) (grouped (body_xml p)))
    item_xml (t.start m p) = one_item (element (codes "start") (combine_attributes m) (one_item (body_xml p)))
    item_xml (t.div xs) = one_item (element (codes "div") [] (items_xml xs))
    item_xml (t.include s h xs) = no_items

-- the grammar element of a module
abbrev pub xml_of : Module → Item
xml_of m = element (codes "grammar") (attribute (codes "datatypeLibrary") xsd_uri ∷ []) (items_xml m.declarations m.items)
