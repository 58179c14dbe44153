-- Schemas in the XML syntax, and the grammars that the standard makes of them, by hand.
use Rattle.std.specs.Prelude.{List, [], ◌∷◌, codes}
use Rattle.rn_text.specs.Texts.{Text}
use Rattle.rn_pattern.specs.Document.{Attribute, Item, Items, string, no_items, more_items}
use Rattle.rn_pattern.specs.Tree.{ns_name_but, name, name_choice, name_trees_of, Tree, trees_of, empty, text, ref, value, datum_but, attribute, element, group, choice}
use Rattle.rn_pattern.specs.Matching.{Grammar}
use Rattle.rn_syntax.specs.Places.{xml_uri}
use Rattle.rn_rng.specs.Translation as x

abbrev written_attributes : List (Text × Text) → List Attribute
written_attributes [] = []
written_attributes (a ∷ others) = x.attribute a.0 a.1 ∷ written_attributes others

abbrev written_items : List Item → Items
written_items [] = no_items
written_items (i ∷ is) = more_items i (written_items is)

-- `<local NAME="VALUE"..>CONTENT</local>`
abbrev tag : Text → List (Text × Text) → List Item → Item
tag local attributes content = x.element local (written_attributes attributes) (written_items content)

abbrev named : Text → Text × Text
named x = (codes "name", x)

abbrev with_ns : Text → Text × Text
with_ns u = (codes "ns", u)

abbrev space : Item
space = string (codes "\n  ")

-- a grammar of this start alone, which stands in these attributes
abbrev started : List (Text × Text) → List Item → Item
started attributes pattern = tag (codes "grammar") attributes (space ∷ tag (codes "start") [] pattern ∷ space ∷ [])

abbrev start_alone : Tree → Grammar
start_alone p = record { start = p; definitions = [] }

abbrev empty_tag : Item
empty_tag = tag (codes "empty") [] []

-- ---- `ns` (4.8 and 4.9): an element inherits the nearest one, the name of an attribute does not; the empty one is one

abbrev pub inherited_namespaces : Item
inherited_namespaces =
    started (with_ns (codes "u") ∷ [])
    (tag (codes "element") (named (codes " a ") ∷ [])
    (space ∷ tag (codes "attribute") (named (codes "b") ∷ []) [] ∷ tag (codes "attribute") (named (codes "c") ∷ with_ns (codes "v") ∷ []) []
    ∷ tag (codes "element") (named (codes "d") ∷ with_ns [] ∷ []) (tag (codes "element") (named (codes "e") ∷ []) (empty_tag ∷ []) ∷ []) ∷ space ∷ []) ∷ [])

abbrev pub of_inherited_namespaces : Grammar
of_inherited_namespaces =
    start_alone (element (name (codes "u") (codes "a"))
    (group (trees_of (attribute (name [] (codes "b")) text ∷ attribute (name (codes "v") (codes "c")) text ∷ element (name [] (codes "d")) (element (name [] (codes "e")) empty) ∷ []))))

-- ---- name classes (4.9, 4.10 and 4.12): the names in an except inherit from `nsName`, those in an attribute from what is around

abbrev pub name_classes : Item
name_classes =
    started (with_ns (codes "u") ∷ [])
    (tag (codes "element") []
    (tag (codes "nsName") (with_ns (codes "v") ∷ []) (tag (codes "except") [] (tag (codes "name") [] (string (codes " a ") ∷ []) ∷ tag (codes "name") (with_ns [] ∷ []) (string (codes "b") ∷ []) ∷ []) ∷ [])
    ∷ tag (codes "attribute") [] (tag (codes "name") [] (string (codes "c") ∷ []) ∷ []) ∷ tag (codes "attribute") (named (codes "xml:lang") ∷ []) [] ∷ []) ∷ [])

abbrev pub of_name_classes : Grammar
of_name_classes =
    start_alone (element (ns_name_but (codes "v") (name_choice (name_trees_of (name (codes "v") (codes "a") ∷ name [] (codes "b") ∷ []))))
    (group (trees_of (attribute (name (codes "u") (codes "c")) text ∷ attribute (name xml_uri (codes "lang")) text ∷ []))))

-- ---- a prefix that is not bound: no grammar

abbrev pub unbound_prefix : Item
unbound_prefix = started [] (tag (codes "element") (named (codes "p:a") ∷ []) (empty_tag ∷ []) ∷ [])

-- ---- `datatypeLibrary` (4.3 and 4.4): the nearest one; a value without a type is a token of none, whatever is around

abbrev pub inherited_libraries : Item
inherited_libraries =
    started ((codes "datatypeLibrary", codes "l") ∷ [])
    (tag (codes "choice") []
    (tag (codes "value") [] (string (codes " 1 ") ∷ []) ∷ tag (codes "value") ((codes "type", codes "int") ∷ []) (string (codes "1") ∷ [])
    ∷ tag (codes "data") ((codes "type", codes "long") ∷ (codes "datatypeLibrary", codes "m") ∷ [])
    (tag (codes "param") (named (codes "min") ∷ []) (string (codes "2") ∷ []) ∷ tag (codes "except") [] (tag (codes "value") ((codes "type", codes "long") ∷ []) (string (codes "3") ∷ []) ∷ []) ∷ []) ∷ []) ∷ [])

abbrev pub of_inherited_libraries : Grammar
of_inherited_libraries =
    start_alone (choice (trees_of (value [] (codes "token") (codes " 1 ") ∷ value (codes "l") (codes "int") (codes "1")
    ∷ datum_but (codes "m") (codes "long") ((codes "min", codes "2") ∷ []) (value (codes "m") (codes "long") (codes "3")) ∷ [])))

-- ---- definitions (4.11, 4.12, 4.17): a div is its items, the children of a define are a group, definitions of a name are combined

abbrev pub combined_definitions : Item
combined_definitions =
    tag (codes "grammar") []
    (tag (codes "div") [] (tag (codes "define") (named (codes "a") ∷ (codes "combine", codes "choice") ∷ []) (empty_tag ∷ tag (codes "text") [] [] ∷ []) ∷ [])
    ∷ tag (codes "start") [] (tag (codes "ref") (named (codes "a") ∷ []) [] ∷ []) ∷ tag (codes "define") (named (codes "a") ∷ []) (empty_tag ∷ []) ∷ [])

abbrev pub of_combined_definitions : Grammar
of_combined_definitions = record { start = ref (codes "a"); definitions = (codes "a", choice (trees_of (group (trees_of (empty ∷ text ∷ [])) ∷ empty ∷ []))) ∷ [] }
