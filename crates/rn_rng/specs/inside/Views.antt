-- What values of the code stand for.
use Rattle.std.specs.Prelude.{ℕ, Bool, not, ◌||◌, ◌==◌, List, [], ◌∷◌, ◌++◌, map, flat_map, Option, Some, None}
use Rattle.rn_text.specs.Texts.{Text}
use Rattle.rn_pattern.specs.Document as document
use Rattle.rn_pattern.specs.Document.{Item, Items}
use Rattle.rn_syntax.specs.declared.tree.Operator.{Operator}
use Rattle.rn_syntax.specs.declared.tree.Nc.{Nc}
use Rattle.rn_syntax.specs.declared.tree.Pat.{Pat}
use Rattle.rn_syntax.specs.Tree.{Declaration, NameClass, Pattern}
use Rattle.rn_syntax.specs.Places.{uri_at, xml_uri, xsd_uri}
use Rattle.rn_syntax.specs.View.{class_view, declaration_view, pattern_view}
use Rattle.rn_assemble.specs.Resolve.{uri_text}
use Rattle.rn_rng.specs.declared.escapes.Holder as code_holder
use Rattle.rn_rng.specs.declared.escapes.Holder.TheVariants as h
use Rattle.rn_rng.specs.declared.tag.Attribute.{Attribute}
use Rattle.rn_rng.specs.declared.tag.Tag.{Tag}
use Rattle.rn_rng.specs.declared.namespaces.Namespaces.{Namespaces}
use Rattle.rn_rng.specs.declared.namespaces.UriSource.{UriSource}
use Rattle.rn_rng.specs.declared.namespaces.UriSource.TheVariants as u
use Rattle.rn_rng.specs.declared.element_context.ElementContext.{ElementContext}
use Rattle.rn_rng.specs.Layout.{Holder, in_element, in_attribute, items_text}
use Rattle.rn_rng.specs.Translation.{attribute, class_xml, one_item, operator_local, pattern_xml, unwrapped}

abbrev pub holder_view : code_holder.Holder → Holder
holder_view h.Element = in_element
holder_view h.Attribute = in_attribute

-- no reference stands for the byte, wherever it is
abbrev pub is_plain_byte : ℕ → Bool
is_plain_byte b = not (b == 38 || (b == 60 || (b == 62 || (b == 34 || (b == 9 || (b == 10 || b == 13))))))

abbrev pub attribute_view : Attribute → document.Attribute
attribute_view a = attribute a.name.now (a.prefix.now ++ a.value.now)

-- an attribute, if there is one
abbrev pub optional_view : Option Attribute → List document.Attribute
optional_view None = []
optional_view (Some a) = attribute_view a ∷ []

abbrev pub tag_attributes : Tag → List document.Attribute
tag_attributes t = optional_view t.first ++ optional_view t.second

-- the declarations of the module
abbrev pub given : Namespaces → List Declaration
given n = map declaration_view n.declarations.now

abbrev pub uri_of : Namespaces → UriSource → Text
uri_of n u.Empty = []
uri_of n u.Xml = xml_uri
uri_of n u.Xsd = xsd_uri
uri_of n (u.Declared k) = uri_text [] (uri_at (given n) k)

-- an item where its element's children are in an element of this operator anyhow, or of none
abbrev pub placed : Option Operator → Item → Items
placed None i = one_item i
placed (Some op) i = unwrapped (operator_local op) i

-- what is written of a name class in a context, whose names without prefix are in the namespace `own`
abbrev pub class_at : Namespaces → ElementContext → (own : UriSource) → NameClass → Text
class_at n at own c = items_text at.level (placed at.wrapper (class_xml (given n) (uri_of n at.namespace) (uri_of n own) c))

-- what is written of name classes in the same context
abbrev pub classes_at : Namespaces → ElementContext → (own : UriSource) → List Nc → Text
classes_at n at own cs = flat_map (λ (c : Nc). class_at n at own (class_view c)) cs

-- what is written of a pattern in a context
abbrev pub pattern_at : Namespaces → ElementContext → Pattern → Text
pattern_at n at p = items_text at.level (placed at.wrapper (pattern_xml (given n) (uri_of n at.namespace) (uri_of n at.library) p))

-- what is written of patterns in the same context
abbrev pub patterns_at : Namespaces → ElementContext → List Pat → Text
patterns_at n at ps = flat_map (λ (p : Pat). pattern_at n at (pattern_view p)) ps
