-- The name class that an element of the XML syntax is (RELAX NG 2001, 4.2, 4.8 to 4.10 and 4.12).
use Rattle.std.specs.Prelude.{if◌then◌else◌, List, [], Option, Some, None, option_map, option_and_then, unwrap_or, codes}
use Rattle.rn_text.specs.Texts.{Text}
use Rattle.rn_pattern.specs.Document.{Attribute, Item, node, string, Items, no_items, more_items}
use Rattle.rn_pattern.specs.Tree.{NameTree, NameTrees, any_name, any_name_but, ns_name, ns_name_but, name_choice, no_names, more_names}
use Rattle.rn_rng.specs.SchemaElements as k
use Rattle.rn_rng.specs.SchemaElements.{attribute_value, trimmed, is_space, is_except, held_string, ns_in, qualified_name, Kind, kind_of}

-- 4.12: the children of a choice or an except: the one, or a choice of several, which stay in one node here. None is no schema (section 3)
abbrev pub choice_of_names : NameTrees → Option NameTree
choice_of_names no_names = None
choice_of_names (more_names c no_names) = Some c
choice_of_names (more_names c (more_names d cs)) = Some (name_choice (more_names c (more_names d cs)))

abbrev pub with_name : Option NameTree → Option NameTrees → Option NameTrees
with_name (Some c) (Some cs) = Some (more_names c cs)
with_name _ _ = None

-- all names, or all but those that an except has, if there is one
abbrev pub any_name_without : Option NameTree → NameTree
any_name_without None = any_name
any_name_without (Some c) = any_name_but c

abbrev pub ns_name_without : Text → Option NameTree → NameTree
ns_name_without u None = ns_name u
ns_name_without u (Some c) = ns_name_but u c

-- the name class that an element of this kind is; ns: its own `ns` or the nearest one around (4.9); `all` its children are name classes, and an except takes away
abbrev pub class_as : Kind → (ns : Text) → Items → (all : Option NameTrees) → Option (Option NameTree) → Option NameTree
class_as k.name_of ns is all except = option_and_then (λ x. qualified_name ns (trimmed x)) (held_string is)
class_as k.any_name ns is all except = option_map any_name_without except
class_as k.ns_name ns is all except = option_map (ns_name_without ns) except
class_as k.choice ns is all except = option_and_then choice_of_names all
class_as _ ns is all except = None

-- ns: the nearest `ns` around
abbrev mutual
  pub class_of : (ns : Text) → Item → Option NameTree
  class_of ns (string s) = None
  class_of ns (node u l attributes is) = class_as (kind_of u l) (ns_in ns attributes) is (classes_of (ns_in ns attributes) is) (excepted_names (ns_in ns attributes) is)

  pub classes_of : (ns : Text) → Items → Option NameTrees
  classes_of ns no_items = Some no_names
  classes_of ns (more_items i is) = if is_space i then classes_of ns is else with_name (class_of ns i) (classes_of ns is)

  -- what the except among the children of `anyName` or `nsName` takes away, if there is one
  pub excepted_names : (ns : Text) → Items → Option (Option NameTree)
  excepted_names ns no_items = Some None
  excepted_names ns (more_items i is) = if is_except i then option_map Some (except_names ns i) else if is_space i then excepted_names ns is else None

  -- 4.12: several children of an except are a choice
  pub except_names : (ns : Text) → Item → Option NameTree
  except_names ns (string s) = None
  except_names ns (node u l attributes is) = option_and_then choice_of_names (classes_of (ns_in ns attributes) is)

-- the first child of an element
abbrev pub first_class : (ns : Text) → Items → Option NameTree
first_class ns no_items = None
first_class ns (more_items i is) = if is_space i then first_class ns is else class_of ns i

-- 4.8: the attribute `name` of an element is a name: with its own `ns` or the nearest one around. Without it the first child is the name class
abbrev pub element_class : (ns : Text) → Option Text → List Attribute → Items → Option NameTree
element_class ns (Some x) attributes is = qualified_name (ns_in ns attributes) x
element_class ns None attributes is = first_class (ns_in ns attributes) is

-- 4.8: so is that of an attribute, but that without `ns` of its own it is in no namespace
abbrev pub attribute_class : (ns : Text) → Option Text → List Attribute → Items → Option NameTree
attribute_class ns (Some x) attributes is = qualified_name (unwrap_or (attribute_value (codes "ns") attributes) []) x
attribute_class ns None attributes is = first_class (ns_in ns attributes) is
