-- The pattern that an element of the XML syntax is (RELAX NG 2001, 4.2 to 4.4, 4.8, 4.9 and 4.12 to 4.15).
use Rattle.std.specs.Prelude.{◌||◌, if◌then◌else◌, List, [], ◌∷◌, Option, Some, None, option_map, option_and_then, codes}
use Rattle.rn_text.specs.Texts.{Text}
use Rattle.rn_pattern.specs.Document.{Attribute, Item, node, string, Items, no_items, more_items}
use Rattle.rn_pattern.specs.Tree.{Parameters, NameTree, Tree, Trees, not_allowed, empty, text, ref, value, datum, datum_but, list, attribute, element, one_or_more, group, interleave, choice, no_trees, more_trees}
use Rattle.rn_pattern.specs.Opened.{pair}
use Rattle.rn_rng.specs.SchemaElements as k
use Rattle.rn_rng.specs.SchemaElements.{trimmed_value, is_space, is_except, held_string, library_in, ns_in, Kind, kind_of}
use Rattle.rn_rng.specs.NameClassElements.{element_class, attribute_class}

-- ---- how many children (4.12)

-- the one child, or a node of several, which stay in one node here: the standard nests nodes of two, which match the same. None is no schema (section 3)
abbrev pub wrapped : (Trees → Tree) → Trees → Option Tree
wrapped wrapper no_trees = None
wrapped wrapper (more_trees p no_trees) = Some p
wrapped wrapper (more_trees p (more_trees q ps)) = Some (wrapper (more_trees p (more_trees q ps)))

-- what an attribute holds behind its name class: any text, or the one pattern
abbrev pub attribute_pattern : Trees → Option Tree
attribute_pattern no_trees = Some text
attribute_pattern (more_trees p no_trees) = Some p
attribute_pattern (more_trees p (more_trees q ps)) = None

abbrev pub with_tree : Option Tree → Option Trees → Option Trees
with_tree (Some p) (Some ps) = Some (more_trees p ps)
with_tree _ _ = None

-- a node of a name class and a pattern
abbrev pub named_node : (NameTree → Tree → Tree) → Option NameTree → Option Tree → Option Tree
named_node make (Some c) (Some p) = Some (make c p)
named_node make _ _ = None

-- ---- mixed, optional, zeroOrMore (4.13 to 4.15)

abbrev pub mixed_node : Tree → Tree
mixed_node p = interleave (pair p text)

abbrev pub optional_node : Tree → Tree
optional_node p = choice (pair p empty)

abbrev pub zero_or_more_node : Tree → Tree
zero_or_more_node p = choice (pair (one_or_more p) empty)

-- ---- datatypes

-- 4.4: a value without a type is a token of the built-in library
abbrev pub value_node : (library : Text) → Option Text → Text → Tree
value_node library None s = value [] (codes "token") s
value_node library (Some type) s = value library type s

abbrev pub named_text : Option Text → Option Text → Option (Text × Text)
named_text (Some x) (Some s) = Some (x, s)
named_text _ _ = None

abbrev pub param_as : Kind → List Attribute → Items → Option (Text × Text)
param_as k.param attributes is = named_text (trimmed_value (codes "name") attributes) (held_string is)
param_as _ attributes is = None

abbrev pub param_of : Item → Option (Text × Text)
param_of (string s) = None
param_of (node u l attributes is) = param_as (kind_of u l) attributes is

abbrev pub with_param : Option (Text × Text) → Option Parameters → Option Parameters
with_param (Some e) (Some es) = Some (e ∷ es)
with_param _ _ = None

-- the parameters among the children of `data`: all but an except
abbrev pub params_of : Items → Option Parameters
params_of no_items = Some []
params_of (more_items i is) = if is_space i || is_except i then params_of is else with_param (param_of i) (params_of is)

-- data with what its except takes away, if it has one
abbrev pub data_node : (library : Text) → Option Text → Option Parameters → Option (Option Tree) → Option Tree
data_node library (Some type) (Some es) (Some None) = Some (datum library type es)
data_node library (Some type) (Some es) (Some (Some p)) = Some (datum_but library type es p)
data_node library _ _ _ = None

-- ---- patterns

-- the patterns of an element with a name class: all its children where the class is an attribute, else those behind the first
abbrev pub behind_name : Option Text → Option Trees → Option Trees → Option Trees
behind_name (Some x) all behind = all
behind_name None all behind = behind

-- 4.12: several children are a group
abbrev pub one_pattern : Option Trees → Option Tree
one_pattern = option_and_then (wrapped group)

-- the pattern that an element of this kind is, with its attributes and children: `all` of these are patterns, `behind` the first are, and an except takes away
abbrev pub pattern_as : Kind → (ns library : Text) → List Attribute → Items → (all behind : Option Trees) → Option (Option Tree) → Option Tree
pattern_as k.element ns library attributes is all behind except =
    named_node element (element_class ns (trimmed_value (codes "name") attributes) attributes is) (one_pattern (behind_name (trimmed_value (codes "name") attributes) all behind))
pattern_as k.attribute ns library attributes is all behind except =
    named_node attribute (attribute_class ns (trimmed_value (codes "name") attributes) attributes is) (option_and_then attribute_pattern (behind_name (trimmed_value (codes "name") attributes) all behind))
pattern_as k.group ns library attributes is all behind except = one_pattern all
pattern_as k.interleave ns library attributes is all behind except = option_and_then (wrapped interleave) all
pattern_as k.choice ns library attributes is all behind except = option_and_then (wrapped choice) all
pattern_as k.list ns library attributes is all behind except = option_map list (one_pattern all)
pattern_as k.mixed ns library attributes is all behind except = option_map mixed_node (one_pattern all)
pattern_as k.optional ns library attributes is all behind except = option_map optional_node (one_pattern all)
pattern_as k.zero_or_more ns library attributes is all behind except = option_map zero_or_more_node (one_pattern all)
pattern_as k.one_or_more ns library attributes is all behind except = option_map one_or_more (one_pattern all)
pattern_as k.ref ns library attributes is all behind except = option_map ref (trimmed_value (codes "name") attributes)
pattern_as k.empty ns library attributes is all behind except = Some empty
pattern_as k.text ns library attributes is all behind except = Some text
pattern_as k.not_allowed ns library attributes is all behind except = Some not_allowed
pattern_as k.value ns library attributes is all behind except = option_map (value_node (library_in library attributes) (trimmed_value (codes "type") attributes)) (held_string is)
pattern_as k.datum ns library attributes is all behind except = data_node (library_in library attributes) (trimmed_value (codes "type") attributes) (params_of is) except
pattern_as _ ns library attributes is all behind except = None

-- ns, library: the nearest `ns` and `datatypeLibrary` around (4.9, 4.3)
abbrev mutual
  pub pattern_of : (ns library : Text) → Item → Option Tree
  pattern_of ns library (string s) = None
  pattern_of ns library (node u l attributes is) =
      pattern_as (kind_of u l) ns library attributes is (patterns_of (ns_in ns attributes) (library_in library attributes) is) (patterns_behind (ns_in ns attributes) (library_in library attributes) is)
      (excepted_pattern (ns_in ns attributes) (library_in library attributes) is)

  pub patterns_of : (ns library : Text) → Items → Option Trees
  patterns_of ns library no_items = Some no_trees
  patterns_of ns library (more_items i is) = if is_space i then patterns_of ns library is else with_tree (pattern_of ns library i) (patterns_of ns library is)

  -- those behind the first child, which is a name class
  pub patterns_behind : (ns library : Text) → Items → Option Trees
  patterns_behind ns library no_items = None
  patterns_behind ns library (more_items i is) = if is_space i then patterns_behind ns library is else patterns_of ns library is

  -- what the except among the children of `data` takes away, if there is one
  pub excepted_pattern : (ns library : Text) → Items → Option (Option Tree)
  excepted_pattern ns library no_items = Some None
  excepted_pattern ns library (more_items i is) = if is_except i then option_map Some (except_pattern ns library i) else excepted_pattern ns library is

  -- 4.12: several children of an except are a choice
  pub except_pattern : (ns library : Text) → Item → Option Tree
  except_pattern ns library (string s) = None
  except_pattern ns library (node u l attributes is) = option_and_then (wrapped choice) (patterns_of (ns_in ns attributes) (library_in library attributes) is)
