-- The grammar that a grammar element of the XML syntax is, without includes, external references, references to a parent and nested grammars (RELAX NG 2001, 4.2 to 4.18).
-- What 4.5 to 4.7 and a part of 4.18 are for is not in it. What 4.16 forbids is forbidden of the grammar, as of one in the compact syntax. Of 4.17 see Combine of rn_assemble.
use Rattle.std.specs.Prelude.{if◌then◌else◌, List, [], ◌∷◌, ◌++◌, Option, Some, None, option_map, option_and_then, bytes_eq, codes}
use Rattle.rn_text.specs.Texts.{Text}
use Rattle.rn_pattern.specs.Document.{Attribute, Item, node, string, Items, no_items, more_items}
use Rattle.rn_pattern.specs.Tree.{Tree, Trees, no_trees, more_trees}
use Rattle.rn_pattern.specs.Matching.{Grammar}
use Rattle.rn_syntax.specs.declared.tree.Method.{Method}
use Rattle.rn_syntax.specs.declared.tree.Method.TheVariants as m
use Rattle.rn_assemble.specs.Components.{Key, start_key, name_key, Component}
use Rattle.rn_assemble.specs.Combine.{joined_grammar}
use Rattle.rn_rng.specs.SchemaElements as k
use Rattle.rn_rng.specs.SchemaElements.{trimmed_value, is_space, library_in, ns_in, Kind, kind_of}
use Rattle.rn_rng.specs.PatternElements.{one_pattern, patterns_of}

-- how a definition is combined with others of its name (4.17): as the attribute `combine` says, or, without it, plainly
abbrev pub method_named : Text → Option Method
method_named x = if bytes_eq x (codes "choice") then Some m.Choice else if bytes_eq x (codes "interleave") then Some m.Interleave else None

abbrev pub method_of : Option Text → Option Method
method_of None = Some m.Plain
method_of (Some x) = method_named x

-- a start has one pattern
abbrev pub lone_tree : Trees → Option Tree
lone_tree no_trees = None
lone_tree (more_trees p no_trees) = Some p
lone_tree (more_trees p (more_trees q ps)) = None

abbrev pub component : Option Key → Option Method → Option Tree → Option (List Component)
component (Some key) (Some method) (Some p) = Some (record { key = key; method = method; body = p } ∷ [])
component _ _ _ = None

-- what an item of a grammar defines: `all` its children are patterns, or `inner` is what they define
abbrev pub components_as : Kind → List Attribute → (all : Option Trees) → (inner : Option (List Component)) → Option (List Component)
components_as k.start attributes all inner = component (Some start_key) (method_of (trimmed_value (codes "combine") attributes)) (option_and_then lone_tree all)
components_as k.define attributes all inner = component (option_map name_key (trimmed_value (codes "name") attributes)) (method_of (trimmed_value (codes "combine") attributes)) (one_pattern all)
components_as k.div attributes all inner = inner
components_as _ attributes all inner = None

abbrev pub with_components : Option (List Component) → Option (List Component) → Option (List Component)
with_components (Some cs) (Some ds) = Some (cs ++ ds)
with_components _ _ = None

-- the definitions of items in their order, those of a div in its place (4.11); ns, library: the nearest `ns` and `datatypeLibrary` around
abbrev mutual
  pub item_components : (ns library : Text) → Item → Option (List Component)
  item_components ns library (string s) = None
  item_components ns library (node u l attributes is) = components_as (kind_of u l) attributes (patterns_of (ns_in ns attributes) (library_in library attributes) is) (items_components (ns_in ns attributes) (library_in library attributes) is)

  pub items_components : (ns library : Text) → Items → Option (List Component)
  items_components ns library no_items = Some []
  items_components ns library (more_items i is) = if is_space i then items_components ns library is else with_components (item_components ns library i) (items_components ns library is)

-- 4.18: the start and the definitions, each name's combined (4.17); no grammar where the item is no grammar element as section 3 has it
abbrev pub grammar_as : Kind → List Attribute → Items → Option Grammar
grammar_as k.grammar attributes is = option_map joined_grammar (items_components (ns_in [] attributes) (library_in [] attributes) is)
grammar_as _ attributes is = None

abbrev pub grammar_of : Item → Option Grammar
grammar_of (string s) = None
grammar_of (node u l attributes is) = grammar_as (kind_of u l) attributes is
