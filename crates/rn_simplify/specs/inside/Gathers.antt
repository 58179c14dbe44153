-- What a grammar mentions, gathered text by text.
use Rattle.std.specs.Prelude.{◌≡◌, Bool, true, false, ◌||◌, List, [], ◌∷◌, ◌++◌, map, flat_map, bytes_eq, String, string_bytes}
use Rattle.std.specs.List.{list_any}
use Rattle.std.specs.BTreeSet.{BTreeSet}
use Rattle.std.specs.declared.alloc.Global.{Global}
use Rattle.rn_pattern.specs.Tree.{NameTree, NameTrees, Tree, Trees}
use Rattle.rn_text.specs.Texts.{Text, text_cmp}
use Rattle.rn_pattern.specs.Canonical.{sorted_once}
use Rattle.rn_pattern.specs.Matching.{Grammar}
use Rattle.rn_simplify.specs.declared.mentions.Mentions.{Mentions}
use Rattle.rn_simplify.specs.Spelling.{name_uris, names_uris, mentions, grammar_namespaces, grammar_libraries, has_empty_ns_name, mentions_all}

-- the set has these texts, each once
abbrev pub IsGathered : List Text → BTreeSet (String Global) → Type 0
IsGathered zs s = map (λ u. string_bytes u) s.keys ≡ sorted_once text_cmp zs

-- these texts are gathered in the set, in addition to those that were
abbrev pub GathersTexts : List Text → BTreeSet (String Global) → BTreeSet (String Global) → Type 0
GathersTexts us a b = (zs : List Text) → IsGathered zs a → IsGathered (zs ++ us) b

-- the namespaces of the names in a pattern, and in patterns; ns_only: of nsName alone
abbrev pub tree_namespaces : (ns_only : Bool) → Tree → List Text
tree_namespaces ns_only = mentions (name_uris ns_only) (λ l. [])

abbrev pub trees_namespaces : (ns_only : Bool) → Trees → List Text
trees_namespaces ns_only = mentions_all (name_uris ns_only) (λ l. [])

-- the libraries of the datatypes in a pattern, and in patterns
abbrev pub tree_libraries : Tree → List Text
tree_libraries = mentions (λ n. []) (λ l. l ∷ [])

abbrev pub trees_libraries : Trees → List Text
trees_libraries = mentions_all (λ n. []) (λ l. l ∷ [])

-- what is mentioned: namespaces, those of `p:*` alone, and libraries
pub record Mentioned : Type 0 where
  pub namespaces : List Text
  pub ns_names : List Text
  pub libraries : List Text

abbrev pub nothing : Mentioned
nothing = record { namespaces = []; ns_names = []; libraries = [] }

abbrev pub mentioned_by_both : Mentioned → Mentioned → Mentioned
mentioned_by_both m n = record { namespaces = m.namespaces ++ n.namespaces; ns_names = m.ns_names ++ n.ns_names; libraries = m.libraries ++ n.libraries }

abbrev pub by_name : NameTree → Mentioned
by_name c = record { namespaces = name_uris false c; ns_names = name_uris true c; libraries = [] }

abbrev pub by_names : NameTrees → Mentioned
by_names cs = record { namespaces = names_uris false cs; ns_names = names_uris true cs; libraries = [] }

abbrev pub by_ns_name : Text → Mentioned
by_ns_name u = record { namespaces = u ∷ []; ns_names = u ∷ []; libraries = [] }

abbrev pub by_library : Text → Mentioned
by_library l = record { namespaces = []; ns_names = []; libraries = l ∷ [] }

abbrev pub by_tree : Tree → Mentioned
by_tree p = record {
  namespaces = tree_namespaces false p;
  ns_names = tree_namespaces true p;
  libraries = tree_libraries p;
}

abbrev pub by_trees : Trees → Mentioned
by_trees ps = record {
  namespaces = trees_namespaces false ps;
  ns_names = trees_namespaces true ps;
  libraries = trees_libraries ps;
}

abbrev pub by_definitions : List (Text × Tree) → Mentioned
by_definitions ds = record {
  namespaces = flat_map (λ (d : Text × Tree). tree_namespaces false d.1) ds;
  ns_names = flat_map (λ (d : Text × Tree). tree_namespaces true d.1) ds;
  libraries = flat_map (λ (d : Text × Tree). tree_libraries d.1) ds;
}

-- what is mentioned is gathered, in addition to what was
pub record Gathers (m : Mentioned) (a b : Mentions) : Type 0 where
  pub namespaces : GathersTexts m.namespaces a.namespaces b.namespaces
  pub ns_names : b.has_empty_ns_name ≡ (a.has_empty_ns_name || list_any (bytes_eq []) m.ns_names)
  pub libraries : GathersTexts m.libraries a.libraries b.libraries

-- what is gathered of a grammar: its namespaces and libraries in order, each once
pub record Gathered : Type 0 where
  pub namespaces : List Text
  pub libraries : List Text
  pub has_empty_ns_name : Bool

-- what is gathered in the code
abbrev pub mentions_view : Mentions → Gathered
mentions_view m = record {
  namespaces = map (λ u. string_bytes u) m.namespaces.keys;
  libraries = map (λ u. string_bytes u) m.libraries.keys;
  has_empty_ns_name = m.has_empty_ns_name;
}

abbrev pub gathered : Grammar → Gathered
gathered g = record {
  namespaces = sorted_once text_cmp (grammar_namespaces false g);
  libraries = sorted_once text_cmp (grammar_libraries g);
  has_empty_ns_name = has_empty_ns_name g;
}
