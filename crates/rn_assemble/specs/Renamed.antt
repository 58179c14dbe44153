-- Other texts for the URIs of a grammar: short ones while a set is merged, and those that were declared when it is printed.
use Rattle.std.specs.Prelude.{◌≡◌, [], map, ⊤}
use Rattle.std.specs.List.{AllByRecursion}
use Rattle.rn_text.specs.Texts.{Text, text_cmp}
use Rattle.rn_pattern.specs.Tree.{NameTree, NameTrees, any_name, any_name_but, ns_name, ns_name_but, name, name_choice, no_names, more_names, Tree, Trees, not_allowed, empty, text, ref, value, datum, datum_but, list, attribute, element, one_or_more, group, interleave, choice, no_trees, more_trees}
use Rattle.rn_pattern.specs.Matching.{Grammar}
use Rattle.rn_pattern.specs.NameRules.{declarations}
use Rattle.rn_syntax.specs.Places.{xml_uri, xsd_uri}

-- named: what each URI is called
module _ (named : Text → Text) where
  abbrev mutual
    pub renamed_class : NameTree → NameTree
    renamed_class any_name = any_name
    renamed_class (any_name_but c) = any_name_but (renamed_class c)
    renamed_class (ns_name u) = ns_name (named u)
    renamed_class (ns_name_but u c) = ns_name_but (named u) (renamed_class c)
    renamed_class (name u l) = name (named u) l
    renamed_class (name_choice cs) = name_choice (renamed_classes cs)

    pub renamed_classes : NameTrees → NameTrees
    renamed_classes no_names = no_names
    renamed_classes (more_names c cs) = more_names (renamed_class c) (renamed_classes cs)

  abbrev mutual
    pub renamed_tree : Tree → Tree
    renamed_tree not_allowed = not_allowed
    renamed_tree empty = empty
    renamed_tree text = text
    renamed_tree (ref x) = ref x
    renamed_tree (value library type t) = value (named library) type t
    renamed_tree (datum library type params) = datum (named library) type params
    renamed_tree (datum_but library type params p) = datum_but (named library) type params (renamed_tree p)
    renamed_tree (list p) = list (renamed_tree p)
    renamed_tree (attribute c p) = attribute (renamed_class c) (renamed_tree p)
    renamed_tree (element c p) = element (renamed_class c) (renamed_tree p)
    renamed_tree (one_or_more p) = one_or_more (renamed_tree p)
    renamed_tree (group ps) = group (renamed_trees ps)
    renamed_tree (interleave ps) = interleave (renamed_trees ps)
    renamed_tree (choice ps) = choice (renamed_trees ps)

    pub renamed_trees : Trees → Trees
    renamed_trees no_trees = no_trees
    renamed_trees (more_trees p ps) = more_trees (renamed_tree p) (renamed_trees ps)

  abbrev pub renamed_definition : Text × Tree → Text × Tree
  renamed_definition d = (d.0, renamed_tree d.1)

  abbrev pub renamed_grammar : Grammar → Grammar
  renamed_grammar G = record { start = renamed_tree G.start; definitions = map renamed_definition G.definitions }

-- all URIs that are there are known
module _ (Known : Text → Type 0) where
  abbrev mutual
    pub HasKnownNames : NameTree → Type 0
    HasKnownNames any_name = ⊤
    HasKnownNames (any_name_but c) = HasKnownNames c
    HasKnownNames (ns_name u) = Known u
    HasKnownNames (ns_name_but u c) = Known u × HasKnownNames c
    HasKnownNames (name u l) = Known u
    HasKnownNames (name_choice cs) = HaveKnownNames cs

    pub HaveKnownNames : NameTrees → Type 0
    HaveKnownNames no_names = ⊤
    HaveKnownNames (more_names c cs) = HasKnownNames c × HaveKnownNames cs

  abbrev mutual
    pub HasKnownUris : Tree → Type 0
    HasKnownUris (value library type t) = Known library
    HasKnownUris (datum library type params) = Known library
    HasKnownUris (datum_but library type params p) = Known library × HasKnownUris p
    HasKnownUris (list p) = HasKnownUris p
    HasKnownUris (attribute c p) = HasKnownNames c × HasKnownUris p
    HasKnownUris (element c p) = HasKnownNames c × HasKnownUris p
    HasKnownUris (one_or_more p) = HasKnownUris p
    HasKnownUris (group ps) = HaveKnownUris ps
    HasKnownUris (interleave ps) = HaveKnownUris ps
    HasKnownUris (choice ps) = HaveKnownUris ps
    HasKnownUris p = ⊤

    pub HaveKnownUris : Trees → Type 0
    HaveKnownUris no_trees = ⊤
    HaveKnownUris (more_trees p ps) = HasKnownUris p × HaveKnownUris ps

  pub record IsOfKnownUris (G : Grammar) : Type 0 where
    pub start : HasKnownUris G.start
    pub definitions : AllByRecursion (λ (d : Text × Tree). HasKnownUris d.1) G.definitions

-- the known URIs keep their order, and those that mean something by themselves their texts
pub record IsRenaming (named : Text → Text) (Known : Text → Type 0) : Type 0 where
  pub in_order : (u v : Text) → Known u → Known v → text_cmp (named u) (named v) ≡ text_cmp u v
  pub none : named [] ≡ []
  pub xml : named xml_uri ≡ xml_uri
  pub xsd : named xsd_uri ≡ xsd_uri
  pub declares : named declarations ≡ declarations
  pub knows_none : Known []
  pub knows_xml : Known xml_uri
  pub knows_xsd : Known xsd_uri
  pub knows_declares : Known declarations
