-- The parts of a pattern that the order compares in turn.
use Rattle.std.specs.Prelude.{◌≡◌, ◌<◌, ℕ, List, [], ◌∷◌, map, All, Option, Some, None, String, option_copied}
use Rattle.std.specs.declared.alloc.Global.{Global}
use Rattle.std.specs.declared.cmp.Ordering.{Ordering}
use Rattle.std.specs.Ordering.{nat_cmp, ordering_then}
use Rattle.std.specs.Cmp.Lexicographic.{slice_cmp}
use Rattle.rn_pattern.specs.Tree.{Parameters, NameTrees, no_names, more_names, Tree, Trees, ref, value, datum, datum_but, list, attribute, element, one_or_more, group, interleave, choice, no_trees, more_trees, trees_of}
use Rattle.rn_text.specs.Texts.{Text, text_cmp}
use Rattle.rn_pattern.specs.Order.{names_cmp, parameters_cmp, rank}
use Rattle.rn_pattern.specs.View.{name_class_view, parameters_view}
use Rattle.rn_pattern.specs.declared.tree.NameClass.{NameClass}
use Rattle.rn_pattern.specs.declared.node.NodeId.{NodeId}
use Rattle.rn_pattern.specs.declared.heads.Heads.{Heads}

-- three texts, empty where there are fewer
abbrev pub texts_in : Tree → List Text
texts_in (ref x) = x ∷ [] ∷ [] ∷ []
texts_in (value l x t) = l ∷ x ∷ t ∷ []
texts_in (datum l x ps) = l ∷ x ∷ [] ∷ []
texts_in (datum_but l x ps p) = l ∷ x ∷ [] ∷ []
texts_in p = [] ∷ [] ∷ [] ∷ []

abbrev pub parameters_in : Tree → Parameters
parameters_in (datum l x ps) = ps
parameters_in (datum_but l x ps p) = ps
parameters_in p = []

abbrev pub names_in : Tree → NameTrees
names_in (attribute c p) = more_names c no_names
names_in (element c p) = more_names c no_names
names_in p = no_names

abbrev pub members_in : Tree → Trees
members_in (datum_but l x ps p) = more_trees p no_trees
members_in (list p) = more_trees p no_trees
members_in (attribute c p) = more_trees p no_trees
members_in (element c p) = more_trees p no_trees
members_in (one_or_more p) = more_trees p no_trees
members_in (group ps) = ps
members_in (interleave ps) = ps
members_in (choice ps) = ps
members_in p = no_trees

abbrev pub class_view : Option NameClass → NameTrees
class_view None = no_names
class_view (Some c) = more_names (name_class_view c) no_names

-- the three texts, the parameters and the name class of the heads
abbrev pub part_texts : Heads → List Text
part_texts x = x.name_or_library.now ∷ x.type_name.now ∷ x.text.now ∷ []

abbrev pub part_parameters : Heads → Parameters
part_parameters x = parameters_view x.parameters.now

abbrev pub part_class : Heads → NameTrees
part_class x = class_view (option_copied x.class)

-- the order by all parts but the members: the kind, the name class, the texts, the parameters
abbrev pub heads_cmp : Heads → Heads → Ordering
heads_cmp x y = ordering_then (nat_cmp x.kind y.kind)
    (ordering_then (names_cmp (part_class x) (part_class y))
    (ordering_then (slice_cmp text_cmp (part_texts x) (part_texts y)) (parameters_cmp (part_parameters x) (part_parameters y))))

-- these are the heads of t
pub record ShowsHeads (t : Tree) (x : Heads) : Type 0 where
  pub kinds : x.kind ≡ rank t
  pub texts_are : part_texts x ≡ texts_in t
  pub parameters_are : part_parameters x ≡ parameters_in t
  pub class_is : part_class x ≡ names_in t

-- these are the parts of t, whose members stand below the place
pub record ShowsTree (at : NodeId → Tree) (t : Tree) (place kind : ℕ) (texts : List Text) (parameters : List (String Global × String Global)) (class : Option NameClass) (members : List NodeId) : Type 0 where
  pub kinds : kind ≡ rank t
  pub texts_are : texts ≡ texts_in t
  pub parameters_are : parameters_view parameters ≡ parameters_in t
  pub class_is : class_view class ≡ names_in t
  pub members_are : trees_of (map at members) ≡ members_in t
  pub below : All (λ i. i.0 < place) members
