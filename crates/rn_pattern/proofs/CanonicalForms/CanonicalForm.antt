-- The shape of a canonical pattern, and that the canonical steps give it.
use Rattle.std.proofs.Common.{◌≡◌, inl, inr, Bool, true, false, cond, List, [], ◌∷◌, refl, sym, subst}
use Rattle.std.specs.Prelude.{flat_map}
use Rattle.std.proofs.lemmas.Bool.{false≢true, or_parts}
use Rattle.rn_pattern.specs.Tree.{Parameters, NameTree, NameTrees, any_name, any_name_but, ns_name, ns_name_but, name, name_choice, no_names, more_names, name_list_of, name_trees_of, Tree, Trees, not_allowed, empty, text, ref, value, datum, datum_but, list, attribute, element, one_or_more, group, interleave, choice, no_trees, more_trees, list_of, trees_of}
use Rattle.rn_text.specs.Texts.{Text}
use Rattle.rn_pattern.specs.Order.{name_cmp, tree_cmp}
use Rattle.rn_pattern.specs.Canonical.{sorted, sorted_once, name_class_of, names_within, canonical_name, canonical_names, node_of, is_not_allowed, has_not_allowed, alternatives, grouped, interleaved, choice_step, group_step, interleave_step, one_or_more_step, list_step, attribute_step, datum_but_step, canonical, canonical_all}
use Rattle.rn_pattern.specs.Reached.{RefersTo, SomeRefersTo}
use Rattle.rn_pattern.proofs.Ordered.Ascending.{each_flat, each_sorted, each_sorted_once, climbs_sorted_once}
use Rattle.rn_pattern.proofs.Ordered.Sorting.{ascends_sorted}
use Rattle.rn_pattern.proofs.Ordered.Orders.{name_same, tree_same}
use Rattle.rn_pattern.proofs.Ordered.TotalOrder.{name_cmp_total, tree_cmp_total}
use Rattle.rn_pattern.proofs.Matches.NamesKept.{name_list_of-name_trees_of}
use Rattle.rn_pattern.proofs.Matches.StepsKeep.{list_of-trees_of}
use Rattle.std.specs.List.{AllByRecursion}
use Rattle.std.specs.List.Sorted.{IsStrictlySortedBy}
use Rattle.rn_pattern.specs.CanonicalShape.{IsAscending, is_no_choice, IsCanonicalName, AreCanonicalNames, may_choose, may_group, may_interleave, IsCanonical, AreCanonical}

abbrev pub NameMember : NameTree → Type 0
NameMember c = IsCanonicalName c × (is_no_choice c ≡ true)

pub name_members : (cs : NameTrees) → AreCanonicalNames cs → AllByRecursion NameMember (name_list_of cs)
name_members no_names h = tt
name_members (more_names c cs) h = (h.0, name_members cs h.1)

members_name : (cs : List NameTree) → AllByRecursion NameMember cs → AreCanonicalNames (name_trees_of cs)
members_name [] h = tt
members_name (c ∷ cs) h = (h.0, members_name cs h.1)

pub members_within : (c : NameTree) → IsCanonicalName c → AllByRecursion NameMember (names_within c)
members_within (name_choice cs) h = name_members cs h.0
members_within c h = ((h, refl), tt)

class_canonical : (cs : List NameTree) → AllByRecursion NameMember cs → IsStrictlySortedBy name_cmp cs → IsCanonicalName (name_class_of cs)
unfolding IsStrictlySortedBy
class_canonical [] h k = (tt, refl, tt)
class_canonical (c ∷ []) h k = h.0.0
class_canonical (c ∷ d ∷ cs) h k =
    (members_name (c ∷ d ∷ cs) h, refl, subst (λ (l : List NameTree). IsStrictlySortedBy name_cmp l) (sym (name_list_of-name_trees_of (c ∷ d ∷ cs))) k)

mutual
  -- the canonical form of a name class is canonical
  pub canonical_name_is : (c : NameTree) → IsCanonicalName (canonical_name c)
  canonical_name_is any_name = tt
  canonical_name_is (any_name_but c) = canonical_name_is c
  canonical_name_is (ns_name u) = tt
  canonical_name_is (ns_name_but u c) = canonical_name_is c
  canonical_name_is (name u l) = tt
  canonical_name_is (name_choice cs) =
      let flat = flat_map names_within (canonical_names cs) in
      class_canonical (sorted_once name_cmp flat) (each_sorted_once NameMember name_cmp flat (each_flat NameMember IsCanonicalName names_within members_within (canonical_names cs) (canonical_names_are cs)))
      (climbs_sorted_once name_cmp name_cmp_total name_same flat)

  pub canonical_names_are : (cs : NameTrees) → AllByRecursion IsCanonicalName (canonical_names cs)
  canonical_names_are no_names = tt
  canonical_names_are (more_names c cs) = (canonical_name_is c, canonical_names_are cs)

module _ (Named : Text → Type 0) where
  abbrev pub Member : (Tree → Bool) → Tree → Type 0
  Member test p = IsCanonical Named p × (test p ≡ true)

  pub members_list : (test : Tree → Bool) (ps : Trees) → AreCanonical Named test ps → AllByRecursion (Member test) (list_of ps)
  members_list test no_trees h = tt
  members_list test (more_trees p ps) h = (h.0, members_list test ps h.1)

  members_trees : (test : Tree → Bool) (ps : List Tree) → AllByRecursion (Member test) ps → AreCanonical Named test (trees_of ps)
  members_trees test [] h = tt
  members_trees test (p ∷ ps) h = (h.0, members_trees test ps h.1)

  pub alternatives_members : (p : Tree) → IsCanonical Named p → AllByRecursion (Member may_choose) (alternatives p)
  alternatives_members not_allowed h = tt
  alternatives_members (choice ps) h = members_list may_choose ps h.0
  alternatives_members p h = ((h, refl), tt)

  grouped_members_at : (p : Tree) → IsCanonical Named p → is_not_allowed p ≡ false → AllByRecursion (Member may_group) (grouped p)
  grouped_members_at not_allowed h e = absurd (false≢true (sym e))
  grouped_members_at empty h e = tt
  grouped_members_at (group ps) h e = members_list may_group ps h.0
  grouped_members_at p h e = ((h, refl), tt)

  interleaved_members_at : (p : Tree) → IsCanonical Named p → is_not_allowed p ≡ false → AllByRecursion (Member may_interleave) (interleaved p)
  interleaved_members_at not_allowed h e = absurd (false≢true (sym e))
  interleaved_members_at empty h e = tt
  interleaved_members_at (interleave ps) h e = members_list may_interleave ps h.0
  interleaved_members_at p h e = ((h, refl), tt)

  abbrev Allowed : Tree → Type 0
  Allowed p = IsCanonical Named p × (is_not_allowed p ≡ false)

  pub each_allowed : (ps : List Tree) → AllByRecursion (IsCanonical Named) ps → has_not_allowed ps ≡ false → AllByRecursion Allowed ps
  each_allowed [] h e = tt
  each_allowed (p ∷ ps) h e = let (a, b) = or_parts (is_not_allowed p) (has_not_allowed ps) e in ((h.0, a), each_allowed ps h.1 b)

  choice_node : (ps : List Tree) → AllByRecursion (Member may_choose) ps → IsStrictlySortedBy tree_cmp ps → IsCanonical Named (node_of not_allowed choice ps)
  choice_node [] h k = tt
  choice_node (p ∷ []) h k = h.0.0
  choice_node (p ∷ q ∷ ps) h k = (members_trees may_choose (p ∷ q ∷ ps) h, refl, subst (λ (l : List Tree). IsStrictlySortedBy tree_cmp l) (sym (list_of-trees_of (p ∷ q ∷ ps))) k)

  group_node : (ps : List Tree) → AllByRecursion (Member may_group) ps → IsCanonical Named (node_of empty group ps)
  group_node [] h = tt
  group_node (p ∷ []) h = h.0.0
  group_node (p ∷ q ∷ ps) h = (members_trees may_group (p ∷ q ∷ ps) h, refl)

  interleave_node : (ps : List Tree) → AllByRecursion (Member may_interleave) ps → IsAscending tree_cmp ps → IsCanonical Named (node_of empty interleave ps)
  interleave_node [] h k = tt
  interleave_node (p ∷ []) h k = h.0.0
  interleave_node (p ∷ q ∷ ps) h k = (members_trees may_interleave (p ∷ q ∷ ps) h, refl, subst (λ (l : List Tree). IsAscending tree_cmp l) (sym (list_of-trees_of (p ∷ q ∷ ps))) k)

  unless_canonical : (b : Bool) (p : Tree) → (b ≡ false → IsCanonical Named p) → IsCanonical Named (cond b not_allowed p)
  unless_canonical true p h = tt
  unless_canonical false p h = h refl

  pub flat_choice : (ps : List Tree) → AllByRecursion (IsCanonical Named) ps → AllByRecursion (Member may_choose) (flat_map alternatives ps)
  flat_choice ps h = each_flat (Member may_choose) (IsCanonical Named) alternatives alternatives_members ps h

  pub flat_group : (ps : List Tree) → AllByRecursion Allowed ps → AllByRecursion (Member may_group) (flat_map grouped ps)
  flat_group ps h = each_flat (Member may_group) Allowed grouped (λ p k. grouped_members_at p k.0 k.1) ps h

  pub flat_interleave : (ps : List Tree) → AllByRecursion Allowed ps → AllByRecursion (Member may_interleave) (flat_map interleaved ps)
  flat_interleave ps h = each_flat (Member may_interleave) Allowed interleaved (λ p k. interleaved_members_at p k.0 k.1) ps h

  -- each step on canonical parts is canonical
  pub choice_canonical : (ps : List Tree) → AllByRecursion (IsCanonical Named) ps → IsCanonical Named (choice_step ps)
  choice_canonical ps h =
      choice_node (sorted_once tree_cmp (flat_map alternatives ps)) (each_sorted_once (Member may_choose) tree_cmp (flat_map alternatives ps) (flat_choice ps h)) (climbs_sorted_once tree_cmp tree_cmp_total tree_same (flat_map alternatives ps))

  pub group_canonical : (ps : List Tree) → AllByRecursion (IsCanonical Named) ps → IsCanonical Named (group_step ps)
  group_canonical ps h = unless_canonical (has_not_allowed ps) (node_of empty group (flat_map grouped ps)) (λ e. group_node (flat_map grouped ps) (flat_group ps (each_allowed ps h e)))

  pub interleave_canonical : (ps : List Tree) → AllByRecursion (IsCanonical Named) ps → IsCanonical Named (interleave_step ps)
  interleave_canonical ps h =
      unless_canonical (has_not_allowed ps) (node_of empty interleave (sorted tree_cmp (flat_map interleaved ps)))
      (λ e. interleave_node (sorted tree_cmp (flat_map interleaved ps)) (each_sorted (Member may_interleave) tree_cmp (flat_map interleaved ps) (flat_interleave ps (each_allowed ps h e))) (ascends_sorted tree_cmp tree_cmp_total tree_same (flat_map interleaved ps)))

  pub one_or_more_canonical : (p : Tree) → IsCanonical Named p → IsCanonical Named (one_or_more_step p)
  one_or_more_canonical not_allowed h = tt
  one_or_more_canonical empty h = tt
  one_or_more_canonical (one_or_more p) h = h
  one_or_more_canonical p h = (h, refl)

  pub list_canonical : (p : Tree) → IsCanonical Named p → IsCanonical Named (list_step p)
  list_canonical not_allowed h = tt
  list_canonical p h = (h, refl)

  pub attribute_canonical : (c : NameTree) (p : Tree) → IsCanonicalName c → IsCanonical Named p → IsCanonical Named (attribute_step c p)
  attribute_canonical c not_allowed n h = tt
  attribute_canonical c p n h = (n, h, refl)

  pub datum_but_canonical : (l x : Text) (ps : Parameters) (p : Tree) → IsCanonical Named p → IsCanonical Named (datum_but_step l x ps p)
  datum_but_canonical l x ps not_allowed h = tt
  datum_but_canonical l x ps p h = (h, refl)

  module _ (s : Text → Tree) (settled : (x : Text) → IsCanonical Named (s x)) where
    mutual
      -- the canonical form is canonical, where what references become is
      pub canonical_is : (p : Tree) → IsCanonical Named (canonical s p)
      canonical_is not_allowed = tt
      canonical_is empty = tt
      canonical_is text = tt
      canonical_is (ref x) = settled x
      canonical_is (value l x t) = tt
      canonical_is (datum l x ps) = tt
      canonical_is (datum_but l x ps p) = datum_but_canonical l x ps (canonical s p) (canonical_is p)
      canonical_is (list p) = list_canonical (canonical s p) (canonical_is p)
      canonical_is (attribute c p) = attribute_canonical (canonical_name c) (canonical s p) (canonical_name_is c) (canonical_is p)
      canonical_is (element c p) = (canonical_name_is c, canonical_is p)
      canonical_is (one_or_more p) = one_or_more_canonical (canonical s p) (canonical_is p)
      canonical_is (group ps) = group_canonical (canonical_all s ps) (canonical_all_are ps)
      canonical_is (interleave ps) = interleave_canonical (canonical_all s ps) (canonical_all_are ps)
      canonical_is (choice ps) = choice_canonical (canonical_all s ps) (canonical_all_are ps)

      pub canonical_all_are : (ps : Trees) → AllByRecursion (IsCanonical Named) (canonical_all s ps)
      canonical_all_are no_trees = tt
      canonical_all_are (more_trees p ps) = (canonical_is p, canonical_all_are ps)

  mutual
    -- a canonical pattern refers to these names alone
    pub canonical_refers : (x : Text) (p : Tree) → IsCanonical Named p → RefersTo x p → Named x
    canonical_refers x (ref y) h r = subst Named (sym r) h
    canonical_refers x (datum_but l t ps p) h r = canonical_refers x p h.0 r
    canonical_refers x (list p) h r = canonical_refers x p h.0 r
    canonical_refers x (attribute c p) h r = canonical_refers x p h.1 r
    canonical_refers x (element c p) h r = canonical_refers x p h.1 r
    canonical_refers x (one_or_more p) h r = canonical_refers x p h.0 r
    canonical_refers x (group ps) h r = some_canonical_refers x may_group ps h.0 r
    canonical_refers x (interleave ps) h r = some_canonical_refers x may_interleave ps h.0 r
    canonical_refers x (choice ps) h r = some_canonical_refers x may_choose ps h.0 r
    canonical_refers x p h r = absurd r

    some_canonical_refers : (x : Text) (test : Tree → Bool) (ps : Trees) → AreCanonical Named test ps → SomeRefersTo x ps → Named x
    some_canonical_refers x test no_trees h r = absurd r
    some_canonical_refers x test (more_trees p ps) h (inl r) = canonical_refers x p h.0.0 r
    some_canonical_refers x test (more_trees p ps) h (inr r) = some_canonical_refers x test ps h.1 r
