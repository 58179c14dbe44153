-- What holds of a pattern's parts and of the patterns over them is kept by the canonical form and by opening.
use Rattle.std.proofs.Common.{Bool, true, false, cond, List, [], ◌∷◌, sym, subst}
use Rattle.std.specs.Prelude.{flat_map}
use Rattle.rn_pattern.specs.Tree.{Parameters, NameTree, Tree, Trees, not_allowed, empty, text, ref, value, datum, datum_but, list, attribute, element, one_or_more, group, interleave, choice, no_trees, more_trees, list_of, trees_of}
use Rattle.rn_text.specs.Texts.{Text}
use Rattle.rn_pattern.specs.Order.{tree_cmp}
use Rattle.rn_pattern.specs.Canonical.{sorted, sorted_once, canonical_name, node_of, has_not_allowed, alternatives, grouped, interleaved, choice_step, group_step, interleave_step, one_or_more_step, list_step, attribute_step, datum_but_step, canonical, canonical_all}
use Rattle.rn_pattern.specs.Opened.{pair, one_or_node, opened_choice, opened_interleave, opened, opened_all}
use Rattle.rn_pattern.proofs.Ordered.Ascending.{each_flat, each_sorted, each_sorted_once}
use Rattle.rn_pattern.proofs.Matches.StepsKeep.{list_of-trees_of}
use Rattle.std.specs.List.{AllByRecursion}

-- of a pattern it says what it says of its parts
pub record IsKept (Q : Tree → Type 0) : Type 0 where
  pub of_none : Q not_allowed
  pub of_empty : Q empty
  pub of_text : Q text
  pub of_datum : (l x : Text) (ps : Parameters) → Q (datum_but l x ps not_allowed) → Q (datum l x ps)
  pub of_list : (p q : Tree) → (Q p → Q q) → Q (list p) → Q (list q)
  pub of_attribute : (c : NameTree) (p q : Tree) → (Q p → Q q) → Q (attribute c p) → Q (attribute c q)
  pub of_element : (c : NameTree) (p q : Tree) → (Q p → Q q) → Q (element c p) → Q (element c q)
  pub named_attribute : (c : NameTree) (p : Tree) → Q (attribute c p) → Q (attribute (canonical_name c) p)
  pub named_element : (c : NameTree) (p : Tree) → Q (element c p) → Q (element (canonical_name c) p)
  pub in_more : (p : Tree) → Q (one_or_more p) → Q p
  pub of_more : (p : Tree) → Q p → Q (one_or_more p)
  pub in_group : (ps : Trees) → Q (group ps) → AllByRecursion Q (list_of ps)
  pub of_group : (ps : Trees) → AllByRecursion Q (list_of ps) → Q (group ps)
  pub in_interleave : (ps : Trees) → Q (interleave ps) → AllByRecursion Q (list_of ps)
  pub of_interleave : (ps : Trees) → AllByRecursion Q (list_of ps) → Q (interleave ps)
  pub in_choice : (ps : Trees) → Q (choice ps) → AllByRecursion Q (list_of ps)
  pub of_choice : (ps : Trees) → AllByRecursion Q (list_of ps) → Q (choice ps)

module _ (Q : Tree → Type 0) (k : IsKept Q) where
  node_kept : (none : Tree) (over : Trees → Tree) → Q none → ((ts : Trees) → AllByRecursion Q (list_of ts) → Q (over ts)) → (ps : List Tree) → AllByRecursion Q ps → Q (node_of none over ps)
  node_kept none over n to [] h = n
  node_kept none over n to (p ∷ []) h = h.0
  node_kept none over n to (p ∷ q ∷ ps) h = to (trees_of (p ∷ q ∷ ps)) (subst (AllByRecursion Q) (sym (list_of-trees_of (p ∷ q ∷ ps))) h)

  alternatives_kept : (p : Tree) → Q p → AllByRecursion Q (alternatives p)
  alternatives_kept not_allowed h = tt
  alternatives_kept (choice ps) h = k.in_choice ps h
  alternatives_kept p h = (h, tt)

  grouped_kept : (p : Tree) → Q p → AllByRecursion Q (grouped p)
  grouped_kept empty h = tt
  grouped_kept (group ps) h = k.in_group ps h
  grouped_kept p h = (h, tt)

  interleaved_kept : (p : Tree) → Q p → AllByRecursion Q (interleaved p)
  interleaved_kept empty h = tt
  interleaved_kept (interleave ps) h = k.in_interleave ps h
  interleaved_kept p h = (h, tt)

  unless_kept : (b : Bool) (p : Tree) → Q p → Q (cond b not_allowed p)
  unless_kept true p h = k.of_none
  unless_kept false p h = h

  choice_step_kept : (ps : List Tree) → AllByRecursion Q ps → Q (choice_step ps)
  choice_step_kept ps h =
      node_kept not_allowed choice k.of_none k.of_choice (sorted_once tree_cmp (flat_map alternatives ps)) (each_sorted_once Q tree_cmp (flat_map alternatives ps) (each_flat Q Q alternatives alternatives_kept ps h))

  group_step_kept : (ps : List Tree) → AllByRecursion Q ps → Q (group_step ps)
  group_step_kept ps h = unless_kept (has_not_allowed ps) (node_of empty group (flat_map grouped ps)) (node_kept empty group k.of_empty k.of_group (flat_map grouped ps) (each_flat Q Q grouped grouped_kept ps h))

  interleave_step_kept : (ps : List Tree) → AllByRecursion Q ps → Q (interleave_step ps)
  interleave_step_kept ps h =
      unless_kept (has_not_allowed ps) (node_of empty interleave (sorted tree_cmp (flat_map interleaved ps)))
      (node_kept empty interleave k.of_empty k.of_interleave (sorted tree_cmp (flat_map interleaved ps)) (each_sorted Q tree_cmp (flat_map interleaved ps) (each_flat Q Q interleaved interleaved_kept ps h)))

  one_or_more_step_kept : (p : Tree) → Q p → Q (one_or_more_step p)
  one_or_more_step_kept not_allowed h = k.of_none
  one_or_more_step_kept empty h = k.of_empty
  one_or_more_step_kept (one_or_more p) h = h
  one_or_more_step_kept p h = k.of_more p h

  list_step_kept : (p : Tree) → Q (list p) → Q (list_step p)
  list_step_kept not_allowed h = k.of_none
  list_step_kept p h = h

  attribute_step_kept : (c : NameTree) (p : Tree) → Q (attribute c p) → Q (attribute_step c p)
  attribute_step_kept c not_allowed h = k.of_none
  attribute_step_kept c p h = h

  datum_but_step_kept : (l x : Text) (ps : Parameters) (p : Tree) → Q (datum_but l x ps p) → Q (datum_but_step l x ps p)
  datum_but_step_kept l x ps not_allowed h = k.of_datum l x ps h
  datum_but_step_kept l x ps p h = h

  module _ (s : Text → Tree) (stands : (x : Text) → Q (ref x) → Q (s x)) (excepts : (l x : Text) (ps : Parameters) (p : Tree) → (Q p → Q (canonical s p)) → Q (datum_but l x ps p) → Q (datum_but l x ps (canonical s p))) where
    mutual
      pub canonical_kept : (p : Tree) → Q p → Q (canonical s p)
      canonical_kept not_allowed h = h
      canonical_kept empty h = h
      canonical_kept text h = h
      canonical_kept (ref x) h = stands x h
      canonical_kept (value l x t) h = h
      canonical_kept (datum l x ps) h = h
      canonical_kept (datum_but l x ps p) h = datum_but_step_kept l x ps (canonical s p) (excepts l x ps p (canonical_kept p) h)
      canonical_kept (list p) h = list_step_kept (canonical s p) (k.of_list p (canonical s p) (canonical_kept p) h)
      canonical_kept (attribute c p) h = attribute_step_kept (canonical_name c) (canonical s p) (k.of_attribute (canonical_name c) p (canonical s p) (canonical_kept p) (k.named_attribute c p h))
      canonical_kept (element c p) h = k.of_element (canonical_name c) p (canonical s p) (canonical_kept p) (k.named_element c p h)
      canonical_kept (one_or_more p) h = one_or_more_step_kept (canonical s p) (canonical_kept p (k.in_more p h))
      canonical_kept (group ps) h = group_step_kept (canonical_all s ps) (canonical_all_kept ps (k.in_group ps h))
      canonical_kept (interleave ps) h = interleave_step_kept (canonical_all s ps) (canonical_all_kept ps (k.in_interleave ps h))
      canonical_kept (choice ps) h = choice_step_kept (canonical_all s ps) (canonical_all_kept ps (k.in_choice ps h))

      canonical_all_kept : (ps : Trees) → AllByRecursion Q (list_of ps) → AllByRecursion Q (canonical_all s ps)
      canonical_all_kept no_trees h = tt
      canonical_all_kept (more_trees p ps) h = (canonical_kept p h.0, canonical_all_kept ps h.1)

  one_or_kept : (over : Trees → Tree) → ((ts : Trees) → AllByRecursion Q (list_of ts) → Q (over ts)) → (ps : Trees) → AllByRecursion Q (list_of ps) → Q (one_or_node over ps)
  one_or_kept over to no_trees h = to no_trees h
  one_or_kept over to (more_trees p no_trees) h = h.0
  one_or_kept over to (more_trees p (more_trees q ps)) h = to (more_trees p (more_trees q ps)) h

  opened_choice_kept : (ps : Trees) → AllByRecursion Q (list_of ps) → Q (opened_choice ps)
  opened_choice_kept (more_trees empty (more_trees p ps)) h = k.of_choice (pair (one_or_node choice (more_trees p ps)) empty) (one_or_kept choice k.of_choice (more_trees p ps) h.1, (h.0, tt))
  opened_choice_kept ps h = k.of_choice ps h

  opened_interleave_kept : (ps : Trees) → AllByRecursion Q (list_of ps) → Q (opened_interleave ps)
  opened_interleave_kept (more_trees text (more_trees p ps)) h = k.of_interleave (pair (one_or_node interleave (more_trees p ps)) text) (one_or_kept interleave k.of_interleave (more_trees p ps) h.1, (h.0, tt))
  opened_interleave_kept ps h = k.of_interleave ps h

  module _ (excepts : (l x : Text) (ps : Parameters) (p : Tree) → (Q p → Q (opened p)) → Q (datum_but l x ps p) → Q (datum_but l x ps (opened p))) where
    mutual
      pub opened_kept : (p : Tree) → Q p → Q (opened p)
      opened_kept not_allowed h = h
      opened_kept empty h = h
      opened_kept text h = h
      opened_kept (ref x) h = h
      opened_kept (value l x t) h = h
      opened_kept (datum l x ps) h = h
      opened_kept (datum_but l x ps p) h = excepts l x ps p (opened_kept p) h
      opened_kept (list p) h = k.of_list p (opened p) (opened_kept p) h
      opened_kept (attribute c p) h = k.of_attribute c p (opened p) (opened_kept p) h
      opened_kept (element c p) h = k.of_element c p (opened p) (opened_kept p) h
      opened_kept (one_or_more p) h = k.of_more (opened p) (opened_kept p (k.in_more p h))
      opened_kept (group ps) h = k.of_group (opened_all ps) (opened_all_kept ps (k.in_group ps h))
      opened_kept (interleave ps) h = opened_interleave_kept (opened_all ps) (opened_all_kept ps (k.in_interleave ps h))
      opened_kept (choice ps) h = opened_choice_kept (opened_all ps) (opened_all_kept ps (k.in_choice ps h))

      opened_all_kept : (ps : Trees) → AllByRecursion Q (list_of ps) → AllByRecursion Q (list_of (opened_all ps))
      opened_all_kept no_trees h = tt
      opened_all_kept (more_trees p ps) h = (opened_kept p h.0, opened_all_kept ps h.1)
