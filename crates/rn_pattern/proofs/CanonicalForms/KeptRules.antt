-- References, excepts and the restrictions on name classes are kept by the canonical form and by opening.
use Rattle.std.proofs.Common.{inl, inr, List, [], ◌∷◌, sym, subst}
use Rattle.std.specs.Prelude.{flat_map}
use Rattle.rn_pattern.specs.Tree.{Parameters, NameTree, NameTrees, any_name, any_name_but, ns_name, ns_name_but, name, name_choice, no_names, more_names, name_list_of, name_trees_of, Tree, Trees, not_allowed, empty, value, datum, datum_but, choice, no_trees, more_trees, list_of, trees_of}
use Rattle.rn_text.specs.Texts.{Text}
use Rattle.rn_pattern.specs.Order.{name_cmp, tree_cmp}
use Rattle.rn_pattern.specs.Canonical.{sorted_once, name_class_of, names_within, name_choice_step, canonical_name, canonical_names, node_of, alternatives, datum_but_step, canonical, canonical_all}
use Rattle.rn_pattern.specs.Opened.{opened_choice, opened, opened_all}
use Rattle.rn_pattern.specs.Reached.{RefersTo, SomeRefersTo}
use Rattle.rn_pattern.specs.References.{RefersOutside, SomeRefersOutside}
use Rattle.rn_pattern.specs.Excepts.{IsExcept, AreExcepts, HasExcepts, HaveExcepts}
use Rattle.rn_pattern.specs.NameRules.{HasNoAny, HaveNoAny, HasNamesAlone, HaveNamesAlone, HasNameExcepts, HaveNameExcepts, HasNoDeclaration, HaveNoDeclaration, KeepsNameRules, KeepNameRules}
use Rattle.rn_pattern.proofs.Ordered.Ascending.{each_flat, each_sorted_once}
use Rattle.rn_pattern.proofs.Matches.NamesKept.{name_list_of-name_trees_of}
use Rattle.rn_pattern.proofs.CanonicalForms.KeptByForms.{IsKept}
use Rattle.std.specs.List.{AllByRecursion}

-- P holds of each name that the pattern refers to
abbrev pub RefersIn : (Text → Type 0) → Tree → Type 0
RefersIn P p = (x : Text) → RefersTo x p → P x

abbrev pub RefersOutsideIn : (Text → Type 0) → Tree → Type 0
RefersOutsideIn P p = (x : Text) → RefersOutside x p → P x

module _ (P : Text → Type 0) where
  each_refers : (ps : Trees) → ((x : Text) → SomeRefersTo x ps → P x) → AllByRecursion (RefersIn P) (list_of ps)
  each_refers no_trees h = tt
  each_refers (more_trees p ps) h = (λ x r. h x (inl r), each_refers ps (λ x r. h x (inr r)))

  refers_each : (ps : Trees) → AllByRecursion (RefersIn P) (list_of ps) → (x : Text) → SomeRefersTo x ps → P x
  refers_each no_trees h x r = absurd r
  refers_each (more_trees p ps) h x (inl r) = h.0 x r
  refers_each (more_trees p ps) h x (inr r) = refers_each ps h.1 x r

  pub refers_kept : IsKept (RefersIn P)
  refers_kept = record {
    of_none = λ x r. absurd r;
    of_empty = λ x r. absurd r;
    of_text = λ x r. absurd r;
    of_datum = λ l t ps h x r. absurd r;
    of_list = λ p q f h. f h;
    of_attribute = λ c p q f h. f h;
    of_element = λ c p q f h. f h;
    named_attribute = λ c p h. h;
    named_element = λ c p h. h;
    in_more = λ p h. h;
    of_more = λ p h. h;
    in_group = each_refers;
    of_group = refers_each;
    in_interleave = each_refers;
    of_interleave = refers_each;
    in_choice = each_refers;
    of_choice = refers_each;
  }

  each_outside : (ps : Trees) → ((x : Text) → SomeRefersOutside x ps → P x) → AllByRecursion (RefersOutsideIn P) (list_of ps)
  each_outside no_trees h = tt
  each_outside (more_trees p ps) h = (λ x r. h x (inl r), each_outside ps (λ x r. h x (inr r)))

  outside_each : (ps : Trees) → AllByRecursion (RefersOutsideIn P) (list_of ps) → (x : Text) → SomeRefersOutside x ps → P x
  outside_each no_trees h x r = absurd r
  outside_each (more_trees p ps) h x (inl r) = h.0 x r
  outside_each (more_trees p ps) h x (inr r) = outside_each ps h.1 x r

  pub outside_kept : IsKept (RefersOutsideIn P)
  outside_kept = record {
    of_none = λ x r. absurd r;
    of_empty = λ x r. absurd r;
    of_text = λ x r. absurd r;
    of_datum = λ l t ps h x r. absurd r;
    of_list = λ p q f h. f h;
    of_attribute = λ c p q f h. f h;
    of_element = λ c p q f h x r. absurd r;
    named_attribute = λ c p h. h;
    named_element = λ c p h x r. absurd r;
    in_more = λ p h. h;
    of_more = λ p h. h;
    in_group = each_outside;
    of_group = outside_each;
    in_interleave = each_outside;
    of_interleave = outside_each;
    in_choice = each_outside;
    of_choice = outside_each;
  }

each_has : (ps : Trees) → HaveExcepts ps → AllByRecursion HasExcepts (list_of ps)
each_has no_trees h = tt
each_has (more_trees p ps) h = (h.0, each_has ps h.1)

has_each : (ps : Trees) → AllByRecursion HasExcepts (list_of ps) → HaveExcepts ps
has_each no_trees h = tt
has_each (more_trees p ps) h = (h.0, has_each ps h.1)

pub excepts_kept : IsKept HasExcepts
excepts_kept = record {
  of_none = tt;
  of_empty = tt;
  of_text = tt;
  of_datum = λ l x ps h. tt;
  of_list = λ p q f h. f h;
  of_attribute = λ c p q f h. f h;
  of_element = λ c p q f h. f h;
  named_attribute = λ c p h. h;
  named_element = λ c p h. h;
  in_more = λ p h. h;
  of_more = λ p h. h;
  in_group = each_has;
  of_group = has_each;
  in_interleave = each_has;
  of_interleave = has_each;
  in_choice = each_has;
  of_choice = has_each;
}

each_except : (ps : Trees) → AreExcepts ps → AllByRecursion IsExcept (list_of ps)
each_except no_trees h = tt
each_except (more_trees p ps) h = (h.0, each_except ps h.1)

except_each : (ps : List Tree) → AllByRecursion IsExcept ps → AreExcepts (trees_of ps)
except_each [] h = tt
except_each (p ∷ ps) h = (h.0, except_each ps h.1)

alternatives_except : (p : Tree) → IsExcept p → AllByRecursion IsExcept (alternatives p)
alternatives_except not_allowed h = tt
alternatives_except (choice ps) h = each_except ps h
alternatives_except p h = (h, tt)

except_node : (ps : List Tree) → AllByRecursion IsExcept ps → IsExcept (node_of not_allowed choice ps)
except_node [] h = tt
except_node (p ∷ []) h = h.0
except_node (p ∷ q ∷ ps) h = except_each (p ∷ q ∷ ps) h

except_datum : (l x : Text) (ps : Parameters) (p : Tree) → IsExcept p → IsExcept (datum_but_step l x ps p)
except_datum l x ps not_allowed h = tt
except_datum l x ps p h = h

module _ (s : Text → Tree) where
  mutual
    -- an except stays one
    pub canonical_except : (p : Tree) → IsExcept p → IsExcept (canonical s p)
    canonical_except not_allowed h = tt
    canonical_except (value l x t) h = tt
    canonical_except (datum l x ps) h = tt
    canonical_except (datum_but l x ps p) h = except_datum l x ps (canonical s p) (canonical_except p h)
    canonical_except (choice ps) h =
        let flat = flat_map alternatives (canonical_all s ps) in
        except_node (sorted_once tree_cmp flat) (each_sorted_once IsExcept tree_cmp flat (each_flat IsExcept IsExcept alternatives alternatives_except (canonical_all s ps) (canonical_excepts ps h)))
    canonical_except p h = absurd h

    canonical_excepts : (ps : Trees) → AreExcepts ps → AllByRecursion IsExcept (canonical_all s ps)
    canonical_excepts no_trees h = tt
    canonical_excepts (more_trees p ps) h = (canonical_except p h.0, canonical_excepts ps h.1)

-- no member of an except is empty, so that none is put last
opened_choice_except : (ps : Trees) → AreExcepts ps → IsExcept (opened_choice ps)
opened_choice_except (more_trees empty (more_trees p ps)) h = absurd h.0
opened_choice_except ps h = h

mutual
  pub opened_except : (p : Tree) → IsExcept p → IsExcept (opened p)
  opened_except not_allowed h = tt
  opened_except (value l x t) h = tt
  opened_except (datum l x ps) h = tt
  opened_except (datum_but l x ps p) h = opened_except p h
  opened_except (choice ps) h = opened_choice_except (opened_all ps) (opened_excepts ps h)
  opened_except p h = absurd h

  opened_excepts : (ps : Trees) → AreExcepts ps → AreExcepts (opened_all ps)
  opened_excepts no_trees h = tt
  opened_excepts (more_trees p ps) h = (opened_except p h.0, opened_excepts ps h.1)

-- what holds of a choice of names where it holds of each
module _ (K : NameTree → Type 0) (inside : (cs : NameTrees) → K (name_choice cs) → AllByRecursion K (name_list_of cs)) (over : (cs : NameTrees) → AllByRecursion K (name_list_of cs) → K (name_choice cs)) where
  names_within_kept : (c : NameTree) → K c → AllByRecursion K (names_within c)
  names_within_kept (name_choice cs) h = inside cs h
  names_within_kept c h = (h, tt)

  class_kept : (cs : List NameTree) → AllByRecursion K cs → K (name_class_of cs)
  class_kept [] h = over no_names tt
  class_kept (c ∷ []) h = h.0
  class_kept (c ∷ d ∷ cs) h = over (name_trees_of (c ∷ d ∷ cs)) (subst (AllByRecursion K) (sym (name_list_of-name_trees_of (c ∷ d ∷ cs))) h)

  name_step_kept : (cs : List NameTree) → AllByRecursion K cs → K (name_choice_step cs)
  name_step_kept cs h = class_kept (sorted_once name_cmp (flat_map names_within cs)) (each_sorted_once K name_cmp (flat_map names_within cs) (each_flat K K names_within names_within_kept cs h))

each_no_any : (cs : NameTrees) → HaveNoAny cs → AllByRecursion HasNoAny (name_list_of cs)
each_no_any no_names h = tt
each_no_any (more_names c cs) h = (h.0, each_no_any cs h.1)

no_any_each : (cs : NameTrees) → AllByRecursion HasNoAny (name_list_of cs) → HaveNoAny cs
no_any_each no_names h = tt
no_any_each (more_names c cs) h = (h.0, no_any_each cs h.1)

mutual
  canonical_no_any : (c : NameTree) → HasNoAny c → HasNoAny (canonical_name c)
  canonical_no_any any_name h = h
  canonical_no_any (any_name_but c) h = h
  canonical_no_any (ns_name u) h = h
  canonical_no_any (ns_name_but u c) h = canonical_no_any c h
  canonical_no_any (name u l) h = h
  canonical_no_any (name_choice cs) h = name_step_kept HasNoAny each_no_any no_any_each (canonical_names cs) (canonical_all_no_any cs h)

  canonical_all_no_any : (cs : NameTrees) → HaveNoAny cs → AllByRecursion HasNoAny (canonical_names cs)
  canonical_all_no_any no_names h = tt
  canonical_all_no_any (more_names c cs) h = (canonical_no_any c h.0, canonical_all_no_any cs h.1)

each_alone : (cs : NameTrees) → HaveNamesAlone cs → AllByRecursion HasNamesAlone (name_list_of cs)
each_alone no_names h = tt
each_alone (more_names c cs) h = (h.0, each_alone cs h.1)

alone_each : (cs : NameTrees) → AllByRecursion HasNamesAlone (name_list_of cs) → HaveNamesAlone cs
alone_each no_names h = tt
alone_each (more_names c cs) h = (h.0, alone_each cs h.1)

mutual
  canonical_alone : (c : NameTree) → HasNamesAlone c → HasNamesAlone (canonical_name c)
  canonical_alone (name u l) h = h
  canonical_alone (name_choice cs) h = name_step_kept HasNamesAlone each_alone alone_each (canonical_names cs) (canonical_all_alone cs h)
  canonical_alone c h = absurd h

  canonical_all_alone : (cs : NameTrees) → HaveNamesAlone cs → AllByRecursion HasNamesAlone (canonical_names cs)
  canonical_all_alone no_names h = tt
  canonical_all_alone (more_names c cs) h = (canonical_alone c h.0, canonical_all_alone cs h.1)

each_name_excepts : (cs : NameTrees) → HaveNameExcepts cs → AllByRecursion HasNameExcepts (name_list_of cs)
each_name_excepts no_names h = tt
each_name_excepts (more_names c cs) h = (h.0, each_name_excepts cs h.1)

name_excepts_each : (cs : NameTrees) → AllByRecursion HasNameExcepts (name_list_of cs) → HaveNameExcepts cs
name_excepts_each no_names h = tt
name_excepts_each (more_names c cs) h = (h.0, name_excepts_each cs h.1)

mutual
  pub canonical_name_excepts : (c : NameTree) → HasNameExcepts c → HasNameExcepts (canonical_name c)
  canonical_name_excepts any_name h = h
  canonical_name_excepts (any_name_but c) h = (canonical_no_any c h.0, canonical_name_excepts c h.1)
  canonical_name_excepts (ns_name u) h = h
  canonical_name_excepts (ns_name_but u c) h = (canonical_alone c h.0, canonical_name_excepts c h.1)
  canonical_name_excepts (name u l) h = h
  canonical_name_excepts (name_choice cs) h = name_step_kept HasNameExcepts each_name_excepts name_excepts_each (canonical_names cs) (canonical_all_name_excepts cs h)

  canonical_all_name_excepts : (cs : NameTrees) → HaveNameExcepts cs → AllByRecursion HasNameExcepts (canonical_names cs)
  canonical_all_name_excepts no_names h = tt
  canonical_all_name_excepts (more_names c cs) h = (canonical_name_excepts c h.0, canonical_all_name_excepts cs h.1)

each_undeclared : (cs : NameTrees) → HaveNoDeclaration cs → AllByRecursion HasNoDeclaration (name_list_of cs)
each_undeclared no_names h = tt
each_undeclared (more_names c cs) h = (h.0, each_undeclared cs h.1)

undeclared_each : (cs : NameTrees) → AllByRecursion HasNoDeclaration (name_list_of cs) → HaveNoDeclaration cs
undeclared_each no_names h = tt
undeclared_each (more_names c cs) h = (h.0, undeclared_each cs h.1)

mutual
  pub canonical_undeclared : (c : NameTree) → HasNoDeclaration c → HasNoDeclaration (canonical_name c)
  canonical_undeclared any_name h = h
  canonical_undeclared (any_name_but c) h = canonical_undeclared c h
  canonical_undeclared (ns_name u) h = h
  canonical_undeclared (ns_name_but u c) h = (h.0, canonical_undeclared c h.1)
  canonical_undeclared (name u l) h = h
  canonical_undeclared (name_choice cs) h = name_step_kept HasNoDeclaration each_undeclared undeclared_each (canonical_names cs) (canonical_all_undeclared cs h)

  canonical_all_undeclared : (cs : NameTrees) → HaveNoDeclaration cs → AllByRecursion HasNoDeclaration (canonical_names cs)
  canonical_all_undeclared no_names h = tt
  canonical_all_undeclared (more_names c cs) h = (canonical_undeclared c h.0, canonical_all_undeclared cs h.1)

each_rules : (ps : Trees) → KeepNameRules ps → AllByRecursion KeepsNameRules (list_of ps)
each_rules no_trees h = tt
each_rules (more_trees p ps) h = (h.0, each_rules ps h.1)

rules_each : (ps : Trees) → AllByRecursion KeepsNameRules (list_of ps) → KeepNameRules ps
rules_each no_trees h = tt
rules_each (more_trees p ps) h = (h.0, rules_each ps h.1)

pub name_rules_kept : IsKept KeepsNameRules
name_rules_kept = record {
  of_none = tt;
  of_empty = tt;
  of_text = tt;
  of_datum = λ l x ps h. tt;
  of_list = λ p q f h. f h;
  of_attribute = λ c p q f h. (h.0, h.1, f h.2);
  of_element = λ c p q f h. (h.0, f h.1);
  named_attribute = λ c p h. (canonical_name_excepts c h.0, canonical_undeclared c h.1, h.2);
  named_element = λ c p h. (canonical_name_excepts c h.0, h.1);
  in_more = λ p h. h;
  of_more = λ p h. h;
  in_group = each_rules;
  of_group = rules_each;
  in_interleave = each_rules;
  of_interleave = rules_each;
  in_choice = each_rules;
  of_choice = rules_each;
}
