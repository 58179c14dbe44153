-- The canonical form of a renamed name class is the canonical form, renamed.
use Rattle.std.proofs.Common.{◌≡◌, List, [], ◌∷◌, map, refl, ap, ◌∙◌}
use Rattle.std.specs.Prelude.{flat_map}
use Rattle.rn_pattern.specs.Tree.{NameTree, NameTrees, any_name, any_name_but, ns_name, ns_name_but, name, name_choice, no_names, more_names, name_list_of, name_trees_of}
use Rattle.rn_text.specs.Texts.{Text}
use Rattle.rn_pattern.specs.Order.{name_cmp}
use Rattle.rn_pattern.specs.Canonical.{sorted_once, name_class_of, names_within, name_choice_step, canonical_name, canonical_names}
use Rattle.rn_pattern.proofs.Ordered.Ascending.{each_flat}
use Rattle.rn_assemble.specs.Renamed.{renamed_class, renamed_classes, HasKnownNames, HaveKnownNames, IsRenaming}
use Rattle.rn_simplify.proofs.Renaming.KeptOrder.{name_order_kept}
use Rattle.rn_simplify.proofs.Renaming.MappedLists.{flat_map-mapped, sorted_once-mapped}
use Rattle.rn_simplify.proofs.Renaming.KnownUris.{AllNames, within_known, canonical_names_known}

module _ (named : Text → Text) where
  abbrev called : NameTree → NameTree
  called = renamed_class named

  name_list_of-renamed : (cs : NameTrees) → name_list_of (renamed_classes named cs) ≡ map called (name_list_of cs)
  name_list_of-renamed no_names = refl
  name_list_of-renamed (more_names c cs) = ap (λ ds. called c ∷ ds) (name_list_of-renamed cs)

  name_trees_of-renamed : (cs : List NameTree) → name_trees_of (map called cs) ≡ renamed_classes named (name_trees_of cs)
  name_trees_of-renamed [] = refl
  name_trees_of-renamed (c ∷ cs) = ap (more_names (called c)) (name_trees_of-renamed cs)

  names_within-renamed : (c : NameTree) → names_within (called c) ≡ map called (names_within c)
  names_within-renamed (name_choice cs) = name_list_of-renamed cs
  names_within-renamed c = refl

  name_class_of-renamed : (cs : List NameTree) → name_class_of (map called cs) ≡ called (name_class_of cs)
  name_class_of-renamed [] = refl
  name_class_of-renamed (c ∷ []) = refl
  name_class_of-renamed (c ∷ d ∷ cs) = ap name_choice (name_trees_of-renamed (c ∷ d ∷ cs))

  module _ (Known : Text → Type 0) (r : IsRenaming named Known) where
    choice_step-renamed : (cs : List NameTree) → AllNames Known cs
        → name_choice_step (map called cs) ≡ called (name_choice_step cs)
    choice_step-renamed cs h =
        let flat = flat_map names_within cs in
        ap (λ ds. name_class_of (sorted_once name_cmp ds)) (flat_map-mapped called names_within names_within-renamed cs)
        ∙ ap name_class_of
        (sorted_once-mapped name_cmp called (HasKnownNames Known) (name_order_kept named Known r) flat
        (each_flat (HasKnownNames Known) (HasKnownNames Known) names_within (within_known Known) cs h))
        ∙ name_class_of-renamed (sorted_once name_cmp flat)

    mutual
      pub canonical_name-renamed : (c : NameTree) → HasKnownNames Known c
          → canonical_name (renamed_class named c) ≡ renamed_class named (canonical_name c)
      canonical_name-renamed any_name h = refl
      canonical_name-renamed (any_name_but c) h = ap any_name_but (canonical_name-renamed c h)
      canonical_name-renamed (ns_name u) h = refl
      canonical_name-renamed (ns_name_but u c) h = ap (ns_name_but (named u)) (canonical_name-renamed c h.1)
      canonical_name-renamed (name u l) h = refl
      canonical_name-renamed (name_choice cs) h =
          ap name_choice_step (canonical_names-renamed cs h)
          ∙ choice_step-renamed (canonical_names cs) (canonical_names_known Known cs h)

      canonical_names-renamed : (cs : NameTrees) → HaveKnownNames Known cs
          → canonical_names (renamed_classes named cs) ≡ map called (canonical_names cs)
      canonical_names-renamed no_names h = refl
      canonical_names-renamed (more_names c cs) h =
          let e = canonical_name-renamed c h.0 in
          let more = canonical_names-renamed cs h.1 in
          λ i. e i ∷ more i
