-- The canonical grammar has no URIs but those of the grammar.
use Rattle.std.proofs.Common.{ℕ, List, [], ◌∷◌, length, sym, subst, Contains}
use Rattle.std.specs.Prelude.{flat_map}
use Rattle.std.specs.List.{AllByRecursion}
use Rattle.rn_pattern.specs.Tree.{NameTree, NameTrees, any_name, any_name_but, ns_name, ns_name_but, name, name_choice, no_names, more_names, name_list_of, name_trees_of, Tree, Trees, not_allowed, empty, interleave, choice, no_trees, more_trees, list_of}
use Rattle.rn_text.specs.Texts.{Text}
use Rattle.rn_pattern.specs.Order.{name_cmp}
use Rattle.rn_pattern.specs.Matching.{Grammar}
use Rattle.rn_pattern.specs.Canonical.{sorted_once, name_class_of, names_within, name_choice_step, canonical_name, canonical_names, alternatives, interleaved, canonical, canonical_all, settled_within, settled_in}
use Rattle.rn_pattern.specs.Reached.{IsCanonicalOf}
use Rattle.rn_pattern.proofs.Ordered.Ascending.{each_flat, each_sorted_once}
use Rattle.rn_pattern.proofs.Ordered.InOrder.{each_contained}
use Rattle.rn_pattern.proofs.CanonicalForms.KeptByForms.{IsKept, canonical_kept}
use Rattle.rn_assemble.specs.Renamed.{HasKnownNames, HaveKnownNames, HasKnownUris, HaveKnownUris, IsOfKnownUris}
use Rattle.rn_simplify.proofs.Renaming.RenamedDefinitions.{known_definition}
use Rattle.rn_simplify.proofs.Simplified.Forms.{form_source, settled_kept}

module _ (Known : Text → Type 0) where
  -- ---- name classes

  abbrev pub AllNames : List NameTree → Type 0
  AllNames = AllByRecursion (HasKnownNames Known)

  names_all : (cs : NameTrees) → HaveKnownNames Known cs → AllNames (name_list_of cs)
  names_all no_names h = tt
  names_all (more_names c cs) h = (h.0, names_all cs h.1)

  all_names : (cs : List NameTree) → AllNames cs → HaveKnownNames Known (name_trees_of cs)
  all_names [] h = tt
  all_names (c ∷ cs) h = (h.0, all_names cs h.1)

  pub within_known : (c : NameTree) → HasKnownNames Known c → AllNames (names_within c)
  within_known (name_choice cs) h = names_all cs h
  within_known c h = (h, tt)

  class_known : (cs : List NameTree) → AllNames cs → HasKnownNames Known (name_class_of cs)
  class_known [] h = tt
  class_known (c ∷ []) h = h.0
  class_known (c ∷ d ∷ cs) h = all_names (c ∷ d ∷ cs) h

  choice_known : (cs : List NameTree) → AllNames cs → HasKnownNames Known (name_choice_step cs)
  choice_known cs h =
      class_known (sorted_once name_cmp (flat_map names_within cs))
      (each_sorted_once (HasKnownNames Known) name_cmp (flat_map names_within cs)
      (each_flat (HasKnownNames Known) (HasKnownNames Known) names_within within_known cs h))

  mutual
    pub canonical_name_known : (c : NameTree) → HasKnownNames Known c → HasKnownNames Known (canonical_name c)
    canonical_name_known any_name h = h
    canonical_name_known (any_name_but c) h = canonical_name_known c h
    canonical_name_known (ns_name u) h = h
    canonical_name_known (ns_name_but u c) h = (h.0, canonical_name_known c h.1)
    canonical_name_known (name u l) h = h
    canonical_name_known (name_choice cs) h = choice_known (canonical_names cs) (canonical_names_known cs h)

    pub canonical_names_known : (cs : NameTrees) → HaveKnownNames Known cs → AllNames (canonical_names cs)
    canonical_names_known no_names h = tt
    canonical_names_known (more_names c cs) h = (canonical_name_known c h.0, canonical_names_known cs h.1)

  -- ---- patterns

  abbrev pub AllTrees : List Tree → Type 0
  AllTrees = AllByRecursion (HasKnownUris Known)

  trees_all : (ps : Trees) → HaveKnownUris Known ps → AllTrees (list_of ps)
  trees_all no_trees h = tt
  trees_all (more_trees p ps) h = (h.0, trees_all ps h.1)

  all_trees : (ps : Trees) → AllTrees (list_of ps) → HaveKnownUris Known ps
  all_trees no_trees h = tt
  all_trees (more_trees p ps) h = (h.0, all_trees ps h.1)

  pub alternatives_known : (p : Tree) → HasKnownUris Known p → AllTrees (alternatives p)
  alternatives_known not_allowed h = tt
  alternatives_known (choice ps) h = trees_all ps h
  alternatives_known p h = (h, tt)

  pub interleaved_known : (p : Tree) → HasKnownUris Known p → AllTrees (interleaved p)
  interleaved_known empty h = tt
  interleaved_known (interleave ps) h = trees_all ps h
  interleaved_known p h = (h, tt)

  pub known_kept : IsKept (HasKnownUris Known)
  known_kept = record {
    of_none = tt;
    of_empty = tt;
    of_text = tt;
    of_datum = λ l x ps h. h.0;
    of_list = λ p q f h. f h;
    of_attribute = λ c p q f h. (h.0, f h.1);
    of_element = λ c p q f h. (h.0, f h.1);
    named_attribute = λ c p h. (canonical_name_known c h.0, h.1);
    named_element = λ c p h. (canonical_name_known c h.0, h.1);
    in_more = λ p h. h;
    of_more = λ p h. h;
    in_group = trees_all;
    of_group = all_trees;
    in_interleave = trees_all;
    of_interleave = all_trees;
    in_choice = trees_all;
    of_choice = all_trees;
  }

  -- what a reference becomes has no URI
  pub settled_known : (k : ℕ) (G : Grammar) (x : Text) → HasKnownUris Known (settled_within k G x)
  settled_known k G x = settled_kept (HasKnownUris Known) known_kept k G x tt

  module _ (settled : Text → Tree) (known : (x : Text) → HasKnownUris Known (settled x)) where
    pub canonical_known : (p : Tree) → HasKnownUris Known p → HasKnownUris Known (canonical settled p)
    canonical_known =
        canonical_kept (HasKnownUris Known) known_kept settled (λ x h. known x) (λ l x ps p f h. (h.0, f h.1))

    pub canonical_all_known : (ps : Trees) → HaveKnownUris Known ps → AllTrees (canonical_all settled ps)
    canonical_all_known no_trees h = tt
    canonical_all_known (more_trees p ps) h = (canonical_known p h.0, canonical_all_known ps h.1)

  -- ---- grammars

  form_known : (G : Grammar) (p : Tree) → HasKnownUris Known p → HasKnownUris Known (canonical (settled_in G) p)
  form_known G = canonical_known (settled_in G) (settled_known (length G.definitions) G)

  pub known_canonical : (G N : Grammar) → IsOfKnownUris Known G → IsCanonicalOf G N → IsOfKnownUris Known N
  known_canonical G N w c = record {
    start = subst (HasKnownUris Known) (sym c.start) (form_known G G.start w.start);
    definitions = each_contained (λ (d : Text × Tree). HasKnownUris Known d.1) N.definitions (λ d h. kept d.0 d.1 h);
  }
    where
      kept : (x : Text) (p : Tree) → Contains {X = Text × Tree} N.definitions (x, p) → HasKnownUris Known p
      kept x p h =
          let (q, e, is) = form_source (settled_in G) G x p ((c.definitions x p).0 h).1 in
          subst (HasKnownUris Known) is (form_known G q (known_definition Known G w x q e))
