-- A renaming keeps the order of known URIs, and so that of the name classes and patterns that have them.
use Rattle.std.proofs.Common.{◌≡◌, refl, Ordering, Less, Greater}
use Rattle.std.specs.Ordering.{ordering_then}
use Rattle.rn_pattern.specs.Tree.{NameTree, NameTrees, any_name, any_name_but, ns_name, ns_name_but, name, name_choice, no_names, more_names, Tree, Trees, not_allowed, empty, text, ref, value, datum, datum_but, list, attribute, element, one_or_more, group, interleave, choice, no_trees, more_trees}
use Rattle.rn_text.specs.Texts.{Text, text_cmp}
use Rattle.rn_pattern.specs.Order.{parameters_cmp, name_cmp, names_cmp, tree_cmp, trees_cmp}
use Rattle.rn_assemble.specs.Renamed.{renamed_class, renamed_classes, renamed_tree, renamed_trees, HasKnownNames, HaveKnownNames, HasKnownUris, HaveKnownUris, IsRenaming}

module _ (named : Text → Text) (Known : Text → Type 0) (r : IsRenaming named Known) where
  -- two known URIs are in their order, and so is what comes behind them
  uris_then : (u v : Text) (a b : Ordering) → Known u → Known v → a ≡ b
      → ordering_then (text_cmp (named u) (named v)) a ≡ ordering_then (text_cmp u v) b
  uris_then u v a b h k e = λ i. ordering_then (r.in_order u v h k i) (e i)

  mutual
    pub name_order_kept : (c d : NameTree) → HasKnownNames Known c → HasKnownNames Known d
        → name_cmp (renamed_class named c) (renamed_class named d) ≡ name_cmp c d
    name_order_kept any_name (any_name_but d) h k = refl
    name_order_kept (any_name_but c) any_name h k = refl
    name_order_kept (any_name_but c) (any_name_but d) h k = name_order_kept c d h k
    name_order_kept (ns_name u) (ns_name v) h k = r.in_order u v h k
    name_order_kept (ns_name u) (ns_name_but v d) h k = uris_then u v Less Less h k.0 refl
    name_order_kept (ns_name_but u c) (ns_name v) h k = uris_then u v Greater Greater h.0 k refl
    name_order_kept (ns_name_but u c) (ns_name_but v d) h k = uris_then u v _ _ h.0 k.0 (name_order_kept c d h.1 k.1)
    name_order_kept (name u l) (name v m) h k = uris_then u v (text_cmp l m) (text_cmp l m) h k refl
    name_order_kept (name_choice cs) (name_choice ds) h k = names_order_kept cs ds h k
    name_order_kept c d h k = refl

    pub names_order_kept : (cs ds : NameTrees) → HaveKnownNames Known cs → HaveKnownNames Known ds
        → names_cmp (renamed_classes named cs) (renamed_classes named ds) ≡ names_cmp cs ds
    names_order_kept no_names no_names h k = refl
    names_order_kept no_names (more_names d ds) h k = refl
    names_order_kept (more_names c cs) no_names h k = refl
    names_order_kept (more_names c cs) (more_names d ds) h k =
        let e = name_order_kept c d h.0 k.0 in
        let f = names_order_kept cs ds h.1 k.1 in
        λ i. ordering_then (e i) (f i)

  mutual
    pub tree_order_kept : (p q : Tree) → HasKnownUris Known p → HasKnownUris Known q
        → tree_cmp (renamed_tree named p) (renamed_tree named q) ≡ tree_cmp p q
    tree_order_kept not_allowed not_allowed h k = refl
    tree_order_kept empty empty h k = refl
    tree_order_kept text text h k = refl
    tree_order_kept (ref x) (ref y) h k = refl
    tree_order_kept (value u x s) (value v y t) h k = uris_then u v _ _ h k refl
    tree_order_kept (datum u x s) (datum v y t) h k = uris_then u v _ _ h k refl
    tree_order_kept (datum u x s) (datum_but v y t q) h k = uris_then u v _ _ h k.0 refl
    tree_order_kept (datum_but u x s p) (datum v y t) h k = uris_then u v _ _ h.0 k refl
    tree_order_kept (datum_but u x s p) (datum_but v y t q) h k =
        let e = tree_order_kept p q h.1 k.1 in
        uris_then u v _ _ h.0 k.0 (λ i. ordering_then (text_cmp x y) (ordering_then (parameters_cmp s t) (e i)))
    tree_order_kept (list p) (list q) h k = tree_order_kept p q h k
    tree_order_kept (attribute c p) (attribute d q) h k =
        let e = name_order_kept c d h.0 k.0 in
        let f = tree_order_kept p q h.1 k.1 in
        λ i. ordering_then (e i) (f i)
    tree_order_kept (element c p) (element d q) h k =
        let e = name_order_kept c d h.0 k.0 in
        let f = tree_order_kept p q h.1 k.1 in
        λ i. ordering_then (e i) (f i)
    tree_order_kept (one_or_more p) (one_or_more q) h k = tree_order_kept p q h k
    tree_order_kept (group ps) (group qs) h k = trees_order_kept ps qs h k
    tree_order_kept (interleave ps) (interleave qs) h k = trees_order_kept ps qs h k
    tree_order_kept (choice ps) (choice qs) h k = trees_order_kept ps qs h k
    tree_order_kept p q h k = refl

    pub trees_order_kept : (ps qs : Trees) → HaveKnownUris Known ps → HaveKnownUris Known qs
        → trees_cmp (renamed_trees named ps) (renamed_trees named qs) ≡ trees_cmp ps qs
    trees_order_kept no_trees no_trees h k = refl
    trees_order_kept no_trees (more_trees q qs) h k = refl
    trees_order_kept (more_trees p ps) no_trees h k = refl
    trees_order_kept (more_trees p ps) (more_trees q qs) h k =
        let e = tree_order_kept p q h.0 k.0 in
        let f = trees_order_kept ps qs h.1 k.1 in
        λ i. ordering_then (e i) (f i)
