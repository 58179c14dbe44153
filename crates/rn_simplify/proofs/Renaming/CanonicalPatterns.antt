-- The canonical form of a renamed pattern is the canonical form, renamed.
use Rattle.std.proofs.Common.{◌≡◌, Bool, true, false, ◌||◌, cond, List, [], ◌∷◌, map, refl, sym, ap, ◌∙◌}
use Rattle.std.specs.Prelude.{flat_map}
use Rattle.rn_pattern.specs.Tree.{Parameters, NameTree, Tree, Trees, not_allowed, empty, text, ref, value, datum, datum_but, list, attribute, element, one_or_more, group, interleave, choice, no_trees, more_trees, list_of, trees_of}
use Rattle.rn_text.specs.Texts.{Text}
use Rattle.rn_pattern.specs.Order.{tree_cmp}
use Rattle.rn_pattern.specs.Canonical.{sorted, sorted_once, canonical_name, node_of, is_not_allowed, has_not_allowed, alternatives, grouped, interleaved, choice_step, group_step, interleave_step, one_or_more_step, list_step, attribute_step, datum_but_step, canonical, canonical_all}
use Rattle.rn_pattern.proofs.Ordered.Ascending.{each_flat}
use Rattle.rn_assemble.specs.Renamed.{renamed_class, renamed_tree, renamed_trees, HasKnownUris, HaveKnownUris, IsRenaming}
use Rattle.rn_assemble.proofs.Renaming.RenamedGrammars.{trees_of-renamed}
use Rattle.rn_simplify.proofs.Renaming.KeptOrder.{tree_order_kept}
use Rattle.rn_simplify.proofs.Renaming.MappedLists.{flat_map-mapped, sorted-mapped, sorted_once-mapped}
use Rattle.rn_simplify.proofs.Renaming.KnownUris.{AllTrees, alternatives_known, interleaved_known, canonical_all_known}
use Rattle.rn_simplify.proofs.Renaming.CanonicalNames.{canonical_name-renamed}

module _ (named : Text → Text) where
  abbrev called : Tree → Tree
  called = renamed_tree named

  -- ---- lists of patterns

  list_of-renamed : (ps : Trees) → list_of (renamed_trees named ps) ≡ map called (list_of ps)
  list_of-renamed no_trees = refl
  list_of-renamed (more_trees p ps) = ap (λ qs. called p ∷ qs) (list_of-renamed ps)

  alternatives-renamed : (p : Tree) → alternatives (called p) ≡ map called (alternatives p)
  alternatives-renamed (choice ps) = list_of-renamed ps
  alternatives-renamed p = refl

  grouped-renamed : (p : Tree) → grouped (called p) ≡ map called (grouped p)
  grouped-renamed (group ps) = list_of-renamed ps
  grouped-renamed p = refl

  interleaved-renamed : (p : Tree) → interleaved (called p) ≡ map called (interleaved p)
  interleaved-renamed (interleave ps) = list_of-renamed ps
  interleaved-renamed p = refl

  is_not_allowed-renamed : (p : Tree) → is_not_allowed (called p) ≡ is_not_allowed p
  is_not_allowed-renamed not_allowed = refl
  is_not_allowed-renamed p = refl

  has_not_allowed-renamed : (ps : List Tree) → has_not_allowed (map called ps) ≡ has_not_allowed ps
  has_not_allowed-renamed [] = refl
  has_not_allowed-renamed (p ∷ ps) =
      let e = is_not_allowed-renamed p in
      let more = has_not_allowed-renamed ps in
      λ i. e i || more i

  node_of-renamed : (none : Tree) (over : Trees → Tree) → called none ≡ none
      → ((ts : Trees) → over (renamed_trees named ts) ≡ called (over ts)) → (ps : List Tree)
      → node_of none over (map called ps) ≡ called (node_of none over ps)
  node_of-renamed none over n o [] = sym n
  node_of-renamed none over n o (p ∷ []) = refl
  node_of-renamed none over n o (p ∷ q ∷ ps) = ap over (trees_of-renamed named (p ∷ q ∷ ps)) ∙ o (trees_of (p ∷ q ∷ ps))

  -- notAllowed, or p
  unless-renamed : (b : Bool) (p : Tree) → cond b not_allowed (called p) ≡ called (cond b not_allowed p)
  unless-renamed true p = refl
  unless-renamed false p = refl

  -- ---- one step

  one_or_more_step-renamed : (p : Tree) → one_or_more_step (called p) ≡ called (one_or_more_step p)
  one_or_more_step-renamed not_allowed = refl
  one_or_more_step-renamed empty = refl
  one_or_more_step-renamed (one_or_more p) = refl
  one_or_more_step-renamed p = refl

  list_step-renamed : (p : Tree) → list_step (called p) ≡ called (list_step p)
  list_step-renamed not_allowed = refl
  list_step-renamed p = refl

  attribute_step-renamed : (c : NameTree) (p : Tree)
      → attribute_step (renamed_class named c) (called p) ≡ called (attribute_step c p)
  attribute_step-renamed c not_allowed = refl
  attribute_step-renamed c p = refl

  datum_but_step-renamed : (l x : Text) (ps : Parameters) (p : Tree)
      → datum_but_step (named l) x ps (called p) ≡ called (datum_but_step l x ps p)
  datum_but_step-renamed l x ps not_allowed = refl
  datum_but_step-renamed l x ps p = refl

  group_step-renamed : (ps : List Tree) → group_step (map called ps) ≡ called (group_step ps)
  group_step-renamed ps =
      let e = has_not_allowed-renamed ps in
      let flat = flat_map-mapped called grouped grouped-renamed ps in
      let node = ap (node_of empty group) flat ∙ node_of-renamed empty group refl (λ ts. refl) (flat_map grouped ps) in
      (λ i. cond (e i) not_allowed (node i))
      ∙ unless-renamed (has_not_allowed ps) (node_of empty group (flat_map grouped ps))

  module _ (Known : Text → Type 0) (r : IsRenaming named Known) where
    choice_step-renamed : (ps : List Tree) → AllTrees Known ps → choice_step (map called ps) ≡ called (choice_step ps)
    choice_step-renamed ps h =
        let flat = flat_map alternatives ps in
        ap (λ qs. node_of not_allowed choice (sorted_once tree_cmp qs))
        (flat_map-mapped called alternatives alternatives-renamed ps)
        ∙ ap (node_of not_allowed choice)
        (sorted_once-mapped tree_cmp called (HasKnownUris Known) (tree_order_kept named Known r) flat
        (each_flat (HasKnownUris Known) (HasKnownUris Known) alternatives (alternatives_known Known) ps h))
        ∙ node_of-renamed not_allowed choice refl (λ ts. refl) (sorted_once tree_cmp flat)

    interleave_step-renamed : (ps : List Tree) → AllTrees Known ps
        → interleave_step (map called ps) ≡ called (interleave_step ps)
    interleave_step-renamed ps h =
        let flat = flat_map interleaved ps in
        let e = has_not_allowed-renamed ps in
        let node =
        ap (λ qs. node_of empty interleave (sorted tree_cmp qs))
        (flat_map-mapped called interleaved interleaved-renamed ps)
        ∙ ap (node_of empty interleave)
        (sorted-mapped tree_cmp called (HasKnownUris Known) (tree_order_kept named Known r) flat
        (each_flat (HasKnownUris Known) (HasKnownUris Known) interleaved (interleaved_known Known) ps h))
        ∙ node_of-renamed empty interleave refl (λ ts. refl) (sorted tree_cmp flat) in
        (λ i. cond (e i) not_allowed (node i))
        ∙ unless-renamed (has_not_allowed ps) (node_of empty interleave (sorted tree_cmp flat))

    -- ---- the canonical form

    -- settled': what references become in the renamed grammar
    module _ (settled settled' : Text → Tree) (known : (x : Text) → HasKnownUris Known (settled x))
        (same : (x : Text) → settled' x ≡ renamed_tree named (settled x)) where
      mutual
        pub form-renamed : (p : Tree) → HasKnownUris Known p
            → canonical settled' (renamed_tree named p) ≡ renamed_tree named (canonical settled p)
        form-renamed not_allowed h = refl
        form-renamed empty h = refl
        form-renamed text h = refl
        form-renamed (ref x) h = same x
        form-renamed (value l x t) h = refl
        form-renamed (datum l x ps) h = refl
        form-renamed (datum_but l x ps p) h =
            ap (datum_but_step (named l) x ps) (form-renamed p h.1)
            ∙ datum_but_step-renamed l x ps (canonical settled p)
        form-renamed (list p) h = ap list_step (form-renamed p h) ∙ list_step-renamed (canonical settled p)
        form-renamed (attribute c p) h =
            let e = canonical_name-renamed named Known r c h.0 in
            let f = form-renamed p h.1 in
            (λ i. attribute_step (e i) (f i)) ∙ attribute_step-renamed (canonical_name c) (canonical settled p)
        form-renamed (element c p) h =
            let e = canonical_name-renamed named Known r c h.0 in
            let f = form-renamed p h.1 in
            λ i. element (e i) (f i)
        form-renamed (one_or_more p) h =
            ap one_or_more_step (form-renamed p h) ∙ one_or_more_step-renamed (canonical settled p)
        form-renamed (group ps) h =
            ap group_step (forms-renamed ps h) ∙ group_step-renamed (canonical_all settled ps)
        form-renamed (interleave ps) h =
            ap interleave_step (forms-renamed ps h)
            ∙ interleave_step-renamed (canonical_all settled ps) (canonical_all_known Known settled known ps h)
        form-renamed (choice ps) h =
            ap choice_step (forms-renamed ps h)
            ∙ choice_step-renamed (canonical_all settled ps) (canonical_all_known Known settled known ps h)

        forms-renamed : (ps : Trees) → HaveKnownUris Known ps
            → canonical_all settled' (renamed_trees named ps) ≡ map called (canonical_all settled ps)
        forms-renamed no_trees h = refl
        forms-renamed (more_trees p ps) h =
            let e = form-renamed p h.0 in
            let more = forms-renamed ps h.1 in
            λ i. e i ∷ more i
