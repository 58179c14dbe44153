-- A renamed pattern is written under the renamed prefixes as the pattern is under its own.
use Rattle.std.proofs.Common.{◌≡◌, [], ◌∷◌, ◌++◌, refl, cond, ◌&&◌}
use Rattle.std.specs.Prelude.{bytes_eq, codes}
use Rattle.rn_text.specs.Texts.{Text}
use Rattle.rn_pattern.specs.Tree.{Parameters, NameTree, NameTrees, any_name, any_name_but, ns_name, ns_name_but, name, name_choice, no_names, more_names, Tree, Trees, not_allowed, empty, text, ref, value, datum, datum_but, list, attribute, element, one_or_more, group, interleave, choice, no_trees, more_trees}
use Rattle.rn_assemble.specs.Renamed.{renamed_class, renamed_classes, renamed_tree, renamed_trees, HasKnownNames, HaveKnownNames, HasKnownUris, HaveKnownUris, IsRenaming}
use Rattle.rn_simplify.specs.Spelling.{Prefixes, space, symbol, keyword, any_of, infix_of, comma, literal, in_braces, closed, chained, node_text, with_except, chain, written_name, written_names, written_repeat, written_choice, written_interleave, params_pieces, datum_pieces, value_pieces, written_tree, written_trees}
use Rattle.rn_assemble.proofs.Renaming.KnownTexts.{is_empty}
use Rattle.rn_simplify.proofs.Renaming.RenamedPrefixes.{renamed_prefixes, HasKnownTexts, namespace_prefix_renamed, type_piece_renamed, name_piece_renamed}

module _ {named : Text → Text} {Known : Text → Type 0} (r : IsRenaming named Known)
    (f : Prefixes) (k : HasKnownTexts Known f) where
  abbrev g : Prefixes
  g = renamed_prefixes named f

  mutual
    pub written_name_renamed : (n : NameTree) → HasKnownNames Known n
        → written_name g (renamed_class named n) ≡ written_name f n
    written_name_renamed any_name h = refl
    written_name_renamed (any_name_but n) h =
        λ i. node_text chained (with_except (symbol (codes "*") ∷ []) (written_name_renamed n h i))
    written_name_renamed (ns_name u) h = λ i. node_text closed (any_of (namespace_prefix_renamed r f k u h i) ∷ [])
    written_name_renamed (ns_name_but u n) h =
        λ i. node_text chained
        (with_except (any_of (namespace_prefix_renamed r f k u h.0 i) ∷ []) (written_name_renamed n h.1 i))
    written_name_renamed (name u l) h = λ i. node_text closed (name_piece_renamed r f k u l h i ∷ [])
    written_name_renamed (name_choice ns) h =
        λ i. node_text chained (chain (infix_of (codes "|")) (written_names_renamed ns h i))

    written_names_renamed : (ns : NameTrees) → HaveKnownNames Known ns
        → written_names g (renamed_classes named ns) ≡ written_names f ns
    written_names_renamed no_names h = refl
    written_names_renamed (more_names n ns) h = λ i. written_name_renamed n h.0 i ∷ written_names_renamed ns h.1 i

  value_pieces_renamed : (l x s : Text) → Known l → value_pieces g (named l) x s ≡ value_pieces f l x s
  value_pieces_renamed l x s h =
      λ i. cond (is_empty r l h i && bytes_eq x (codes "token")) (literal s)
      (type_piece_renamed r f k l x h i ∷ space ∷ literal s)

  datum_pieces_renamed : (l x : Text) (ps : Parameters) → Known l
      → datum_pieces g (named l) x ps ≡ datum_pieces f l x ps
  datum_pieces_renamed l x [] h = λ i. type_piece_renamed r f k l x h i ∷ []
  datum_pieces_renamed l x (e ∷ es) h = λ i. type_piece_renamed r f k l x h i ∷ in_braces (params_pieces (e ∷ es))

  mutual
    pub written_tree_renamed : (p : Tree) → HasKnownUris Known p → written_tree g (renamed_tree named p) ≡ written_tree f p
    written_tree_renamed not_allowed h = refl
    written_tree_renamed empty h = refl
    written_tree_renamed text h = refl
    written_tree_renamed (ref x) h = refl
    written_tree_renamed (value l x s) h = λ i. node_text closed (value_pieces_renamed l x s h i)
    written_tree_renamed (datum l x ps) h = λ i. node_text closed (datum_pieces_renamed l x ps h i)
    written_tree_renamed (datum_but l x ps p) h =
        λ i. node_text chained (with_except (datum_pieces_renamed l x ps h.0 i) (written_tree_renamed p h.1 i))
    written_tree_renamed (list p) h =
        λ i. node_text closed (keyword (codes "list") ∷ in_braces (written_tree_renamed p h i).pieces)
    written_tree_renamed (attribute n p) h =
        λ i. node_text closed (keyword (codes "attribute") ∷ space
        ∷ ((written_name_renamed n h.0 i).pieces ++ in_braces (written_tree_renamed p h.1 i).pieces))
    written_tree_renamed (element n p) h =
        λ i. node_text closed (keyword (codes "element") ∷ space
        ∷ ((written_name_renamed n h.0 i).pieces ++ in_braces (written_tree_renamed p h.1 i).pieces))
    written_tree_renamed (one_or_more p) h = λ i. written_repeat (written_tree_renamed p h i)
    written_tree_renamed (group ps) h = λ i. node_text chained (chain comma (written_trees_renamed ps h i))
    written_tree_renamed (interleave ps) h = λ i. written_interleave (written_trees_renamed ps h i)
    written_tree_renamed (choice ps) h = λ i. written_choice (written_trees_renamed ps h i)

    written_trees_renamed : (ps : Trees) → HaveKnownUris Known ps
        → written_trees g (renamed_trees named ps) ≡ written_trees f ps
    written_trees_renamed no_trees h = refl
    written_trees_renamed (more_trees p ps) h = λ i. written_tree_renamed p h.0 i ∷ written_trees_renamed ps h.1 i
