-- A pattern of known URIs keeps the restrictions on name classes if and only if it does so with its URIs renamed.
use mathlib.Core.Logic.Iff
use Rattle.std.proofs.Common.{◌↔◌}
use Rattle.rn_text.specs.Texts.{Text}
use Rattle.rn_pattern.specs.Tree.{NameTree, NameTrees, any_name, any_name_but, ns_name, ns_name_but, name, name_choice, no_names, more_names, Tree, Trees, datum_but, list, attribute, element, one_or_more, group, interleave, choice, no_trees, more_trees}
use Rattle.rn_pattern.specs.NameRules.{HasNoAny, HaveNoAny, HasNamesAlone, HaveNamesAlone, HasNameExcepts, HaveNameExcepts, HasNoDeclaration, HaveNoDeclaration, KeepsNameRules, KeepNameRules}
use Rattle.rn_assemble.specs.Renamed.{renamed_class, renamed_classes, renamed_tree, renamed_trees, HasKnownNames, HaveKnownNames, HasKnownUris, HaveKnownUris, IsRenaming}
use Rattle.rn_assemble.proofs.Renaming.AlikeFacts.{three}
use Rattle.rn_assemble.proofs.Renaming.KnownTexts.{is_none, is_declares}

module _ (named : Text → Text) where
  mutual
    no_any : (c : NameTree) → HasNoAny (renamed_class named c) ↔ HasNoAny c
    no_any any_name = Iff.rfl
    no_any (any_name_but c) = Iff.rfl
    no_any (ns_name u) = Iff.rfl
    no_any (ns_name_but u c) = no_any c
    no_any (name u l) = Iff.rfl
    no_any (name_choice cs) = no_anys cs

    no_anys : (cs : NameTrees) → HaveNoAny (renamed_classes named cs) ↔ HaveNoAny cs
    no_anys no_names = Iff.rfl
    no_anys (more_names c cs) = Iff.and (no_any c) (no_anys cs)

  mutual
    names_alone : (c : NameTree) → HasNamesAlone (renamed_class named c) ↔ HasNamesAlone c
    names_alone any_name = Iff.rfl
    names_alone (any_name_but c) = Iff.rfl
    names_alone (ns_name u) = Iff.rfl
    names_alone (ns_name_but u c) = Iff.rfl
    names_alone (name u l) = Iff.rfl
    names_alone (name_choice cs) = all_names_alone cs

    all_names_alone : (cs : NameTrees) → HaveNamesAlone (renamed_classes named cs) ↔ HaveNamesAlone cs
    all_names_alone no_names = Iff.rfl
    all_names_alone (more_names c cs) = Iff.and (names_alone c) (all_names_alone cs)

  mutual
    excepts : (c : NameTree) → HasNameExcepts (renamed_class named c) ↔ HasNameExcepts c
    excepts any_name = Iff.rfl
    excepts (any_name_but c) = Iff.and (no_any c) (excepts c)
    excepts (ns_name u) = Iff.rfl
    excepts (ns_name_but u c) = Iff.and (names_alone c) (excepts c)
    excepts (name u l) = Iff.rfl
    excepts (name_choice cs) = all_excepts cs

    all_excepts : (cs : NameTrees) → HaveNameExcepts (renamed_classes named cs) ↔ HaveNameExcepts cs
    all_excepts no_names = Iff.rfl
    all_excepts (more_names c cs) = Iff.and (excepts c) (all_excepts cs)

module _ {named : Text → Text} {Known : Text → Type 0} (r : IsRenaming named Known) where
  mutual
    no_declaration : (c : NameTree) → HasKnownNames Known c → HasNoDeclaration (renamed_class named c) ↔ HasNoDeclaration c
    no_declaration any_name k = Iff.rfl
    no_declaration (any_name_but c) k = no_declaration c k
    no_declaration (ns_name u) k = is_declares r u k
    no_declaration (ns_name_but u c) k = Iff.and (is_declares r u k.0) (no_declaration c k.1)
    no_declaration (name u l) k = Iff.and (Iff.not (Iff.and (is_none r u k) Iff.rfl)) (is_declares r u k)
    no_declaration (name_choice cs) k = no_declarations cs k

    no_declarations : (cs : NameTrees) → HaveKnownNames Known cs
        → HaveNoDeclaration (renamed_classes named cs) ↔ HaveNoDeclaration cs
    no_declarations no_names k = Iff.rfl
    no_declarations (more_names c cs) k = Iff.and (no_declaration c k.0) (no_declarations cs k.1)

  mutual
    pub KeepsNameRules-renamed : (p : Tree) → HasKnownUris Known p → KeepsNameRules (renamed_tree named p) ↔ KeepsNameRules p
    KeepsNameRules-renamed (datum_but library type params p) k = KeepsNameRules-renamed p k.1
    KeepsNameRules-renamed (list p) k = KeepsNameRules-renamed p k
    KeepsNameRules-renamed (attribute c p) k = three (excepts named c) (no_declaration c k.0) (KeepsNameRules-renamed p k.1)
    KeepsNameRules-renamed (element c p) k = Iff.and (excepts named c) (KeepsNameRules-renamed p k.1)
    KeepsNameRules-renamed (one_or_more p) k = KeepsNameRules-renamed p k
    KeepsNameRules-renamed (group ps) k = KeepNameRules-renamed ps k
    KeepsNameRules-renamed (interleave ps) k = KeepNameRules-renamed ps k
    KeepsNameRules-renamed (choice ps) k = KeepNameRules-renamed ps k
    KeepsNameRules-renamed p k = Iff.rfl

    KeepNameRules-renamed : (ps : Trees) → HaveKnownUris Known ps → KeepNameRules (renamed_trees named ps) ↔ KeepNameRules ps
    KeepNameRules-renamed no_trees k = Iff.rfl
    KeepNameRules-renamed (more_trees p ps) k = Iff.and (KeepsNameRules-renamed p k.0) (KeepNameRules-renamed ps k.1)
