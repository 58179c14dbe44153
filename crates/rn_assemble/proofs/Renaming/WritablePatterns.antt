-- A pattern of known URIs can be written where it can with its URIs renamed, if those that become XML characters are such.
use Rattle.std.proofs.Common.{◌≡◌, ◌≢◌, ◌↔◌, false, ◌&&◌, [], ◌∷◌, codes, refl, sym, ap, ◌∙◌, subst}
use Rattle.rn_text.specs.Texts.{Text}
use Rattle.rn_pattern.specs.Tree.{Parameters, NameTree, NameTrees, any_name, any_name_but, ns_name, ns_name_but, name, name_choice, no_names, more_names, Tree, Trees, not_allowed, ref, value, datum, datum_but, list, attribute, element, one_or_more, group, interleave, choice, no_trees, more_trees}
use Rattle.rn_pattern.specs.Excepts.{IsExcept, AreExcepts}
use Rattle.rn_syntax.specs.Places.{is_context_type}
use Rattle.rn_assemble.specs.WritableTexts.{IsName, IsXml, AreParams, needs_context, IsType, string_type, token_type, library_type, IsData, bare, with_params, Free, IsWritableName, AreWritableNames, IsWritable, AreWritable}
use Rattle.rn_assemble.specs.Renamed.{renamed_class, renamed_classes, renamed_tree, renamed_trees, HasKnownNames, HaveKnownNames, HasKnownUris, HaveKnownUris, IsRenaming}
use Rattle.rn_assemble.proofs.Renaming.KnownTexts.{is_none, is_xsd}

-- ---- datatypes of libraries that are both empty or both not

named_type : (l x : Text) → l ≢ [] → IsName x → IsType Free l x
named_type [] x n h = absurd (n refl)
named_type (c ∷ l) x n h = library_type tt h

type_before : (l : Text) {m x : Text} → (m ≡ []) ↔ (l ≡ []) → IsType Free m x → IsType Free l x
type_before l e string_type = subst (λ k. IsType Free k (codes "string")) (sym (e.0 refl)) string_type
type_before l e token_type = subst (λ k. IsType Free k (codes "token")) (sym (e.0 refl)) token_type
type_before l e (library_type {c = c} {l = k} {x = x} f h) = named_type l x (λ d. let none : c ∷ k ≡ [] = e.1 d in cc) h

named_data : (l x : Text) (p : Text × Text) (ps : Parameters) → l ≢ [] → IsName x → AreParams (p ∷ ps) → IsData Free l x (p ∷ ps)
named_data [] x p ps n h a = absurd (n refl)
named_data (c ∷ l) x p ps n h a = with_params tt h a

data_before : (l : Text) {m x : Text} {ps : Parameters} → (m ≡ []) ↔ (l ≡ []) → IsData Free m x ps → IsData Free l x ps
data_before l e (bare t) = bare (type_before l e t)
data_before l e (with_params {c = c} {l = k} {x = x} {e = p} {es = ps} f h a) =
    named_data l x p ps (λ d. let none : c ∷ k ≡ [] = e.1 d in cc) h a

-- ---- excepts

module _ (named : Text → Text) where
  mutual
    pub except_before : (p : Tree) → IsExcept (renamed_tree named p) → IsExcept p
    except_before not_allowed h = tt
    except_before (value library type t) h = tt
    except_before (datum library type params) h = tt
    except_before (datum_but library type params p) h = except_before p h
    except_before (choice ps) h = excepts_before ps h
    except_before p h = absurd h

    pub excepts_before : (ps : Trees) → AreExcepts (renamed_trees named ps) → AreExcepts ps
    excepts_before no_trees h = tt
    excepts_before (more_trees p ps) h = (except_before p h.0, excepts_before ps h.1)

-- ---- patterns

module _ {named : Text → Text} {Known : Text → Type 0} (r : IsRenaming named Known)
    (xml : (u : Text) → Known u → IsXml (named u) → IsXml u) where
  mutual
    name_before : (c : NameTree) → HasKnownNames Known c → IsWritableName (renamed_class named c) → IsWritableName c
    name_before any_name k h = tt
    name_before (any_name_but c) k h = name_before c k h
    name_before (ns_name u) k h = xml u k h
    name_before (ns_name_but u c) k h = (xml u k.0 h.0, name_before c k.1 h.1)
    name_before (name u l) k h = (xml u k h.0, h.1)
    name_before (name_choice no_names) k h = h
    name_before (name_choice (more_names c cs)) k h = (name_before c k.0 h.0, names_before cs k.1 h.1)

    names_before : (cs : NameTrees) → HaveKnownNames Known cs → AreWritableNames (renamed_classes named cs) → AreWritableNames cs
    names_before no_names k h = tt
    names_before (more_names c cs) k h = (name_before c k.0 h.0, names_before cs k.1 h.1)

  context_before : (l x : Text) → Known l → needs_context (named l) x ≡ false → needs_context l x ≡ false
  context_before l x k e = ap (λ b. b && is_context_type x) (sym (is_xsd r l k)) ∙ e

  mutual
    pub IsWritable-before : (p : Tree) → HasKnownUris Known p → IsWritable (renamed_tree named p) → IsWritable p
    IsWritable-before (ref x) k h = h
    IsWritable-before (value l x s) k h = (xml l k h.0, type_before l (is_none r l k) h.1, context_before l x k h.2, h.3)
    IsWritable-before (datum l x ps) k h = (xml l k h.0, data_before l (is_none r l k) h.1)
    IsWritable-before (datum_but l x ps p) k h =
        (xml l k.0 h.0, data_before l (is_none r l k.0) h.1, except_before named p h.2, IsWritable-before p k.1 h.3)
    IsWritable-before (list p) k h = IsWritable-before p k h
    IsWritable-before (attribute c p) k h = (name_before c k.0 h.0, IsWritable-before p k.1 h.1)
    IsWritable-before (element c p) k h = (name_before c k.0 h.0, IsWritable-before p k.1 h.1)
    IsWritable-before (one_or_more p) k h = IsWritable-before p k h
    IsWritable-before (group ps) k h = AreWritable-before ps k h
    IsWritable-before (interleave ps) k h = AreWritable-before ps k h
    IsWritable-before (choice ps) k h = AreWritable-before ps k h
    IsWritable-before p k h = tt

    AreWritable-before : (ps : Trees) → HaveKnownUris Known ps → AreWritable (renamed_trees named ps) → AreWritable ps
    AreWritable-before no_trees k h = tt
    AreWritable-before (more_trees p ps) k h = (IsWritable-before p k.0 h.0, AreWritable-before ps k.1 h.1)
