-- The shape of canonical patterns and name classes: lists of two members or more, in order, no list in a list of its kind, and notAllowed and empty only where they say something (RELAX NG 2001, 4.20 and 4.21).
use Rattle.std.specs.Prelude.{◌≡◌, All, Bool, true, false, List, [], ◌∷◌, ⊤}
use Rattle.std.specs.List.Sorted.{IsStrictlySortedBy}
use Rattle.std.specs.declared.cmp.Ordering.{Ordering}
use Rattle.std.specs.Ordering.{is_lt}
use Rattle.rn_pattern.specs.Tree.{NameTree, NameTrees, any_name_but, ns_name_but, name_choice, no_names, more_names, name_list_of, Tree, Trees, not_allowed, empty, ref, datum_but, list, attribute, element, one_or_more, group, interleave, choice, no_trees, more_trees, list_of}
use Rattle.rn_text.specs.Texts.{Text}
use Rattle.rn_pattern.specs.Order.{name_cmp, tree_cmp}
use Rattle.rn_pattern.specs.Canonical.{is_not_allowed}

module _ {X : Type 0} (R : X → X → Ordering) where
  -- no member of the list is less than x
  abbrev pub NoneBelow : X → List X → Type 0
  NoneBelow x [] = ⊤
  NoneBelow x (y ∷ ys) = (is_lt (R y x) ≡ false) × NoneBelow x ys

  -- the list is in order; equal members may stand side by side
  abbrev pub IsAscending : List X → Type 0
  IsAscending [] = ⊤
  IsAscending (x ∷ xs) = NoneBelow x xs × IsAscending xs

abbrev pub is_several : {X : Type 0} → List X → Bool
is_several [] = false
is_several (x ∷ []) = false
is_several (x ∷ y ∷ ys) = true

-- the name class may be a member of a canonical choice of name classes
abbrev pub is_no_choice : NameTree → Bool
is_no_choice (name_choice cs) = false
is_no_choice c = true

abbrev pub is_single : {X : Type 0} → List X → Bool
is_single [] = false
is_single (x ∷ []) = true
is_single (x ∷ y ∷ ys) = false

-- members of a choice of names are no choices, in order, each once, and not one alone
abbrev mutual
  pub IsCanonicalName : NameTree → Type 0
  IsCanonicalName (any_name_but c) = IsCanonicalName c
  IsCanonicalName (ns_name_but u c) = IsCanonicalName c
  IsCanonicalName (name_choice cs) = AreCanonicalNames cs × (is_single (name_list_of cs) ≡ false) × IsStrictlySortedBy name_cmp (name_list_of cs)
  IsCanonicalName c = ⊤

  pub AreCanonicalNames : NameTrees → Type 0
  AreCanonicalNames no_names = ⊤
  AreCanonicalNames (more_names c cs) = (IsCanonicalName c × (is_no_choice c ≡ true)) × AreCanonicalNames cs

-- the pattern may be a member of a canonical choice (4.20)
abbrev pub may_choose : Tree → Bool
may_choose not_allowed = false
may_choose (choice ps) = false
may_choose p = true

abbrev pub may_group : Tree → Bool
may_group not_allowed = false
may_group empty = false
may_group (group ps) = false
may_group p = true

abbrev pub may_interleave : Tree → Bool
may_interleave not_allowed = false
may_interleave empty = false
may_interleave (interleave ps) = false
may_interleave p = true

abbrev pub may_repeat : Tree → Bool
may_repeat not_allowed = false
may_repeat empty = false
may_repeat (one_or_more p) = false
may_repeat p = true

-- the pattern is canonical, and each reference in it is to a name of which `Named` holds
module _ (Named : Text → Type 0) where
  abbrev mutual
    pub IsCanonical : Tree → Type 0
    IsCanonical (ref x) = Named x
    IsCanonical (datum_but l x ps p) = IsCanonical p × (is_not_allowed p ≡ false)
    IsCanonical (list p) = IsCanonical p × (is_not_allowed p ≡ false)
    IsCanonical (attribute c p) = IsCanonicalName c × IsCanonical p × (is_not_allowed p ≡ false)
    IsCanonical (element c p) = IsCanonicalName c × IsCanonical p
    IsCanonical (one_or_more p) = IsCanonical p × (may_repeat p ≡ true)
    IsCanonical (group ps) = AreCanonical may_group ps × (is_several (list_of ps) ≡ true)
    IsCanonical (interleave ps) = AreCanonical may_interleave ps × (is_several (list_of ps) ≡ true) × IsAscending tree_cmp (list_of ps)
    IsCanonical (choice ps) = AreCanonical may_choose ps × (is_several (list_of ps) ≡ true) × IsStrictlySortedBy tree_cmp (list_of ps)
    IsCanonical p = ⊤

    pub AreCanonical : (Tree → Bool) → Trees → Type 0
    AreCanonical test no_trees = ⊤
    AreCanonical test (more_trees p ps) = (IsCanonical p × (test p ≡ true)) × AreCanonical test ps

-- a canonical pattern may refer to every name
abbrev pub AnyName : Text → Type 0
AnyName x = ⊤

abbrev pub IsCanonicalPattern : Tree → Type 0
IsCanonicalPattern = IsCanonical AnyName

-- what the step makes of a canonical pattern is canonical
abbrev pub KeepsCanonical : (Tree → Tree) → Type 0
KeepsCanonical step = (p : Tree) → IsCanonicalPattern p → IsCanonicalPattern (step p)

-- what the step makes of a list of canonical patterns is canonical
abbrev pub MakesCanonical : (List Tree → Tree) → Type 0
MakesCanonical step = (ps : List Tree) → All IsCanonicalPattern ps → IsCanonicalPattern (step ps)
