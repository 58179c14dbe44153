-- The kind of the canonical form of a pattern: notAllowed, empty or neither, once 4.20 and 4.21 of RELAX NG 2001 are applied.
use Rattle.std.specs.Prelude.{List, map, slice_index_or}
use Rattle.std.specs.Option.{option_map_or}
use Rattle.rn_pattern.specs.Tree as t
use Rattle.rn_pattern.specs.Tree.{Tree, Trees, no_trees, more_trees}
use Rattle.rn_text.specs.Texts.{Text}
use Rattle.rn_pattern.specs.Canonical.{canonical, canonical_all}
use Rattle.rn_simplify.specs.inside.DefinitionNumbers.{number_of}
use Rattle.rn_assemble.specs.GrammarView.{definitions_view}
use Rattle.rn_simplify.specs.declared.settled_definitions.SettledDefinitions.{SettledDefinitions}
use Rattle.rn_simplify.specs.declared.form_kind.FormKind.{FormKind}

-- the kind of a pattern in canonical form
abbrev pub kind_of : Tree → FormKind
kind_of t.not_allowed = FormKind.NotAllowed
kind_of t.empty = FormKind.Empty
kind_of p = FormKind.Other

-- what a reference to the name becomes
abbrev pub stand_in : FormKind → Text → Tree
stand_in FormKind.NotAllowed x = t.not_allowed
stand_in FormKind.Empty x = t.empty
stand_in FormKind.Other x = t.ref x

-- notAllowed is passed on by a list and an attribute (4.20)
abbrev pub around : FormKind → FormKind
around FormKind.NotAllowed = FormKind.NotAllowed
around FormKind.Empty = FormKind.Other
around FormKind.Other = FormKind.Other

-- notAllowed is passed on by a group and an interleave (4.20), and empty left out (4.21)
abbrev pub both : FormKind → FormKind → FormKind
both FormKind.NotAllowed w = FormKind.NotAllowed
both FormKind.Empty w = w
both FormKind.Other w = around w

-- notAllowed is left out of a choice (4.20), and an alternative stands in it once
abbrev pub either : FormKind → FormKind → FormKind
either FormKind.NotAllowed w = w
either FormKind.Empty FormKind.NotAllowed = FormKind.Empty
either FormKind.Empty FormKind.Empty = FormKind.Empty
either FormKind.Empty FormKind.Other = FormKind.Other
either FormKind.Other w = FormKind.Other

-- the kind of the form of a pattern, by the kinds of the definitions; an element is itself whatever its content is
module _ (named : Text → FormKind) where
  abbrev mutual
    pub tree_kind : Tree → FormKind
    tree_kind t.not_allowed = FormKind.NotAllowed
    tree_kind t.empty = FormKind.Empty
    tree_kind t.text = FormKind.Other
    tree_kind (t.ref x) = named x
    tree_kind (t.value library type v) = FormKind.Other
    tree_kind (t.datum library type params) = FormKind.Other
    tree_kind (t.datum_but library type params p) = FormKind.Other
    tree_kind (t.list p) = around (tree_kind p)
    tree_kind (t.attribute c p) = around (tree_kind p)
    tree_kind (t.element c p) = FormKind.Other
    tree_kind (t.one_or_more p) = tree_kind p
    tree_kind (t.group ps) = group_kind ps
    tree_kind (t.interleave ps) = group_kind ps
    tree_kind (t.choice ps) = choice_kind ps

    pub group_kind : Trees → FormKind
    group_kind no_trees = FormKind.Empty
    group_kind (more_trees p ps) = both (tree_kind p) (group_kind ps)

    pub choice_kind : Trees → FormKind
    choice_kind no_trees = FormKind.NotAllowed
    choice_kind (more_trees p ps) = either (tree_kind p) (choice_kind ps)

-- the kind of the form of a name's definition, by the kind of each number; a name without one stays a reference
abbrev pub kind_at : List (Text × Tree) → List FormKind → Text → FormKind
kind_at ds kinds x = option_map_or (λ k. slice_index_or kinds k FormKind.Other) (number_of ds x) FormKind.Other

-- what the reference to a name becomes
abbrev pub becomes_by : List (Text × Tree) → List FormKind → Text → Tree
becomes_by ds kinds x = stand_in (kind_at ds kinds x) x

-- the canonical forms of definitions, by the kind of each number
abbrev pub settled_definitions : List (Text × Tree) → List FormKind → List (Text × Tree)
settled_definitions ds kinds = map (λ d. (d.0, canonical (becomes_by ds kinds) d.1)) ds

-- the kind of the form of a name's definition, by what the code holds
abbrev pub kind_in : SettledDefinitions → Text → FormKind
kind_in s = kind_at (definitions_view s.definitions.now.entries) s.kinds.items

-- what the reference to a name becomes, by what the code holds
abbrev pub becomes : SettledDefinitions → Text → Tree
becomes s = becomes_by (definitions_view s.definitions.now.entries) s.kinds.items

-- the canonical form of a pattern, whose references become what the code holds
abbrev pub settled_form : SettledDefinitions → Tree → Tree
settled_form s = canonical (becomes s)

-- the canonical forms of the members of a list
abbrev pub settled_forms : SettledDefinitions → Trees → List Tree
settled_forms s = canonical_all (becomes s)
