-- The parts of a list of patterns: its members, and in the place of a list of its kind the parts of that (RELAX NG 2001, 4.12).
use Rattle.std.specs.Prelude.{List, [], ◌∷◌, ◌++◌}
use Rattle.rn_pattern.specs.Tree.{Tree, Trees, group, interleave, choice, no_trees, more_trees}
use Rattle.rn_pattern.specs.Canonical.{choice_step, group_step, interleave_step}
use Rattle.rn_simplify.specs.declared.stored_forms.ListKind.{ListKind}

abbrev mutual
  pub parts_of : ListKind → Tree → List Tree
  parts_of ListKind.Group (group ps) = parts ListKind.Group ps
  parts_of ListKind.Interleave (interleave ps) = parts ListKind.Interleave ps
  parts_of ListKind.Choice (choice ps) = parts ListKind.Choice ps
  parts_of kind p = p ∷ []

  pub parts : ListKind → Trees → List Tree
  parts kind no_trees = []
  parts kind (more_trees p ps) = parts_of kind p ++ parts kind ps

-- the canonical form of a list of the kind, whose members are canonical (4.20 and 4.21)
abbrev pub members_step : ListKind → List Tree → Tree
members_step ListKind.Group = group_step
members_step ListKind.Interleave = interleave_step
members_step ListKind.Choice = choice_step
