-- The parts of a choice of name classes: its members in canonical form, and in the place of a choice among them the parts of that.
use Rattle.std.specs.Prelude.{List, [], ◌∷◌, ◌++◌}
use Rattle.rn_pattern.specs.Tree.{NameTree, NameTrees, name_choice, no_names, more_names}
use Rattle.rn_pattern.specs.Canonical.{canonical_name}

abbrev mutual
  pub name_parts_of : NameTree → List NameTree
  name_parts_of (name_choice cs) = name_parts cs
  name_parts_of c = canonical_name c ∷ []

  pub name_parts : NameTrees → List NameTree
  name_parts no_names = []
  name_parts (more_names c cs) = name_parts_of c ++ name_parts cs
