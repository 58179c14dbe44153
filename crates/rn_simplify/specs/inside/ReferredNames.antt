-- The names that a pattern refers to (RELAX NG 2001, 4.18), in the order of the references.
use Rattle.std.specs.Prelude.{List, [], ◌∷◌, ◌++◌}
use Rattle.rn_pattern.specs.Tree.{Tree, Trees, ref, datum_but, list, attribute, element, one_or_more, group, interleave, choice, no_trees, more_trees}
use Rattle.rn_text.specs.Texts.{Text}

abbrev mutual
  pub references : Tree → List Text
  references (ref x) = x ∷ []
  references (datum_but l t ps p) = references p
  references (list p) = references p
  references (attribute c p) = references p
  references (element c p) = references p
  references (one_or_more p) = references p
  references (group ps) = all_references ps
  references (interleave ps) = all_references ps
  references (choice ps) = all_references ps
  references p = []

  pub all_references : Trees → List Text
  all_references no_trees = []
  all_references (more_trees p ps) = references p ++ all_references ps
