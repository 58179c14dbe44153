use Rattle.std.proofs.Common.{◌≡◌, ◌++◌, map, take}
use Rattle.rn_pattern.specs.inside.NameParts.{name_parts}
use Rattle.rn_pattern.specs.Tree.{name_trees_of}
use Rattle.rn_pattern.specs.View.{name_class_view}
use Rattle.rn_pattern.proofs.+canonical_name.Given as goal

abbrev pub invariant-name_class::push_parts-loop-member : goal.invariant-name_class::push_parts-loop-member
invariant-name_class::push_parts-loop-member l =
    map name_class_view l.parts.items ≡ map name_class_view l.initial.parts.items ++ name_parts (name_trees_of (map name_class_view (take l.member-index l.members)))
