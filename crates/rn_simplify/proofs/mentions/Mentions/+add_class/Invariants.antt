use Rattle.std.proofs.Common.{map, take}
use Rattle.rn_pattern.specs.Tree.{name_trees_of}
use Rattle.rn_pattern.specs.View.{name_class_view}
use Rattle.rn_simplify.specs.inside.Gathers.{Gathers, by_names}
use Rattle.rn_simplify.proofs.mentions.Mentions.+add_class.Given as goal

abbrev pub invariant-add_classes-loop-member : goal.invariant-add_classes-loop-member
invariant-add_classes-loop-member l = Gathers (by_names (name_trees_of (map name_class_view (take l.member-index l.members)))) l.initial.self l.self
