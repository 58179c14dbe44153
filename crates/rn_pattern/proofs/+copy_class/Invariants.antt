use Rattle.std.proofs.Common.{◌≡◌, map, take}
use Rattle.rn_pattern.specs.View.{name_class_view}
use Rattle.rn_pattern.proofs.+copy_class.Given as goal

abbrev pub invariant-copies::copy_classes-loop-class : goal.invariant-copies::copy_classes-loop-class
invariant-copies::copy_classes-loop-class l = map name_class_view l.copies.items ≡ map name_class_view (take l.class-index l.classes)
