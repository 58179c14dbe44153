use Rattle.std.proofs.Common.{◌≡◌, map, drop}
use Rattle.std.specs.Cmp.Lexicographic.{slice_cmp}
use Rattle.rn_pattern.specs.Order.{name_cmp}
use Rattle.rn_pattern.specs.View.{name_class_view}
use Rattle.rn_pattern.proofs.+compare_names.Given as goal

abbrev pub invariant-order::compare_name_classes-loop-k : goal.invariant-order::compare_name_classes-loop-k
invariant-order::compare_name_classes-loop-k l =
    slice_cmp name_cmp (map name_class_view l.cs) (map name_class_view l.ds)
    ≡ slice_cmp name_cmp (map name_class_view (drop l.k l.cs)) (map name_class_view (drop l.k l.ds))
