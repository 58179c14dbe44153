use Rattle.std.proofs.Common.{◌≡◌, map, drop}
use Rattle.std.specs.Cmp.Lexicographic.{slice_cmp}
use Rattle.rn_pattern.specs.Order.{tree_cmp}
use Rattle.rn_pattern.specs.View.{shared_view}
use Rattle.rn_pattern.proofs.+compare_patterns.Given as goal

abbrev pub invariant-order::compare_patterns-loop-k : goal.invariant-order::compare_patterns-loop-k
invariant-order::compare_patterns-loop-k l =
    slice_cmp tree_cmp (map shared_view l.ps) (map shared_view l.qs)
    ≡ slice_cmp tree_cmp (map shared_view (drop l.k l.ps)) (map shared_view (drop l.k l.qs))
