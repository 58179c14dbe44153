use Rattle.std.proofs.Common.{map}
use Rattle.rn_merge.specs.Runs.{IsUnionBefore}
use Rattle.rn_merge.proofs.run.read_bundles.Given as goal

abbrev pub invariant-loop-index : goal.invariant-loop-index
invariant-loop-index l = IsUnionBefore (map (λ bundle. bundle.items) l.bundles) l.index l.union
