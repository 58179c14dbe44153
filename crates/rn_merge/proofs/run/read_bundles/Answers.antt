use Rattle.std.proofs.Common.{◌≡◌, rules, sym, subst, ◌+◌, map}
use Rattle.rn_modset.specs.Sets.{union}
use Rattle.rn_merge.specs.Runs.{IsUnionBefore, HasNoUnion}
use Rattle.rn_merge.specs.inside.Outcomes.{join_fault}
use Rattle.rn_merge.proofs.Runs.BundleUnions.{one_more, no_union, refused_by}
use Rattle.rn_merge.proofs.run.read_bundles.Goals as goal

pub loop-index-preserved : goal.loop-index-preserved
loop-index-preserved c =
    let joined : c.in_ok-union.union ≡ union c.loop-index.union c.in-Ok.set = c.in_ok-union.ensures.ok in
    subst (IsUnionBefore (map (λ bundle. bundle.items) c.args.bundles.now) (c.loop-index.index + 1)) (sym joined)
    (one_more (λ bundle. bundle.items) _ _ _ c.loop-index.union c.in-Ok.set c.loop-index-test.true c.index-bundles-index.is (search rules) (search rules) c.loop-index.invariant)

pub returns-in_err-union-clause-err : goal.returns-in_err-union-clause-err
returns-in_err-union-clause-err c =
    refused_by (HasNoUnion (map (λ bundle. bundle.items) c.args.bundles.now)) c.from_residual.result (join_fault c.in_err-union.field-0.0) c.from_residual.ensures.1
    (no_union (λ bundle. bundle.items) _ _ _ c.loop-index.union c.in-Ok.set c.in_err-union.field-0.0 c.loop-index-test.true c.index-bundles-index.is (search rules) c.loop-index.invariant c.in_err-union.ensures.err)
