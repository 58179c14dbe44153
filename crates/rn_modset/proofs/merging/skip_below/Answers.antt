-- One more that is below, and the first that is not.
use Rattle.std.proofs.Common.{◌≡◌, ◌≢◌, ◌∷◌, sym, ap, subst, ◌∙◌}
use Rattle.std.specs.declared.cmp.Ordering.TheVariants.{Less}
use Rattle.rn_modset.specs.Contributions.{member, members_of, member_cmp}
use Rattle.rn_modset.specs.Sets.{Rises}
use Rattle.rn_modset.specs.inside.Merges.{IsNotBelow, KeepsFrom}
use Rattle.rn_modset.proofs.BundlesRead.EntryByEntry.{less_from_test, not_less_from_test}
use Rattle.rn_modset.proofs.Unions.MergedLists.{skip_one, rises_tail}
use Rattle.rn_modset.proofs.merging.skip_below.Goals as goal

pub loop-first-preserved : goal.loop-first-preserved
loop-first-preserved c =
    let m = member c.args.contribution.now in
    let x = member c.in-Some.first.now in
    let xs = members_of c.in-Some.behind.now in
    let e : members_of c.loop-first.rest.now ≡ x ∷ xs = ap members_of c.in-Some.ensures.cases.0 in
    let below : member_cmp x m ≡ Less = less_from_test c.in-Some.first.now c.args.contribution.now c.cmp.result c.cmp.ensures (sym c.is_lt.ensures ∙ c.if-not-is_lt.false) in
    (rises_tail x xs (subst Rises e c.loop-first.invariant.0), skip_one (members_of c.args.held.now) x xs m (subst (λ ys. KeepsFrom (members_of c.args.held.now) ys m) e c.loop-first.invariant.1) below)

pub returns-then-not-is_lt-clause-from : goal.returns-then-not-is_lt-clause-from
returns-then-not-is_lt-clause-from c =
    let m = member c.args.contribution.now in
    let x = member c.in-Some.first.now in
    let e : members_of c.loop-first.rest.now ≡ x ∷ members_of c.in-Some.behind.now = ap members_of c.in-Some.ensures.cases.0 in
    let from : member_cmp x m ≢ Less = not_less_from_test c.in-Some.first.now c.args.contribution.now c.cmp.result c.cmp.ensures (sym c.is_lt.ensures ∙ c.if-not-is_lt.true) in
    subst (λ ys. IsNotBelow ys m) (sym e) from
