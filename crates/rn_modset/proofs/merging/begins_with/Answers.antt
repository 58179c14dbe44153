-- The first tells it.
use Rattle.std.proofs.Common.{◌≡◌, ◌≢◌, ◌∷◌, refl, sym, ap, ◌∙◌, subst}
use Rattle.std.specs.Ordering.{is_eq}
use Rattle.std.specs.declared.cmp.Ordering.TheVariants.{Less}
use Rattle.rn_modset.specs.Contributions.{member, members_of, member_cmp}
use Rattle.rn_modset.specs.Sets.{Rises, has}
use Rattle.rn_modset.specs.inside.Merges.{IsNotBelow}
use Rattle.rn_modset.proofs.OrderedMembers.ProgramOrder.{same_order}
use Rattle.rn_modset.proofs.Unions.MergedLists.{begins_by}
use Rattle.rn_modset.proofs.merging.begins_with.Goals as goal

pub returns-in-Some : goal.returns-in-Some
returns-in-Some c =
    let m = member c.args.contribution.now in
    let x = member c.in-Some.first.now in
    let xs = members_of c.in-Some.field-0-1.now in
    let e : members_of c.args.rest.now ≡ x ∷ xs = ap members_of c.in-Some.ensures.cases.0 in
    let from : member_cmp x m ≢ Less = subst (λ ys. IsNotBelow ys m) e c.requires.from in
    c.is_eq.ensures ∙ ap is_eq (c.cmp.ensures ∙ same_order c.in-Some.first.now c.args.contribution.now) ∙ begins_by x xs m (member_cmp x m) refl (subst Rises e c.requires.rises) from ∙ ap (λ ys. has ys m) (sym e)
