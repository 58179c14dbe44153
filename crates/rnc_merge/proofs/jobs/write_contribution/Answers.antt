use Rattle.std.proofs.Common.{[], ◌∷◌, ◌∙◌, ap, inl, subst, sym}
use Rattle.rn_modset.specs.BundleGrammar.{IsBundle}
use Rattle.rn_modset.specs.Sets.{with_member}
use Rattle.rnc_merge.specs.inside.Steps.{one_member}
use Rattle.rnc_merge.proofs.jobs.write_contribution.Goals as goal

pub returns-in-Ok-clause-written : goal.returns-in-Ok-clause-written
returns-in-Ok-clause-written g c =
    let m = one_member c.args.name c.args.revision c.args.text in
    let one = c.in-Ok.ensures.ok.0 ∙ ap (λ s. with_member s m) c.new-set.ensures in
    let bundle = subst (λ s. IsBundle c.in_ok-write_bundle-in-Ok.field-0.items s) one c.in_ok-write_bundle-in-Ok.ensures in
    inl (c.as_slice.result.now, subst (λ bytes. IsBundle bytes (m ∷ [])) (sym c.as_slice.ensures.value) bundle, c.write.ensures)
