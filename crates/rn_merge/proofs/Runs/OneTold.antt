-- Runs over bundles that bring the same contributions tell one verdict.
use Rattle.std.proofs.Common.{◌≡◌, ◌≢◌, ℕ, Bool, List, refl, sym, subst}
use Rattle.std.specs.Prelude.{Option, Ok, Err}
use Rattle.rn_modset.specs.Contributions.{Member}
use Rattle.rn_simplify.specs.Verdict.{Verdict, prints, IsVerdict}
use Rattle.rn_merge.specs.declared.run.RunFault.{RunFault}
use Rattle.rn_merge.specs.declared.run.RunFault.TheVariants.{Bundle, Full, Memory, Write}
use Rattle.rn_merge.specs.declared.run.Status.{Status}
use Rattle.rn_merge.specs.declared.run.Status.TheVariants.{Done, Refused}
use Rattle.rn_merge.specs.Laws.{BringSame, Tells}
use Rattle.rn_merge.specs.Runs.{IsUnion, IsRun}
use Rattle.rn_merge.proofs.Runs.BroughtContributions.{one_union, never_full}
use Rattle.rn_merge.proofs.Verdicts.SetVerdict.{verdict_of_refusal, one_of_verdicts}

verdict_of_run : (bundles : List (List ℕ)) (old new : Option (List ℕ)) (failed : Bool) (status : Status) → IsRun bundles old new failed (Ok status) → (s : List Member) × (v : Verdict) × IsUnion bundles s × IsVerdict s v × Tells old new status v
verdict_of_run bundles old new failed Done (s, u, (text, is, appends, sound)) = (s, prints text, u, is.verdict, (text, refl, appends))
verdict_of_run bundles old new failed (Refused q) (s, u, h) = let (v, e, is) = verdict_of_refusal s q h in (s, v, u, is, e)

pub one_told : (bundles others : List (List ℕ)) (old new before after : Option (List ℕ)) (failed broken : Bool) (status other : Status)
    → IsRun bundles old new failed (Ok status) → IsRun others before after broken (Ok other) → BringSame bundles others → (v : Verdict) × Tells old new status v × Tells before after other v
one_told bundles others old new before after failed broken status other h k same =
    let (s, v, u, is, told) = verdict_of_run bundles old new failed status h in
    let (t, w, n, also, said) = verdict_of_run others before after broken other k in
    let e : v ≡ w = one_of_verdicts t v w (subst (λ (z : List Member). IsVerdict z v) (one_union bundles others s t u n same) is) also in
    (v, told, subst (Tells before after other) (sym e) said)

-- a run over the same contributions as one that is done is not full
pub run_never_full : (bundles others : List (List ℕ)) (old new before after : Option (List ℕ)) (failed broken : Bool) (status : Status) (fault : RunFault)
    → IsRun bundles old new failed (Ok status) → IsRun others before after broken (Err fault) → BringSame bundles others → fault ≢ Full
run_never_full bundles others old new before after failed broken status Full h k same =
    let (s, u, printed) = h in
    λ e. never_full bundles others s Full u same k e
run_never_full bundles others old new before after failed broken status (Bundle i f) h k same = λ e. cc
run_never_full bundles others old new before after failed broken status Memory h k same = λ e. cc
run_never_full bundles others old new before after failed broken status Write h k same = λ e. cc
